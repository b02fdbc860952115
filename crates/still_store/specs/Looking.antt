-- What a verification leaves in hand.
use Rattle.std.specs.Prelude.{◌≡◌, Bool, true, false, IsTrue, List, [], count_by}
use Rattle.key_state.specs.declared.entry.Entry.{Entry}
use Rattle.plan_types.specs.declared.store.StorePlan.{StorePlan}
use Rattle.recover_run.specs.declared.look.Look.{Look}
use Rattle.recover_run.specs.Looks.{AreLooks, is_unread}
use Rattle.run_report.specs.declared.finding.Verified.{Verified}
use Rattle.still_store.specs.Verification.{ArePassesOf, CountsRose, counted_of}
use Rattle.vd_arm.specs.Arm.{PassSeen}
use Rattle.vd_yard.specs.Out.{AtArm}
use Rattle.vd_yard.specs.Yard.{YardSeen}

-- the settled entries that a new piece finds: those of the pieces before, where they are collected
abbrev pub carried : Bool → List Entry → List Entry
carried true entries = entries
carried false entries = []

-- These are the store's passes, through which its blocks were looked at so, and what was counted. Each block of sure arms was readable.
pub record Leaves (old new : YardSeen) (store : StorePlan) (entries : List Entry) (passes : List PassSeen) (looks : List Look) (counted : Verified) : Type 0 where
  pub theirs : ArePassesOf old store passes
  pub looked : AreLooks store.id entries passes looks
  pub counts : counted ≡ counted_of entries looks
  pub rose : CountsRose old new store.path looks
  pub sure : IsTrue (old.tells.sure AtArm store.path) → count_by is_unread looks ≡ 0
