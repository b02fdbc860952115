-- Stores that were verified, and whose passes are still out.
use Rattle.std.specs.Prelude.{◌≡◌, ⊤, ℕ, Bool, true, false, IsTrue, List, [], ◌∷◌, Result, Ok, Err, Some, count_by, length, map}
use Rattle.vd_base.specs.declared.geometry.StoreId.{StoreId}
use Rattle.vd_arm.specs.Arm.{PassSeen}
use Rattle.vd_yard.specs.Out.{AtArm, AtPasses, Out, one_more}
use Rattle.vd_yard.specs.Yard.{YardSeen}
use Rattle.plan_types.specs.declared.store.StorePlan.{StorePlan}
use Rattle.key_state.specs.declared.entry.Entry.{Entry}
use Rattle.key_state.specs.Entries.{AreEntries}
use Rattle.block_verdict.specs.Fits.{BytesFit}
use Rattle.journal_recover.specs.declared.found.Recovered.{Recovered}
use Rattle.recover_run.specs.declared.look.Look.{Look}
use Rattle.recover_run.specs.declared.look.Look.TheVariants.{Skipped, Unread, Sees}
use Rattle.recover_run.specs.Looks.{AreLooks, is_unread, settled_from}
use Rattle.run_report.specs.declared.status.Status.{Status}
use Rattle.run_report.specs.declared.status.Status.TheVariants as status
use Rattle.still_store.specs.Verification.{ArePassesOf}
use Rattle.still_plan.specs.Stores.{PathRose}
use Rattle.plan_verified.specs.declared.verified.VerifiedStore.{VerifiedStore}

-- all that contracts see of a store that was verified: its passes, and the entry that each block has now
abbrev pub StoreSeen : Type 0
StoreSeen = List PassSeen × List Entry

abbrev pub store_seen : {P : Type 0} → (P → PassSeen) → VerifiedStore P → StoreSeen
store_seen pass_seen store = (map pass_seen store.passes.items, store.settled.items)

abbrev pub passes_of : StoreSeen → List PassSeen
passes_of seen = seen.0

abbrev pub settled_of : StoreSeen → List Entry
settled_of seen = seen.1

-- What this pass tells fits this entry.
abbrev pub FitsTold : StoreId → PassSeen → Entry → Type 0
FitsTold id pass known = (bytes : List ℕ) → pass.told ≡ Some bytes → BytesFit id pass.block known bytes

-- the same, unless the block couldn't be read
abbrev pub FitsUnlessUnread : StoreId → PassSeen → Look → Entry → Type 0
FitsUnlessUnread id pass Skipped known = FitsTold id pass known
FitsUnlessUnread id pass (Sees verdict) known = FitsTold id pass known
FitsUnlessUnread id pass Unread known = ⊤

-- the same of each block
abbrev pub FitWhereRead : StoreId → List PassSeen → List Look → List Entry → Type 0
FitWhereRead id [] [] [] = ⊤
FitWhereRead id (pass ∷ passes) (look ∷ looks) (known ∷ entries) = FitsUnlessUnread id pass look known × FitWhereRead id passes looks entries
FitWhereRead id passes looks entries = ⊥

-- What these looks at the blocks of a store left: the passes through which it was looked, and a valid entry for each block. A block that was
-- read has the entry that its verdict leaves, and what its pass tells fits it; one that couldn't be read keeps its entry, and sure arms
-- leave none such.
pub record LeavesStore (old new : YardSeen) (store : StorePlan) (found : Recovered) (looks : List Look) (left : StoreSeen) : Type 0 where
  pub theirs : ArePassesOf old store (passes_of left)
  pub looked : AreLooks store.id found.entries.items (passes_of left) looks
  pub counts : PathRose old new store.path looks
  pub sure : IsTrue (old.tells.sure AtArm store.path) → count_by is_unread looks ≡ 0
  pub settled : settled_of left ≡ settled_from found.entries.items looks
  pub one_each : length (settled_of left) ≡ store.id.geometry.blocks
  pub valid : AreEntries (settled_of left)
  pub fit : FitWhereRead store.id (passes_of left) looks (settled_of left)

-- the same of each store, in order
abbrev pub LeaveStores : YardSeen → YardSeen → List StorePlan → List Recovered → List (List Look) → List StoreSeen → Type 0
LeaveStores old new [] [] [] [] = ⊤
LeaveStores old new (store ∷ stores) (found ∷ more) (looks ∷ seen) (left ∷ rest) =
    LeavesStore old new store found looks left × LeaveStores old new stores more seen rest
LeaveStores old new stores found seen left = ⊥

-- with the passes of these stores out besides
abbrev pub stores_out : List StorePlan → Out → Out
stores_out [] out = out
stores_out (store ∷ stores) out = one_more (stores_out stores out) AtPasses store.path

-- the status that was answered, whether the command goes on or not
abbrev pub answered : Result Status Status → Status
answered (Ok status) = status
answered (Err status) = status

-- the statuses that end the command at a store
abbrev pub is_stop : Status → Bool
is_stop status.Yard = true
is_stop status.Sink = true
is_stop status.NoMemory = true
is_stop other = false
