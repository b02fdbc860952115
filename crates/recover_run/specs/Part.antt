-- What verifying some blocks of a store does.
use Rattle.std.specs.Prelude.{◌≡◌, ℕ, ◌+◌, ◌^◌, ◌-◌, ◌≤◌, min, IsTrue, List, ◌++◌, Some, count_by, slice_get}
use Rattle.vd_base.specs.Geometry.{Shape}
use Rattle.vd_base.specs.declared.geometry.StoreId.{StoreId}
use Rattle.key_state.specs.declared.entry.Entry.{Entry}
use Rattle.block_verdict.specs.declared.finding.Finding.{Finding}
use Rattle.vd_arm.specs.Arm.{PassSeen, ArmSeen, Counted}
use Rattle.recover_run.specs.declared.look.Look.{Look}
use Rattle.recover_run.specs.Looks.{AreLooks, findings_from, settled_from, is_seen, is_unread}

-- the passes of consecutive blocks, from a number on
pub record ArePart (first : ℕ) (shape : Shape) (passes : List PassSeen) : Type 0 where
  pub blocks : (i : ℕ) (pass : PassSeen) → slice_get passes i ≡ Some pass → pass.block ≡ first + i
  pub sizes : (i : ℕ) (pass : PassSeen) → slice_get passes i ≡ Some pass → pass.size ≡ shape.block_size

-- What the looks left of an arm: it read the seen blocks well, and failed once for each block that couldn't be read.
pub record Called (looks : List Look) (old new : ArmSeen) : Type 0 where
  pub reads : Counted (count_by is_seen looks) old.good_reads new.good_reads
  pub writes : new.good_writes ≡ old.good_writes
  pub later : old.faults ≤ new.faults
  pub rose : min (old.faults + count_by is_unread looks) (2 ^ 64 - 1) ≤ new.faults
  pub kept : count_by is_unread looks ≡ 0 → new.faults ≡ old.faults
  pub sure : IsTrue old.sure → IsTrue new.sure
  pub still : IsTrue old.sure → new.faults ≡ old.faults

-- so many blocks were read well, and each block has its look, its finding and its entry
pub record Verifies (id : StoreId) (first : ℕ) (entries : List Entry) (passes : List PassSeen) (looks : List Look)
    (found_before found_now : List Finding) (settled_before settled_now : List Entry) (many : ℕ) : Type 0 where
  pub looked : AreLooks id entries passes looks
  pub found : found_now ≡ found_before ++ findings_from first entries looks
  pub settled : settled_now ≡ settled_before ++ settled_from entries looks
  pub counted : many ≡ count_by is_seen looks
