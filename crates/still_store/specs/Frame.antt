-- What a part of a command leaves as it was.
use Rattle.std.specs.Prelude.{◌≡◌, ℕ, ◌≤◌, ◌<◌, IsTrue, List, Some, None}
use Rattle.vd_disk.specs.Disk.{DiskSeen}
use Rattle.plan_types.specs.declared.store.StorePlan.{StorePlan}
use Rattle.vd_yard.specs.Kept.{Kept, kept_at, bytes_at}
use Rattle.vd_yard.specs.Contents.{file_block}
use Rattle.vd_arm.specs.Arm.{Counted}
use Rattle.vd_yard.specs.Counts.{source_faults, arm_faults, good_writes}
use Rattle.vd_yard.specs.Yard.{YardSeen, StaysThere}

-- nothing of this part is out, what is told stays, no count of faults falls, and no path's good writes rose, modulo 2^64
pub record Keeps (old new : YardSeen) : Type 0 where
  pub out : new.out ≡ old.out
  pub tells : new.tells ≡ old.tells
  pub later : old.faults ≤ new.faults
  pub sources : (path : List ℕ) → source_faults old.counts path ≤ source_faults new.counts path
  pub arms : (path : List ℕ) → arm_faults old.counts path ≤ arm_faults new.counts path
  pub writes : (path : List ℕ) → Counted 0 (good_writes old.counts path) (good_writes new.counts path)
  pub willing : IsTrue old.willing → IsTrue new.willing
  pub files : StaysThere old.files new.files

-- the same, but for what is out
pub record Stays (old new : YardSeen) : Type 0 where
  pub tells : new.tells ≡ old.tells
  pub later : old.faults ≤ new.faults
  pub sources : (path : List ℕ) → source_faults old.counts path ≤ source_faults new.counts path
  pub arms : (path : List ℕ) → arm_faults old.counts path ≤ arm_faults new.counts path
  pub writes : (path : List ℕ) → Counted 0 (good_writes old.counts path) (good_writes new.counts path)
  pub willing : IsTrue old.willing → IsTrue new.willing
  pub files : StaysThere old.files new.files

-- a disk that was only read: it is as it was, but for its count of faults
pub record Unwritten (before now : DiskSeen) : Type 0 where
  pub same : now ≡ record before { faults = now.faults }
  pub later : before.faults ≤ now.faults

-- Each kept disk was only read, and where none is kept none came.
pub record JournalsStay (old new : Kept DiskSeen) : Type 0 where
  pub each : (path : List ℕ) (disk : DiskSeen) → kept_at old path ≡ Some disk → (now : DiskSeen) × (kept_at new path ≡ Some now) × Unwritten disk now
  pub none : (path : List ℕ) → kept_at old path ≡ None → kept_at new path ≡ None

-- Each block of the store has the bytes that it had, and other paths have what they had.
pub record BlocksStay (store : StorePlan) (old new : Kept (List ℕ)) : Type 0 where
  pub blocks : (block : ℕ) → block < store.id.geometry.blocks →
      file_block store.id.geometry.block_size block (bytes_at new store.path) ≡ file_block store.id.geometry.block_size block (bytes_at old store.path)
  pub others : (path : List ℕ) → (path ≡ store.path → ⊥) → kept_at new path ≡ kept_at old path
