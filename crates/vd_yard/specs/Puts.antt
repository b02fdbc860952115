-- What a yard tells once something was put at a path.
use Rattle.std.specs.Prelude.{◌≡◌, ℕ, true, false, List, Some, None, IsTrue}
use Rattle.vd_outside.specs.Streams.{is_empty}
use Rattle.vd_disk.specs.Disk.{DiskSeen}
use Rattle.vd_yard.specs.Out.{Kind, AtSource, AtDisk, AtPasses, AtArm, nothing_out}
use Rattle.vd_yard.specs.Counts.{no_counts}
use Rattle.vd_yard.specs.Yard.{YardSeen, is_there, StaysThere}
use Rattle.vd_yard.specs.Kept.{keep_at, kept_at}

-- What is out and counted, what a source tells and which files are there stays; so do the disks and the bytes that are kept.
pub record Keeps (old new : YardSeen) : Type 0 where
  pub faults : new.faults ≡ old.faults
  pub out : new.out ≡ old.out
  pub counts : new.counts ≡ old.counts
  pub bytes : new.tells.bytes ≡ old.tells.bytes
  pub sources_sure : (path : List ℕ) → new.tells.sure AtSource path ≡ old.tells.sure AtSource path
  pub keeps_disks : new.tells.keeps_disks ≡ old.tells.keeps_disks
  pub keeps_contents : new.tells.keeps_contents ≡ old.tells.keeps_contents
  pub willing : new.willing ≡ old.willing
  pub files : StaysThere old.files new.files
  pub disks : new.disks ≡ old.disks
  pub contents : new.contents ≡ old.contents

-- a file whose sources give these bytes, and fail in these reads
pub record PutsFile (path bytes failing : List ℕ) (old new : YardSeen) : Type 0 where
  pub here : new.tells.bytes path ≡ Some bytes
  pub sure_here : new.tells.sure AtSource path ≡ is_empty failing
  pub there : IsTrue (is_there new.files AtSource path)
  pub others : (q : List ℕ) → (q ≡ path → ⊥) → new.tells.bytes q ≡ old.tells.bytes q
  pub others_sure : (q : List ℕ) → (q ≡ path → ⊥) → new.tells.sure AtSource q ≡ old.tells.sure AtSource q
  pub arms_sure : (q : List ℕ) → new.tells.sure AtArm q ≡ old.tells.sure AtArm q
  pub faults : new.faults ≡ old.faults
  pub out : new.out ≡ old.out
  pub counts : new.counts ≡ old.counts
  pub keeps_disks : new.tells.keeps_disks ≡ old.tells.keeps_disks
  pub keeps_contents : new.tells.keeps_contents ≡ old.tells.keeps_contents
  pub willing : new.willing ≡ old.willing
  pub files : StaysThere old.files new.files
  pub disks : new.disks ≡ old.disks
  pub contents : new.contents ≡ old.contents

-- a disk
pub record PutsDisk (path : List ℕ) (disk : DiskSeen) (old new : YardSeen) : Type 0 where
  pub disks : new.disks ≡ keep_at true old.disks path disk
  pub there : IsTrue (is_there new.files AtDisk path)
  pub faults : new.faults ≡ old.faults
  pub out : new.out ≡ old.out
  pub counts : new.counts ≡ old.counts
  pub tells : new.tells ≡ old.tells
  pub willing : new.willing ≡ old.willing
  pub files : StaysThere old.files new.files
  pub contents : new.contents ≡ old.contents

-- a data file, whose arms fail in these calls
pub record PutsData (path held : List ℕ) (failing : List (ℕ × ℕ × ℕ)) (old new : YardSeen) : Type 0 where
  pub contents : new.contents ≡ keep_at true old.contents path held
  pub there : IsTrue (is_there new.files AtPasses path)
  pub sure_here : new.tells.sure AtArm path ≡ is_empty failing
  pub others_sure : (q : List ℕ) → (q ≡ path → ⊥) → new.tells.sure AtArm q ≡ old.tells.sure AtArm q
  pub sources_sure : (q : List ℕ) → new.tells.sure AtSource q ≡ old.tells.sure AtSource q
  pub faults : new.faults ≡ old.faults
  pub out : new.out ≡ old.out
  pub counts : new.counts ≡ old.counts
  pub bytes : new.tells.bytes ≡ old.tells.bytes
  pub keeps_disks : new.tells.keeps_disks ≡ old.tells.keeps_disks
  pub keeps_contents : new.tells.keeps_contents ≡ old.tells.keeps_contents
  pub willing : new.willing ≡ old.willing
  pub files : StaysThere old.files new.files
  pub disks : new.disks ≡ old.disks

-- Nothing is there, nothing is out, nothing was counted, and no call is refused.
pub record IsEmpty (yard : YardSeen) : Type 0 where
  pub faults : yard.faults ≡ 0
  pub out : yard.out ≡ nothing_out
  pub counts : yard.counts ≡ no_counts
  pub bytes : (path : List ℕ) → yard.tells.bytes path ≡ None
  pub sure : (kind : Kind) (path : List ℕ) → yard.tells.sure kind path ≡ true
  pub keeps_disks : yard.tells.keeps_disks ≡ true
  pub keeps_contents : yard.tells.keeps_contents ≡ true
  pub willing : yard.willing ≡ true
  pub files : (kind : Kind) (path : List ℕ) → is_there yard.files kind path ≡ false
  pub disks : (path : List ℕ) → kept_at yard.disks path ≡ None
  pub contents : (path : List ℕ) → kept_at yard.contents path ≡ None
