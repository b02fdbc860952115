-- Disks that were taken from the yard, and are still as they were kept.
use Rattle.std.specs.Prelude.{◌≡◌, Bool, List, [], ◌∷◌, ⊤, Some}
use Rattle.vd_disk.specs.Disk.{DiskSeen}
use Rattle.plan_types.specs.declared.store.StorePlan.{StorePlan}
use Rattle.vd_yard.specs.Kept.{Kept, kept_at, keep_at}

-- Each of these disks, one for each of the first stores, is the one that is kept of that store's journal.
abbrev pub AreStillKept : Kept DiskSeen → List StorePlan → List DiskSeen → Type 0
AreStillKept kept stores [] = ⊤
AreStillKept kept [] (disk ∷ disks) = ⊥
AreStillKept kept (store ∷ stores) (disk ∷ disks) = (kept_at kept store.journal ≡ Some disk) × AreStillKept kept stores disks

-- the kept disks once these came back, one after the other
abbrev pub keep_all : Bool → Kept DiskSeen → List StorePlan → List DiskSeen → Kept DiskSeen
keep_all tells kept (store ∷ stores) (disk ∷ disks) = keep_all tells (keep_at tells kept store.journal disk) stores disks
keep_all tells kept stores disks = kept
