-- What an opened or made disk is, by what was kept at its path.
use Rattle.std.specs.Prelude.{◌≡◌, ◌⊎◌, ℕ, ◌≤◌, List, [], ◌∷◌, ◌++◌, length, replicate, Option, Some, None}
use Rattle.vd_disk.specs.Disk.{DiskSeen, Sectors, Rests, WhenTold, longer_table, present, told_longer, zeros}

-- a disk that was made just now: it has zeros, is at rest, and has no fault
pub record Made (handed : DiskSeen) : Type 0 where
  pub faults : handed.faults ≡ 0
  pub reads : WhenTold handed.told (λ sectors. sectors ≡ replicate handed.sectors zeros)
  pub rests : Rests handed
  pub fresh : length handed.moments ≤ 1

-- A kept disk, made longer by zeros at most: what stood there stays, and a lengthening is one moment more.
pub record Longer (kept handed : DiskSeen) : Type 0 where
  pub sectors : kept.sectors ≤ handed.sectors
  pub reads : handed.told ≡ told_longer handed.sectors kept.told
  pub faults : handed.faults ≡ kept.faults
  pub sure : handed.sure ≡ kept.sure
  pub moments : (handed.moments ≡ kept.moments) ⊎ (handed.moments ≡ kept.moments ++ longer_table handed.sectors (present kept.moments) ∷ [])

abbrev pub HandsOut : Option DiskSeen → DiskSeen → Type 0
HandsOut None handed = Made handed
HandsOut (Some kept) handed = Longer kept handed
