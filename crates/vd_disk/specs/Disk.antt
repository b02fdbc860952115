-- A disk of sectors, and what a stop may leave of it.
use Rattle.std.specs.Prelude.{◌≡◌, ◌⊎◌, ℕ, Bool, ◌-◌, ◌≤◌, ◌<◌, List, [], ◌∷◌, ◌++◌, length, replicate, take, map, Contains, slice_index_or, slice_set, Option, Some, None, Result, OnErr, OnOk, All}

-- the sectors of a disk, each by its bytes
abbrev pub Sectors : Type 0
Sectors = List (List ℕ)

-- sector by sector, the contents that it may have after a stop, the oldest first
abbrev pub Table : Type 0
Table = List Sectors

-- All that contracts see of a disk: how many sectors; these as a read gives them, where it tells; its count of faults; whether it
-- tells that no read fails; and, moment by moment, what a stop may leave. The clock is the number of moments.
pub record DiskSeen : Type 0 where
  pub sectors : ℕ
  pub told : Option Sectors
  pub faults : ℕ
  pub sure : Bool
  pub moments : List Table

-- a claim on what an object tells
abbrev pub WhenTold : {X : Type 0} → Option X → (X → Type 0) → Type 0
WhenTold {X} told P = (x : X) → told ≡ Some x → P x

abbrev pub sector_at : Sectors → ℕ → List ℕ
sector_at sectors at = slice_index_or sectors at []

-- Each sector has, independently, one of the contents that it may have.
pub record IsImage (table : Table) (image : Sectors) : Type 0 where
  pub size : length image ≡ length table
  pub each : (i : ℕ) → i < length table → Contains (slice_index_or table i []) (sector_at image i)

-- the table of the last moment
abbrev pub present : List Table → Table
present moments = slice_index_or moments (length moments - 1) []

-- an image of this moment
pub record IsImageAt (moments : List Table) (moment : ℕ) (image : Sectors) : Type 0 where
  pub reached : moment < length moments
  pub left : IsImage (slice_index_or moments moment []) image

-- A write adds one content.
abbrev pub written : ℕ → List ℕ → Table → Table
written at bytes table = slice_set table at (slice_index_or table at [] ++ bytes ∷ [])

-- A sync that answered Ok leaves what a read gives.
abbrev pub settled : Sectors → Table
settled sectors = map (λ sector. sector ∷ []) sectors

-- a sector of zeros
abbrev pub zeros : List ℕ
zeros = replicate 512 0

-- as many sectors more as there are too few, which have zeros alone
abbrev pub longer : ℕ → Sectors → Sectors
longer size sectors = sectors ++ replicate (size - length sectors) zeros

abbrev pub longer_table : ℕ → Table → Table
longer_table size table = table ++ replicate (size - length table) (zeros ∷ [])

-- The earlier moments are as they were.
pub record Extends (old new : List Table) : Type 0 where
  pub front : take (length old) new ≡ old

-- Each image is what a read gives.
abbrev pub IsAtRest : List Table → Sectors → Type 0
IsAtRest moments sectors = (image : Sectors) → IsImage (present moments) image → image ≡ sectors

-- at rest, where its sectors are told
abbrev pub Rests : DiskSeen → Type 0
Rests disk = WhenTold disk.told (IsAtRest disk.moments)

-- What a disk of so many sectors tells fits together. Tables of earlier moments may be shorter, since a disk may be made longer.
pub record IsTale (size : ℕ) (moments : List Table) (sectors : Sectors) : Type 0 where
  pub as_many : length sectors ≡ size
  pub began : 0 < length moments
  pub earlier : All (λ table. length table ≤ size) moments
  pub size_now : length (present moments) ≡ size
  pub now : IsImage (present moments) sectors

-- a write and a sync leave how many sectors there are, what is sure, and the images at earlier moments
pub record Leaves (old new : DiskSeen) : Type 0 where
  pub sectors : new.sectors ≡ old.sectors
  pub sure : new.sure ≡ old.sure
  pub earlier : Extends old.moments new.moments

-- one more moment, in which a sector may have these bytes too
abbrev pub moment_written : ℕ → List ℕ → List Table → List Table
moment_written at bytes moments = moments ++ written at bytes (present moments) ∷ []

-- the told sectors with one replaced
abbrev pub told_written : ℕ → List ℕ → Option Sectors → Option Sectors
told_written at bytes None = None
told_written at bytes (Some sectors) = Some (slice_set sectors at bytes)

pub record Writes {E : Type 0} (at : ℕ) (bytes : List ℕ) (old new : DiskSeen) (result : Result (Unit {0}) E) : Type 0 where
  pub reads_as : OnOk result (new.told ≡ told_written at bytes old.told)
  pub may_leave : OnOk result (WhenTold old.told (λ _. new.moments ≡ moment_written at bytes old.moments))
  pub failed_reads : OnErr result ((new.told ≡ old.told) ⊎ (new.told ≡ told_written at bytes old.told))
  pub failed_leaves : OnErr result ((new.moments ≡ old.moments) ⊎ (new.moments ≡ moment_written at bytes old.moments))

pub record Syncs {E : Type 0} (old new : DiskSeen) (result : Result (Unit {0}) E) : Type 0 where
  pub told : new.told ≡ old.told
  pub settles : OnOk result (WhenTold old.told (λ sectors. new.moments ≡ old.moments ++ settled sectors ∷ []))
  pub failed : OnErr result (new.moments ≡ old.moments)

abbrev pub told_longer : ℕ → Option Sectors → Option Sectors
told_longer size None = None
told_longer size (Some sectors) = Some (longer size sectors)

-- a shorter disk made so long: one more moment, in which a stop leaves the new sectors as zeros
abbrev pub lengthened : ℕ → DiskSeen → DiskSeen
lengthened size disk = record disk {
  sectors = size;
  told = told_longer size disk.told;
  moments = disk.moments ++ longer_table size (present disk.moments) ∷ [];
}
