-- What calls of a disk leave: each content is one that was there, or one of those that the calls may write.
use Rattle.std.specs.Prelude.{◌≡◌, ◌⊎◌, ℕ, ◌+◌, ◌≤◌, ◌<◌, List, [], length, Contains, slice_index_or, Some, None}
use Rattle.vd_disk.specs.Disk.{Sectors, Table, DiskSeen, WhenTold, IsImage, Extends, sector_at}

-- the table of a moment, and the contents that it leaves a sector
abbrev pub table_at : List Table → ℕ → Table
table_at moments m = slice_index_or moments m []

abbrev pub row : Table → ℕ → Sectors
row table i = slice_index_or table i []

-- Each sector reads as it did, or as a content that may be written there.
pub record ReadsAs (Q : ℕ → List ℕ → Type 0) (old new : Sectors) : Type 0 where
  pub as_many : length new ≡ length old
  pub each : (i : ℕ) → i < length old → (sector_at new i ≡ sector_at old i) ⊎ Q i (sector_at new i)

-- From the present of the old disk on, what a later moment leaves an earlier one leaves too, or it may be written there.
pub record Tables (Q : ℕ → List ℕ → Type 0) (since size : ℕ) (moments : List Table) : Type 0 where
  pub began : (since < length moments + 1) × (0 < length moments)
  pub sizes : (m : ℕ) → since ≤ m + 1 → m < length moments → length (table_at moments m) ≡ size
  pub filled : (m : ℕ) → since ≤ m + 1 → m < length moments → (image : Sectors) × IsImage (table_at moments m) image
  pub rows : (m n i : ℕ) (content : List ℕ) → since ≤ m + 1 → m ≤ n → n < length moments → i < size
      → Contains (row (table_at moments n) i) content → Contains (row (table_at moments m) i) content ⊎ Q i content

-- The calls wrote nothing but contents that may be written, each at its place.
pub record Changed (Q : ℕ → List ℕ → Type 0) (old new : DiskSeen) : Type 0 where
  pub sectors : new.sectors ≡ old.sectors
  pub sure : new.sure ≡ old.sure
  pub later : old.faults ≤ new.faults
  pub earlier : Extends old.moments new.moments
  pub untold : old.told ≡ None → new.told ≡ None
  pub told : WhenTold old.told (λ s. (t : Sectors) × (new.told ≡ Some t) × ReadsAs Q s t)
  pub tables : WhenTold old.told (λ s. Tables Q (length old.moments) old.sectors new.moments)
