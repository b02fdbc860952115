-- What each sector of an open journal may hold, whatever a stop leaves.
use Rattle.std.specs.Prelude.{◌≡◌, ◌⊎◌, ℕ, ◌+◌, ◌-◌, ◌*◌, ◌/◌, ◌<◌, ◌≤◌, min, List, length, Contains, slice_get, slice_index_or, slice_range, Some}
use Rattle.std.specs.Int.{w64, from_be_bytes}
use Rattle.key_state.specs.declared.entry.Entry.{Entry}
use Rattle.key_state.specs.declared.entry.Entry.TheVariants.{Settled}
use Rattle.key_state.specs.declared.record.Record.{Record}
use Rattle.journal_layout.specs.declared.gate.Gate.{Gate}
use Rattle.journal_layout.specs.declared.live.Live.{Live}
use Rattle.journal_layout.specs.Gate.{IsGate}
use Rattle.journal_layout.specs.Log.{HasCount, IsForeign, IsRecordOf, IsZeroPast}
use Rattle.journal_layout.specs.Places.{log_at}
use Rattle.journal_layout.specs.Recovery.{Sectors, blocks_of, area_of, gate_of_live, map_start, log_start, map_places, IsSlot}
use Rattle.vd_disk.specs.Disk.{Table, sector_at}
use Rattle.journal_core.specs.Changes.{row}

-- the entry at a place of a map: past the last block that of a block never written
abbrev pub slot_at : List Entry → ℕ → Entry
slot_at entries k = slice_index_or entries k (Settled 0)

-- where the log of the other area begins
abbrev pub other_log : Live → ℕ
other_log live = log_at (blocks_of live) live.log_sectors (1 - area_of live)

-- A log sector of no later epoch: bytes 8 to 15 are a number that isn't above.
abbrev pub IsNotLater : ℕ → List ℕ → Type 0
IsNotLater epoch sector = from_be_bytes w64 (slice_range sector 8 16) ≤ epoch

-- a log sector with so many first records of its place in a list, and no others
pub record IsPart (live : Live) (past : List Record) (q : ℕ) (sector : List ℕ) (count : ℕ) : Type 0 where
  pub counted : HasCount live.version live.epoch q sector count
  pub there : 30 * q + count ≤ length past
  pub spelled : (j : ℕ) (made : Record) → j < count → slice_get past (30 * q + j) ≡ Some made → IsRecordOf live.version (blocks_of live) sector j made
  pub zeros : IsZeroPast sector count

-- A content of a sector with which a journal of this epoch, map and records recovers to a front of them.
pub record IsSectorOf (live : Live) (base : List Entry) (past : List Record) (i : ℕ) (content : List ℕ) : Type 0 where
  -- the live gate; in the other area no gate of a later epoch
  pub gate : i ≡ area_of live → IsGate (area_of live) content (gate_of_live live)
  pub other : i ≡ 1 - area_of live → (gate : Gate) → IsGate (1 - area_of live) content gate → gate.epoch < live.epoch
  -- the map
  pub slots : (k : ℕ) → k < map_places (blocks_of live) → i ≡ map_start live + k / 256 → IsSlot content (blocks_of live) k (slot_at base k)
  -- a log sector is foreign or has a part of the records; no log sector of either area is of a later epoch
  pub part : (q : ℕ) → q < live.log_sectors → i ≡ log_start live + q → IsForeign live.version live.epoch q content ⊎ ((count : ℕ) × IsPart live past q content count)
  pub here : (q : ℕ) → q < live.log_sectors → i ≡ log_start live + q → IsNotLater live.epoch content
  pub there : (q : ℕ) → q < live.log_sectors → i ≡ other_log live + q → IsNotLater live.epoch content

-- all sectors of an image do
abbrev pub AllFit : (ℕ → List ℕ → Type 0) → Sectors → Type 0
AllFit fits image = (i : ℕ) → i < length image → fits i (sector_at image i)

-- all contents of a table do
abbrev pub Allows : (ℕ → List ℕ → Type 0) → Table → Type 0
Allows fits table = (i : ℕ) (content : List ℕ) → i < length table → Contains (row table i) content → fits i content

-- A content that may be written: in the log it has all the records of its place.
pub record Safe (live : Live) (base : List Entry) (past : List Record) (i : ℕ) (content : List ℕ) : Type 0 where
  pub fits : IsSectorOf live base past i content
  pub counts : (q : ℕ) → q < live.log_sectors → i ≡ log_start live + q
      → (count : ℕ) × HasCount live.version live.epoch q content count × (min 30 (length past - 30 * q) ≤ count)

-- The first n records stand in the log as it is read.
abbrev pub Stands : Live → ℕ → Sectors → Type 0
Stands live n sectors = (q : ℕ) → 30 * q < n → (count : ℕ) × HasCount live.version live.epoch q (sector_at sectors (log_start live + q)) count × (min 30 (n - 30 * q) ≤ count)

-- The log sector in hand has these records of its place, and no others.
pub record InHand (live : Live) (past : List Record) (place count : ℕ) (sector : List ℕ) : Type 0 where
  pub zeros : IsZeroPast sector count
  pub part : 0 < count → IsPart live past place sector count
