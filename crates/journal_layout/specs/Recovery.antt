-- What the sectors of a journal give for a store: what is recovered, or why nothing is.
use Rattle.std.specs.Prelude.{◌≡◌, ◌⊎◌, ℕ, ◌+◌, ◌-◌, ◌*◌, ◌/◌, ◌%◌, ◌<◌, ◌≤◌, min, List, [], length, slice_get, slice_index_or, slice_range, Some}
use Rattle.key_state.specs.Entries.{entry_at, states, IsHistory, IsLegalOn}
use Rattle.key_state.specs.declared.entry.Entry.{Entry}
use Rattle.key_state.specs.declared.entry.Entry.TheVariants.{Settled}
use Rattle.key_state.specs.declared.record.Record.{Record}
use Rattle.vd_base.specs.declared.geometry.StoreId.{StoreId}
use Rattle.journal_layout.specs.declared.damage.Damage.{Damage}
use Rattle.journal_layout.specs.declared.damage.Damage.TheVariants.{Missing, Map, Header, Record as Illegal, Tail}
use Rattle.journal_layout.specs.declared.gate.Gate.{Gate}
use Rattle.journal_layout.specs.declared.live.Live.{Live}
use Rattle.journal_layout.specs.Gate.{IsGate}
use Rattle.journal_layout.specs.Log.{HasCount, IsForeign, IsBadHeader, IsRecordOf, IsZeroPast}
use Rattle.journal_layout.specs.Map.{IsEntryOf}
use Rattle.journal_layout.specs.Places.{area_at, log_at, end_of}

-- the sectors of a disk, each by its bytes
abbrev pub Sectors : Type 0
Sectors = List (List ℕ)

-- An area has this gate. A sector that the disk doesn't have is none.
pub record HasGate (sectors : Sectors) (area : ℕ) (gate : Gate) : Type 0 where
  pub there : area < length sectors
  pub is_gate : IsGate area (slice_index_or sectors area []) gate

-- the live area, and its gate
abbrev pub area_of : Live → ℕ
area_of live = live.epoch % 2

abbrev pub gate_of_live : Live → Gate
gate_of_live live = record { version = live.version; epoch = live.epoch; id = live.id; log_sectors = live.log_sectors }

-- Its gate is valid, and no other valid gate has an epoch as great.
pub record IsLive (sectors : Sectors) (live : Live) : Type 0 where
  pub gate : HasGate sectors (area_of live) (gate_of_live live)
  pub greatest : (other : Gate) → HasGate sectors (1 - area_of live) other → other.epoch < live.epoch

abbrev pub blocks_of : Live → ℕ
blocks_of live = live.id.geometry.blocks

-- where its map and its log begin, and where the journal ends
abbrev pub map_start : Live → ℕ
map_start live = area_at (blocks_of live) live.log_sectors (area_of live)

abbrev pub log_start : Live → ℕ
log_start live = log_at (blocks_of live) live.log_sectors (area_of live)

abbrev pub journal_end : Live → ℕ
journal_end live = end_of (blocks_of live) live.log_sectors

-- It is of the wanted store, and all of it is on the disk.
pub record IsWhole (sectors : Sectors) (wanted : StoreId) (live : Live) : Type 0 where
  pub is_live : IsLive sectors live
  pub is_wanted : live.id ≡ wanted
  pub has_room : journal_end live ≤ length sectors

-- Place k of a map stands in this sector, and has this entry. Past the last block it is that of a block never written.
pub record IsSlot (sector : List ℕ) (blocks k : ℕ) (entry : Entry) : Type 0 where
  pub bytes : IsEntryOf sector (k % 256) entry
  pub past : blocks ≤ k → entry ≡ Settled 0

-- the same, of a map that begins at a sector of the disk
abbrev pub IsMapSlot : Sectors → ℕ → ℕ → ℕ → Entry → Type 0
IsMapSlot sectors at blocks k entry = IsSlot (slice_index_or sectors (at + k / 256) []) blocks k entry

-- Each place from low up to high has its entry.
pub record Fills (fits : ℕ → Entry → Type 0) (blocks low high : ℕ) (entries : List Entry) : Type 0 where
  pub one_each : length entries ≡ min high blocks
  pub each : (k : ℕ) → low ≤ k → k < high → k < blocks → fits k (entry_at entries k)
  pub rest : (k : ℕ) → low ≤ k → k < high → blocks ≤ k → fits k (Settled 0)

-- the places of a map of so many blocks
abbrev pub map_places : ℕ → ℕ
map_places blocks = 256 * ((blocks + 255) / 256)

-- the entries of the live map
abbrev pub IsMap : Sectors → Live → List Entry → Type 0
IsMap sectors live entries = Fills (IsMapSlot sectors (map_start live) (blocks_of live)) (blocks_of live) 0 (map_places (blocks_of live)) entries

-- the first place that has no entry
pub record IsFirstBad (fits : ℕ → Entry → Type 0) (low high k : ℕ) : Type 0 where
  pub within : (low ≤ k) × (k < high)
  pub none : (entry : Entry) → fits k entry → ⊥
  pub before : (j : ℕ) → low ≤ j → j < k → (entry : Entry) × fits j entry

abbrev pub IsMapFault : Sectors → Live → ℕ → Type 0
IsMapFault sectors live k = IsFirstBad (IsMapSlot sectors (map_start live) (blocks_of live)) 0 (map_places (blocks_of live)) k

-- the sectors of the live log, and the one at a place
abbrev pub log_of : Sectors → Live → Sectors
log_of sectors live = slice_range sectors (log_start live) (log_start live + live.log_sectors)

abbrev pub place_at : Sectors → ℕ → List ℕ
place_at log q = slice_index_or log q []

-- The log begins with these records, thirty a sector: each is spelled right, and they are a legal history of the map's entries.
pub record Reads (live : Live) (base : List Entry) (log : Sectors) (records : List Record) : Type 0 where
  pub room : length records ≤ 30 * length log
  pub counted : (q : ℕ) → 30 * q < length records
      → (count : ℕ) × HasCount live.version live.epoch q (place_at log q) count × (min 30 (length records - 30 * q) ≤ count)
  pub spelled : (i : ℕ) (made : Record) → slice_get records i ≡ Some made
      → IsRecordOf live.version (blocks_of live) (place_at log (i / 30)) (i % 30) made
  pub legal : IsHistory base records

-- what stands behind the records that are read: the end of the log, or what is wrong there
pub data Ending : Type 0 where
  Complete : Ending
  WrongHeader : Ending
  WrongRecord : Ending
  WrongTail : Ending

-- Behind the records, at record j of log sector q, stands this ending. The log ends before a foreign sector, behind a sector
-- with fewer than thirty records, and behind the last sector.
abbrev pub EndsAt : Live → List Entry → Sectors → List Record → ℕ → ℕ → Ending → Type 0
EndsAt live base log records q j Complete =
    ((j ≡ 0) × ((length log ≤ q) ⊎ IsForeign live.version live.epoch q (place_at log q)))
    ⊎ (HasCount live.version live.epoch q (place_at log q) j × IsZeroPast (place_at log q) j)
EndsAt live base log records q j WrongHeader = (j ≡ 0) × (q < length log) × IsBadHeader live.version live.epoch q (place_at log q)
EndsAt live base log records q j WrongRecord =
    ((count : ℕ) × HasCount live.version live.epoch q (place_at log q) count × (j < count))
    × ((made : Record) → IsRecordOf live.version (blocks_of live) (place_at log q) j made → IsLegalOn (states base records) made → ⊥)
EndsAt live base log records q j WrongTail = HasCount live.version live.epoch q (place_at log q) j × (IsZeroPast (place_at log q) j → ⊥)

-- the records that a log stores, and what stands behind them
pub record Stores (live : Live) (base : List Entry) (log : Sectors) (records : List Record) (ending : Ending) : Type 0 where
  pub reads : Reads live base log records
  pub ends : EndsAt live base log records (length records / 30) (length records % 30) ending

-- what a journal gives for a store
pub data Outcome : Type 0 where
  NoJournal : Outcome
  Mismatch : StoreId → Outcome
  Damaged : ℕ → Damage → ℕ → Outcome
  Recovers : Live → List Record → List Entry → Outcome

-- Behind the stored records, in a sector of the disk and at a place in it, the log is wrong.
pub record IsLogFault (sectors : Sectors) (live : Live) (ending : Ending) (sector at : ℕ) (base : List Entry) (records : List Record) : Type 0 where
  pub is_map : IsMap sectors live base
  pub stores : Stores live base (log_of sectors live) records ending
  pub is_sector : sector ≡ log_start live + length records / 30
  pub is_at : at ≡ length records % 30

abbrev pub HasLogFault : Sectors → StoreId → Ending → ℕ → ℕ → Type 0
HasLogFault sectors wanted ending sector at =
    (live : Live) × IsWhole sectors wanted live × ((base : List Entry) × (records : List Record) × IsLogFault sectors live ending sector at base records)

-- No gate is valid; the live one is another store's; a sector is missing; a place of the map, a header of the log, a record or
-- the end of a log sector is wrong, the first one in this order; or these are the live area, its stored records, and the
-- states after them.
abbrev pub Gives : Sectors → StoreId → Outcome → Type 0
Gives sectors wanted NoJournal = (area : ℕ) (gate : Gate) → area < 2 → HasGate sectors area gate → ⊥
Gives sectors wanted (Mismatch found) = (live : Live) × IsLive sectors live × (live.id ≡ found) × (found ≡ wanted → ⊥)
Gives sectors wanted (Damaged sector Missing at) =
    (live : Live) × IsLive sectors live × (live.id ≡ wanted) × (length sectors < journal_end live) × (sector ≡ length sectors) × (at ≡ 0)
Gives sectors wanted (Damaged sector Map at) =
    (live : Live) × IsWhole sectors wanted live
    × ((k : ℕ) × IsMapFault sectors live k × (sector ≡ map_start live + k / 256) × (at ≡ k % 256))
Gives sectors wanted (Damaged sector Header at) = HasLogFault sectors wanted WrongHeader sector at
Gives sectors wanted (Damaged sector Illegal at) = HasLogFault sectors wanted WrongRecord sector at
Gives sectors wanted (Damaged sector Tail at) = HasLogFault sectors wanted WrongTail sector at
Gives sectors wanted (Recovers live records entries) =
    IsWhole sectors wanted live
    × ((base : List Entry) × IsMap sectors live base × Stores live base (log_of sectors live) records Complete × (entries ≡ states base records))

-- The sectors give one outcome for a store.
abbrev pub GivesOnce : Type 0
GivesOnce = (sectors : Sectors) (wanted : StoreId) (a b : Outcome) → Gives sectors wanted a → Gives sectors wanted b → a ≡ b
