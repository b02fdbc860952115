-- What the rows of device calls write.
use Rattle.std.specs.Prelude.{◌≡◌, ◌⊎◌, ℕ, ◌+◌, ◌-◌, ◌/◌, ◌<◌, ◌≤◌, List, replicate, slice_range, Option, Some, None, Result, OnOk, IsErr}
use Rattle.std.specs.Int.{w64, from_be_bytes}
use Rattle.key_state.specs.declared.entry.Entry.{Entry}
use Rattle.key_state.specs.declared.record.Record.{Record}
use Rattle.journal_layout.specs.declared.gate.Gate.{Gate}
use Rattle.journal_layout.specs.declared.live.Live.{Live}
use Rattle.journal_layout.specs.Gate.{IsGate}
use Rattle.journal_layout.specs.Places.{map_sectors}
use Rattle.journal_layout.specs.Recovery.{Sectors, HasGate, Gives, Recovers, blocks_of, area_of, gate_of_live, journal_end, map_start, log_start, map_places, IsSlot}
use Rattle.vd_disk.specs.Disk.{DiskSeen, WhenTold, IsTale, present, settled, sector_at}
use Rattle.journal_core.specs.Changes.{Changed}
use Rattle.journal_core.specs.Parts.{slot_at, IsNotLater}
use Rattle.journal_core.specs.Keeps.{IsGateAt, next_of}

-- a sector of the map of an epoch
abbrev pub InMap : Live → ℕ → List ℕ → Type 0
InMap live i content = (map_start live ≤ i) × (i < map_start live + map_sectors (blocks_of live))

-- zeros, in a row of sectors
abbrev pub IsZeroIn : ℕ → ℕ → ℕ → List ℕ → Type 0
IsZeroIn from to i content = (from ≤ i) × (i < to) × (content ≡ replicate 512 0)

-- The places of the map of an epoch up to a sector hold these entries.
abbrev pub HasMapTo : Live → List Entry → ℕ → Sectors → Type 0
HasMapTo live entries i sectors =
    (k : ℕ) → k < map_places (blocks_of live) → k / 256 < i → IsSlot (sector_at sectors (map_start live + k / 256)) (blocks_of live) k (slot_at entries k)

abbrev pub HasMap : Live → List Entry → Sectors → Type 0
HasMap live entries sectors = HasMapTo live entries (map_sectors (blocks_of live)) sectors

abbrev pub ReadsGate : Live → Sectors → Type 0
ReadsGate live sectors = IsGate (area_of live) (sector_at sectors (area_of live)) (gate_of_live live)

abbrev pub ReadsZero : ℕ → ℕ → Sectors → Type 0
ReadsZero from to sectors = (i : ℕ) → from ≤ i → i < to → sector_at sectors i ≡ replicate 512 0

-- The gate of an epoch, and zeros behind it to the end of the journal.
abbrev pub IsNew : Live → Sectors → Type 0
IsNew live sectors = ReadsGate live sectors × ((i : ℕ) → 0 < i → i < journal_end live → sector_at sectors i ≡ replicate 512 0)

-- Each image is what a read gives, and it is so.
abbrev pub IsSynced : DiskSeen → (Sectors → Type 0) → Type 0
IsSynced disk P = WhenTold disk.told (λ t. (present disk.moments ≡ settled t) × P t)

-- The map is written and synced before the gate is; or it is written in part, and the answer is a fault.
abbrev pub Begins : {E : Type 0} → Live → List Entry → DiskSeen → DiskSeen → Result (Unit {0}) E → Type 0
Begins live entries old new result =
    ((mid : DiskSeen) × WhenTold mid.told (IsTale mid.sectors mid.moments) × Changed (InMap live) old mid × IsSynced mid (HasMap live entries) × Changed (IsGateAt live) mid new × OnOk result (IsSynced new (ReadsGate live)))
    ⊎ (Changed (InMap live) old new × IsErr result)

-- A log sector of a later epoch: bytes 8 to 15 are a number above.
abbrev pub IsLater : ℕ → List ℕ → Type 0
IsLater epoch sector = epoch < from_be_bytes w64 (slice_range sector 8 16)

-- zeros, in a row of sectors, where what was read was a log sector of a later epoch
abbrev pub Clears : ℕ → ℕ → ℕ → Option Sectors → ℕ → List ℕ → Type 0
Clears from to epoch told i content = IsZeroIn from to i content × WhenTold told (λ s. IsLater epoch (sector_at s i))

-- the same, in the log of an epoch's area
abbrev pub ClearsLog : Live → ℕ → Option Sectors → ℕ → List ℕ → Type 0
ClearsLog live epoch told i content = Clears (log_start live) (log_start live + live.log_sectors) epoch told i content

-- None of the first n log sectors is of a later epoch.
abbrev pub HasNoLater : Live → ℕ → ℕ → Sectors → Type 0
HasNoLater live epoch n sectors = (q : ℕ) → q < n → IsNotLater epoch (sector_at sectors (log_start live + q))

-- zeros where a log sector of either area was of a later epoch than the live one
abbrev pub ClearsBoth : Live → Option Sectors → ℕ → List ℕ → Type 0
ClearsBoth live told i content = ClearsLog live live.epoch told i content ⊎ ClearsLog (next_of live) live.epoch told i content

abbrev pub HasNoneLater : Live → Sectors → Type 0
HasNoneLater live sectors = HasNoLater live live.epoch live.log_sectors sectors × HasNoLater (next_of live) live.epoch live.log_sectors sectors

-- Later log sectors are cleared before the next epoch begins; or some were cleared, and the answer is a fault.
abbrev pub Reopens : {E : Type 0} → Live → List Entry → DiskSeen → DiskSeen → Result (Unit {0}) E → Type 0
Reopens live entries old new result =
    ((mid : DiskSeen) × WhenTold mid.told (IsTale mid.sectors mid.moments) × Changed (ClearsBoth live old.told) old mid × WhenTold mid.told (HasNoneLater live) × Begins (next_of live) entries mid new result)
    ⊎ (Changed (ClearsBoth live old.told) old new × IsErr result)

-- Recovery of the store's journal finds this live epoch.
abbrev pub HasLive : Live → Sectors → Type 0
HasLive live sectors = (records : List Record) × (entries : List Entry) × Gives sectors live.id (Recovers live records entries)

-- The epoch of the gate of an area, or that it has none.
abbrev pub HasEpoch : ℕ → Option ℕ → Sectors → Type 0
HasEpoch area (Some epoch) sectors = (gate : Gate) × HasGate sectors area gate × (gate.epoch ≡ epoch)
HasEpoch area None sectors = (gate : Gate) → HasGate sectors area gate → ⊥

-- The gate of an area isn't the live one: where it has one, the other area's is of a later epoch.
abbrev pub IsNotLive : ℕ → Sectors → Type 0
IsNotLive area sectors = (gate : Gate) → HasGate sectors area gate → (other : Gate) × HasGate sectors (1 - area) other × (gate.epoch < other.epoch)
