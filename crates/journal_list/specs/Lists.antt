-- What is listed of a journal.
use Rattle.std.specs.Prelude.{◌≡◌, ◌⊎◌, ◌↔◌, ⊤, ℕ, ◌+◌, ◌-◌, ◌*◌, ◌/◌, ◌%◌, ◌<◌, ◌≤◌, ◌==◌, ◌&&◌, if◌then◌else◌, List, [], length, map, sum_by, slice_index_or, Contains, Option, Some, None, Result, Ok, Err}
use Rattle.std.specs.List.{range_with_len}
use Rattle.vd_outside.specs.Causes.{Rose}
use Rattle.key_state.specs.Entries.{AreEntries, entry_at}
use Rattle.key_state.specs.declared.entry.Entry.{Entry}
use Rattle.key_state.specs.declared.entry.Entry.TheVariants.{Settled, Pending, Bad}
use Rattle.key_state.specs.declared.record.Record.{Record}
use Rattle.vd_base.specs.declared.geometry.StoreId.{StoreId}
use Rattle.journal_layout.specs.Gate.{IsWithinLimits}
use Rattle.journal_layout.specs.Log.{HasHead}
use Rattle.journal_layout.specs.Recovery.{Sectors, HasGate, IsWhole, IsMap, IsLogFault, Ending, Complete, WrongHeader, WrongRecord, WrongTail, Reads, Stores, Gives, area_of, gate_of_live, journal_end, log_of, log_start}
use Rattle.journal_layout.specs.Recovery.{NoJournal as GivesNoJournal, Mismatch as GivesMismatch, Damaged as GivesDamaged}
use Rattle.journal_layout.specs.declared.damage.Damage.TheVariants.{Missing, Map, Header, Record as AtRecord, Tail}
use Rattle.journal_layout.specs.declared.live.Live.{Live}
use Rattle.journal_recover.specs.declared.fault.RecoverFault.{RecoverFault}
use Rattle.journal_recover.specs.declared.fault.RecoverFault.TheVariants.{NoJournal, Mismatch, Damaged, Failed, NoMemory}
use Rattle.journal_recover.specs.Answers.{AreaGives}
use Rattle.journal_recover.specs.Sinks.{Placed, placed}
use Rattle.journal_list.specs.declared.lists.Parts.{Parts}
use Rattle.journal_list.specs.declared.listing.Listing.{Listing}
use Rattle.journal_list.specs.declared.listing.ListFault.{ListFault}

-- A log sector is headed for its place in the live epoch.
abbrev pub IsHeaded : Sectors → Live → ℕ → Type 0
IsHeaded sectors live at = HasHead live.version live.epoch (at - log_start live) (slice_index_or sectors at [])

-- These are the numbers from low up to high that fit, in ascending order.
pub record AreThose (fits : ℕ → Type 0) (low high : ℕ) (found : List ℕ) : Type 0 where
  pub each : (n : ℕ) → Contains found n ↔ ((low ≤ n) × (n < high) × fits n)
  pub ascending : (i j : ℕ) → i < j → j < length found → slice_index_or found i 0 < slice_index_or found j 0

-- These log sectors stand past the end of so many stored records, and are headed for their places.
abbrev pub AreUnused : Sectors → Live → ℕ → List ℕ → Type 0
AreUnused sectors live many unused = AreThose (IsHeaded sectors live) (log_start live + (many + 29) / 30) (log_start live + live.log_sectors) unused

-- The other area has this gate, of the epoch before and of the same store.
pub record IsBefore (sectors : Sectors) (live other : Live) : Type 0 where
  pub gate : HasGate sectors (1 - area_of live) (gate_of_live other)
  pub epoch : other.epoch + 1 ≡ live.epoch
  pub store : other.id ≡ live.id

-- the same, where there is one
abbrev pub FindsBefore : Sectors → Live → Option Live → Type 0
FindsBefore sectors live None = (other : Live) → IsBefore sectors live other → ⊥
FindsBefore sectors live (Some other) = IsBefore sectors live other

-- whatever the bytes, of as many blocks
abbrev pub HasBlocks : Live → Option Live → Type 0
HasBlocks live None = ⊤
HasBlocks live (Some other) = other.id ≡ live.id

-- 1 where two entries differ
abbrev pub differs : Entry × Entry → ℕ
differs (Settled key, Settled there) = if key == there then 0 else 1
differs (Settled key, Pending before after) = 1
differs (Settled key, Bad) = 1
differs (Pending old new, Settled there) = 1
differs (Pending old new, Pending before after) = if (old == before) && (new == after) then 0 else 1
differs (Pending old new, Bad) = 1
differs (Bad, Settled there) = 1
differs (Bad, Pending before after) = 1
differs (Bad, Bad) = 0

-- how many blocks have another entry there
abbrev pub differing : List Entry → List Entry → ℕ
differing base there = sum_by differs (map (λ block. (entry_at base block, entry_at there block)) (range_with_len 0 (length base)))

-- The area of the epoch before gives entries, and so many blocks have others in the live map; or there is no such area that gives any.
abbrev pub IsHandover : Sectors → Live → List Entry → Option ℕ → Type 0
IsHandover sectors live base None = (other : Live) (many : ℕ) (there : List Entry) → IsBefore sectors live other → AreaGives sectors other many there → ⊥
IsHandover sectors live base (Some blocks) =
    (other : Live) × (many : ℕ) × (there : List Entry) × IsBefore sectors live other × AreaGives sectors other many there × (blocks ≡ differing base there)

-- The live log stores these records, each listed with its sector and its place, and the rest is what else stands there.
abbrev pub ListsAll : Sectors → StoreId → Live → List Entry → List Placed → List ℕ → Option ℕ → Type 0
ListsAll sectors wanted live base listed unused handover =
    IsWhole sectors wanted live × IsMap sectors live base
    × ((records : List Record) × Stores live base (log_of sectors live) records Complete × (listed ≡ placed live records) × AreUnused sectors live (length records) unused)
    × IsHandover sectors live base handover

abbrev pub IsListing : Sectors → StoreId → Listing → Type 0
IsListing sectors wanted listing = ListsAll sectors wanted listing.live listing.base.items listing.records.items listing.unused.items listing.handover

-- The live log is wrong in this sector and at this place, and these are the records before.
abbrev pub IsDamage : Sectors → StoreId → Ending → ℕ → ℕ → List Placed → Type 0
IsDamage sectors wanted ending sector at listed =
    (live : Live) × IsWhole sectors wanted live
    × ((base : List Entry) × (records : List Record) × IsLogFault sectors live ending sector at base records × (listed ≡ placed live records))

-- These are some first records of the live log, or none.
abbrev pub IsFront : Sectors → StoreId → List Placed → Type 0
IsFront sectors wanted listed =
    (listed ≡ [])
    ⊎ ((live : Live) × IsWhole sectors wanted live
    × ((base : List Entry) × (records : List Record) × IsMap sectors live base × Reads live base (log_of sectors live) records × (listed ≡ placed live records)))

-- the same of a log
abbrev pub ReadsSome : Live → List Entry → Sectors → List Placed → Type 0
ReadsSome live base log listed = (records : List Record) × Reads live base log records × (listed ≡ placed live records)

abbrev pub IsWrongLog : Live → List Entry → Sectors → Ending → ℕ → ℕ → List Placed → Type 0
IsWrongLog live base log ending sector at listed =
    (records : List Record) × Stores live base log records ending × (sector ≡ log_start live + length records / 30) × (at ≡ length records % 30)
    × (listed ≡ placed live records)

-- why nothing more is listed, and what was before
abbrev pub ListsBefore : Sectors → StoreId → List Placed → RecoverFault → Type 0
ListsBefore sectors wanted listed NoJournal = Gives sectors wanted GivesNoJournal × (listed ≡ [])
ListsBefore sectors wanted listed (Mismatch found named) = Gives sectors wanted (GivesMismatch found) × (named ≡ wanted) × (listed ≡ [])
ListsBefore sectors wanted listed (Damaged sector Missing at) = Gives sectors wanted (GivesDamaged sector Missing at) × (listed ≡ [])
ListsBefore sectors wanted listed (Damaged sector Map at) = Gives sectors wanted (GivesDamaged sector Map at) × (listed ≡ [])
ListsBefore sectors wanted listed (Damaged sector Header at) = IsDamage sectors wanted WrongHeader sector at listed
ListsBefore sectors wanted listed (Damaged sector AtRecord at) = IsDamage sectors wanted WrongRecord sector at listed
ListsBefore sectors wanted listed (Damaged sector Tail at) = IsDamage sectors wanted WrongTail sector at listed
ListsBefore sectors wanted listed Failed = IsFront sectors wanted listed
ListsBefore sectors wanted listed NoMemory = IsFront sectors wanted listed

-- what is kept of the live log, and why no more
abbrev pub FindsRecords : Live → List Entry → Sectors → List Placed → Result ℕ RecoverFault → Type 0
FindsRecords live base log listed (Ok many) =
    (records : List Record) × Stores live base log records Complete × (length records ≡ many) × (listed ≡ placed live records)
FindsRecords live base log listed (Err (Damaged sector Header at)) = IsWrongLog live base log WrongHeader sector at listed
FindsRecords live base log listed (Err (Damaged sector AtRecord at)) = IsWrongLog live base log WrongRecord sector at listed
FindsRecords live base log listed (Err (Damaged sector Tail at)) = IsWrongLog live base log WrongTail sector at listed
FindsRecords live base log listed (Err Failed) = ReadsSome live base log listed
FindsRecords live base log listed (Err NoMemory) = ReadsSome live base log listed
FindsRecords live base log listed (Err other) = ⊥

-- what is listed of a disk's sectors
abbrev pub Lists : Sectors → StoreId → Result Listing ListFault → Type 0
Lists sectors wanted (Ok listing) = IsListing sectors wanted listing
Lists sectors wanted (Err fault) = ListsBefore sectors wanted fault.records.items fault.why

-- the same before the records are put in
abbrev pub FindsParts : Sectors → StoreId → List Placed → Result Parts RecoverFault → Type 0
FindsParts sectors wanted listed (Ok parts) = ListsAll sectors wanted parts.live parts.base.items listed parts.unused.items parts.handover
FindsParts sectors wanted listed (Err why) = ListsBefore sectors wanted listed why

-- what holds of a listing over every disk, of so many sectors
pub record IsUsableList (wanted : StoreId) (sectors : ℕ) (live : Live) (base : List Entry) (listed : List Placed) (unused : List ℕ) : Type 0 where
  pub is_wanted : live.id ≡ wanted
  pub within : IsWithinLimits (gate_of_live live)
  pub has_room : journal_end live ≤ sectors
  pub one_each : length base ≡ wanted.geometry.blocks
  pub valid : AreEntries base
  pub few_blocks : length base ≤ 16777216
  pub few_records : length listed ≤ 30 * live.log_sectors
  pub few_unused : length unused ≤ live.log_sectors

abbrev pub IsUsable : StoreId → ℕ → Listing → Type 0
IsUsable wanted sectors listing = IsUsableList wanted sectors listing.live listing.base.items listing.records.items listing.unused.items

abbrev pub ArePartsUsable : StoreId → ℕ → List Placed → Parts → Type 0
ArePartsUsable wanted sectors listed parts = IsUsableList wanted sectors parts.live parts.base.items listed parts.unused.items

-- a fault that says nothing of the journal
abbrev pub IsOutside : RecoverFault → Type 0
IsOutside NoJournal = ⊥
IsOutside (Mismatch found named) = ⊥
IsOutside (Damaged sector what at) = ⊥
IsOutside Failed = ⊤
IsOutside NoMemory = ⊤

abbrev pub OutsideOnly : {T : Type 0} → Result T RecoverFault → Type 0
OutsideOnly (Ok done) = ⊤
OutsideOnly (Err why) = IsOutside why

-- A failed read is answered only with a rise of the disk's count, and any other answer leaves it.
pub record HasListCause (before now : ℕ) (result : Result Listing ListFault) : Type 0 where
  pub later : before ≤ now
  pub failed : (fault : ListFault) → result ≡ Err fault → fault.why ≡ Failed → Rose before now
  pub kept : ((fault : ListFault) → result ≡ Err fault → fault.why ≡ Failed → ⊥) → now ≡ before
