-- What is read of a log.
use Rattle.std.specs.Prelude.{◌≡◌, ◌⊎◌, ℕ, ◌+◌, ◌*◌, ◌/◌, ◌%◌, ◌<◌, ◌≤◌, List, length, slice_get, Option, Some, Result, Ok, Err}
use Rattle.key_state.specs.Entries.{states, IsHistory, IsLegalOn}
use Rattle.key_state.specs.declared.entry.Entry.{Entry}
use Rattle.key_state.specs.declared.record.Record.{Record}
use Rattle.journal_layout.specs.Log.{HasCount, IsForeign, IsBadHeader, IsRecordOf, IsZeroPast}
use Rattle.journal_layout.specs.Recovery.{Sectors, Ending, Complete, WrongHeader, WrongRecord, WrongTail, Reads, Stores, blocks_of, log_start}
use Rattle.journal_layout.specs.declared.damage.Damage.TheVariants.{Header, Record as AtRecord, Tail}
use Rattle.journal_layout.specs.declared.live.Live.{Live}
use Rattle.journal_recover.specs.declared.fault.RecoverFault.{RecoverFault}
use Rattle.journal_recover.specs.declared.fault.RecoverFault.TheVariants.{Damaged, Failed, NoMemory}
use Rattle.journal_recover.specs.Sinks.{Placed, HandsOn}

-- These are the first records of a log sector, legal one behind the other.
pub record AreFirst (live : Live) (base : List Entry) (sector : List ℕ) (added : List Record) : Type 0 where
  pub spelled : (i : ℕ) (made : Record) → slice_get added i ≡ Some made → IsRecordOf live.version (blocks_of live) sector i made
  pub legal : IsHistory base added

-- so many of them, what they make of the entries, and of what a sink keeps
abbrev pub AddsUpTo : Live → ℕ → List Entry → List ℕ → ℕ → List Entry → Option (List Placed) → Option (List Placed) → Type 0
AddsUpTo live place base sector n entries before after =
    (added : List Record) × (length added ≡ n) × AreFirst live base sector added × (entries ≡ states base added) × HandsOn live (30 * place) added before after

-- Behind the first j of them stands no record that is legal there.
abbrev pub IsBadRecord : Live → ℕ → List Entry → List ℕ → ℕ → ℕ → Option (List Placed) → Option (List Placed) → Type 0
IsBadRecord live place base sector n j before after =
    (added : List Record) × (length added ≡ j) × AreFirst live base sector added × (j < n)
    × ((made : Record) → IsRecordOf live.version (blocks_of live) sector j made → IsLegalOn (states base added) made → ⊥)
    × HandsOn live (30 * place) added before after

-- some of n of them, whatever the entries
abbrev pub AddsSome : Live → ℕ → List Entry → List ℕ → ℕ → Option (List Placed) → Option (List Placed) → Type 0
AddsSome live place base sector n before after =
    (j : ℕ) × (j ≤ n) × ((entries : List Entry) × AddsUpTo live place base sector j entries before after)

-- what is read of the records of one log sector
abbrev pub ReadsRecords : Live → ℕ → List ℕ → ℕ → List Entry → List Entry → Option (List Placed) → Option (List Placed) → Result (Unit {0}) RecoverFault → Type 0
ReadsRecords live place sector count base entries before after (Ok done) = AddsUpTo live place base sector count entries before after
ReadsRecords live place sector count base entries before after (Err (Damaged at AtRecord j)) =
    (at ≡ log_start live + place) × IsBadRecord live place base sector count j before after
ReadsRecords live place sector count base entries before after (Err NoMemory) = AddsSome live place base sector count before after
ReadsRecords live place sector count base entries before after (Err other) = ⊥

-- what is read of one log sector
abbrev pub ReadsSector : Live → ℕ → List ℕ → List Entry → List Entry → Option (List Placed) → Option (List Placed) → Result ℕ RecoverFault → Type 0
ReadsSector live place sector base entries before after (Ok n) =
    (IsForeign live.version live.epoch place sector × (n ≡ 0) × (entries ≡ base) × (after ≡ before))
    ⊎ (HasCount live.version live.epoch place sector n × AddsUpTo live place base sector n entries before after × IsZeroPast sector n)
ReadsSector live place sector base entries before after (Err (Damaged at Header j)) =
    (at ≡ log_start live + place) × (j ≡ 0) × IsBadHeader live.version live.epoch place sector × (after ≡ before)
ReadsSector live place sector base entries before after (Err (Damaged at AtRecord j)) =
    (at ≡ log_start live + place) × ((count : ℕ) × HasCount live.version live.epoch place sector count × IsBadRecord live place base sector count j before after)
ReadsSector live place sector base entries before after (Err (Damaged at Tail n)) =
    (at ≡ log_start live + place) × HasCount live.version live.epoch place sector n × AddsUpTo live place base sector n entries before after × (IsZeroPast sector n → ⊥)
ReadsSector live place sector base entries before after (Err NoMemory) =
    (count : ℕ) × HasCount live.version live.epoch place sector count × AddsSome live place base sector count before after
ReadsSector live place sector base entries before after (Err other) = ⊥

-- Behind the stored records, which were handed on, stands this, in a sector of the disk and at a place in it.
abbrev pub IsWrongAt : Live → List Entry → Sectors → Ending → ℕ → ℕ → Option (List Placed) → Option (List Placed) → Type 0
IsWrongAt live base log ending sector at before after =
    (records : List Record) × Stores live base log records ending × (sector ≡ log_start live + length records / 30) × (at ≡ length records % 30)
    × HandsOn live 0 records before after

-- Some first records of the log were handed on.
abbrev pub ReadsFront : Live → List Entry → Sectors → Option (List Placed) → Option (List Placed) → Type 0
ReadsFront live base log before after = (records : List Record) × Reads live base log records × HandsOn live 0 records before after

-- The log stores these records, so many, which were handed on and make these entries.
abbrev pub ReadsAll : Live → List Entry → Sectors → ℕ → List Entry → Option (List Placed) → Option (List Placed) → Type 0
ReadsAll live base log n entries before after =
    (records : List Record) × Stores live base log records Complete × (length records ≡ n) × (entries ≡ states base records) × HandsOn live 0 records before after

-- what is read of a log, or refused there
abbrev pub FindsLog : Live → List Entry → Sectors → List Entry → Option (List Placed) → Option (List Placed) → Result ℕ RecoverFault → Type 0
FindsLog live base log entries before after (Ok n) = ReadsAll live base log n entries before after
FindsLog live base log entries before after (Err (Damaged sector Header at)) = IsWrongAt live base log WrongHeader sector at before after
FindsLog live base log entries before after (Err (Damaged sector AtRecord at)) = IsWrongAt live base log WrongRecord sector at before after
FindsLog live base log entries before after (Err (Damaged sector Tail at)) = IsWrongAt live base log WrongTail sector at before after
FindsLog live base log entries before after (Err Failed) = ReadsFront live base log before after
FindsLog live base log entries before after (Err NoMemory) = ReadsFront live base log before after
FindsLog live base log entries before after (Err other) = ⊥
