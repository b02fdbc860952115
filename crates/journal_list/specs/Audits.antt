-- Whether a list of records is legal from a base.
use Rattle.std.specs.Prelude.{◌≡◌, ℕ, ◌-◌, ◌<◌, ◌≤◌, List, length, map, take, sum_by, slice_get, Some}
use Rattle.key_state.specs.Entries.{IsEntry, IsHistory, IsLegalAt, IsLegalOn, Names, Takes, ends, entry_at, state, states}
use Rattle.key_state.specs.declared.entry.Entry.{Entry}
use Rattle.key_state.specs.declared.entry.Entry.TheVariants.{Settled, Pending, Bad}
use Rattle.key_state.specs.declared.record.Record.{Record}
use Rattle.journal_recover.specs.Sinks.{Placed}
use Rattle.journal_list.specs.declared.outcome.Audit.{Audit}
use Rattle.journal_list.specs.declared.outcome.Audit.TheVariants.{Legal, Illegal}

-- the records of a listing
abbrev pub record_in : Placed → Record
record_in one = one.2

abbrev pub made_of : List Placed → List Record
made_of listed = map record_in listed

-- 1 for a pending entry, and 1 for a bad one
abbrev pub pending_in : Entry → ℕ
pending_in (Settled key) = 0
pending_in (Pending old new) = 1
pending_in Bad = 0

abbrev pub bad_in : Entry → ℕ
bad_in (Settled key) = 0
bad_in (Pending old new) = 0
bad_in Bad = 1

-- The records are legal from the base, and so many writes are ended by them, and so many blocks pending and bad after them; or those
-- before one are, and with it they aren't.
abbrev pub Audits : List Entry → List Record → Audit → Type 0
Audits base records (Legal ended pending bad) =
    IsHistory base records × (ended ≡ ends records) × (pending ≡ sum_by pending_in (states base records)) × (bad ≡ sum_by bad_in (states base records))
Audits base records (Illegal at) =
    IsHistory base (take at records)
    × ((made : Record) × (slice_get records at ≡ Some made) × (IsLegalOn (states base (take at records)) made → ⊥))

-- The first so many records name no block past the last; the one behind them names one.
abbrev pub AreInside : ℕ → List Record → ℕ → Type 0
AreInside blocks records n = (k : ℕ) (made : Record) → k < n → slice_get records k ≡ Some made → (block : ℕ) → Names made block → block < blocks

abbrev pub IsOutsideAt : ℕ → List Record → ℕ → Type 0
IsOutsideAt blocks records at = (made : Record) × (slice_get records at ≡ Some made) × ((block : ℕ) × Names made block × (blocks ≤ block))

-- Each of the first so many records is legal at those of its blocks that stand from low up to high.
abbrev pub AreLegalIn : List Entry → List Record → ℕ → ℕ → ℕ → Type 0
AreLegalIn base records low high n =
    (k : ℕ) (made : Record) → k < n → slice_get records k ≡ Some made
    → (block : ℕ) → Names made block → low ≤ block → block < high → IsLegalAt (state base (take k records) block) made

-- The record there isn't legal at one of its blocks, or names one past the last.
abbrev pub IsRefused : List Entry → List Record → ℕ → Type 0
IsRefused base records at =
    (made : Record) × (slice_get records at ≡ Some made)
    × ((block : ℕ) × Names made block × (block < length base → IsLegalAt (state base (take at records) block) made → ⊥))

-- A window shows the blocks from low up to high, the first one first: here after these records.
abbrev pub Shows : List Entry → List Record → ℕ → ℕ → List Entry → Type 0
Shows base records low high window = (block : ℕ) → low ≤ block → block < high → entry_at window (block - low) ≡ state base records block

abbrev pub AreValidIn : ℕ → ℕ → List Entry → Type 0
AreValidIn low high window = (block : ℕ) → low ≤ block → block < high → IsEntry (entry_at window (block - low))

-- Within a window each block of a record takes its step, and each other stays.
abbrev pub IsStepIn : Record → ℕ → ℕ → List Entry → List Entry → Type 0
IsStepIn made low high old new =
    (block : ℕ) → low ≤ block → block < high
    → (Names made block → Takes made (entry_at old (block - low)) (entry_at new (block - low)))
    × ((Names made block → ⊥) → entry_at new (block - low) ≡ entry_at old (block - low))

-- The record isn't legal at one of its blocks in a window.
abbrev pub IsRefusedIn : Record → ℕ → ℕ → List Entry → Type 0
IsRefusedIn made low high window =
    (block : ℕ) × Names made block × (low ≤ block) × (block < high) × (IsLegalAt (entry_at window (block - low)) made → ⊥)
