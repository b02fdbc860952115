-- What is known of each block, and how the records of a journal change it. Keys are seen as numbers.
use Rattle.std.specs.Prelude.{◌≡◌, ◌≢◌, ◌⊎◌, ◌↔◌, ⊤, ℕ, ◌+◌, ◌<◌, ◌≤◌, Bool, ◌&&◌, nat_le, nat_lt, List, [], ◌∷◌, ◌++◌, length, map, filter, fold, take, sum_by, slice_get, slice_index_or, Some}
use Rattle.std.specs.List.{range_with_len}
use Rattle.key_state.specs.declared.entry.Entry.{Entry}
use Rattle.key_state.specs.declared.entry.Entry.TheVariants.{Settled, Pending, Bad}
use Rattle.key_state.specs.declared.record.Record.{Record}
use Rattle.key_state.specs.declared.record.Record.TheVariants.{Begin, End, Bad as BadRecord, BeginRun, EndRun, Clear}
use Rattle.vd_base.specs.Key.{next}

-- A pending entry goes to the next key.
abbrev pub IsEntry : Entry → Type 0
IsEntry (Settled key) = ⊤
IsEntry (Pending old new) = new ≡ next old
IsEntry Bad = ⊤

-- the keys with which bytes fit an entry
abbrev pub Permits : Entry → ℕ → Type 0
Permits (Settled settled) key = key ≡ settled
Permits (Pending old new) key = (key ≡ old) ⊎ (key ≡ new)
Permits Bad key = ⊥

abbrev pub IsPending : Entry → Type 0
IsPending entry = (old : ℕ) × (new : ℕ) × (entry ≡ Pending old new)

-- A settled entry goes to the next key, a pending one stays.
abbrev pub BeginsRun : Entry → Entry → Type 0
BeginsRun before after = ((key : ℕ) × (before ≡ Settled key) × (after ≡ Pending key (next key))) ⊎ (IsPending before × (after ≡ before))

-- This record takes the one entry to the other: the six rules, and no other.
abbrev pub Takes : Record → Entry → Entry → Type 0
Takes (Begin block old new) before after = (before ≡ Settled old) × (new ≡ next old) × (after ≡ Pending old new)
Takes (End block key) before after = ((old : ℕ) × (before ≡ Pending old key)) × (after ≡ Settled key)
Takes (BadRecord block) before after = (before ≢ Bad) × (after ≡ Bad)
Takes (BeginRun first many) before after = BeginsRun before after
Takes (EndRun first many) before after = (old : ℕ) × (new : ℕ) × (before ≡ Pending old new) × (after ≡ Settled new)
Takes (Clear first many) before after = (before ≢ Bad) × (after ≡ Settled 0)

-- A record is legal at an entry that it takes to some entry.
abbrev pub IsLegalAt : Entry → Record → Type 0
IsLegalAt before made = (after : Entry) × Takes made before after

-- a settled entry after its write began, a pending one after its write ended
abbrev pub begun : Entry → Entry
begun (Settled key) = Pending key (next key)
begun (Pending old new) = Pending old new
begun Bad = Bad

abbrev pub ended : Entry → Entry
ended (Settled key) = Settled key
ended (Pending old new) = Settled new
ended Bad = Bad

-- the entry that a record leaves where it is legal
abbrev pub leaves : Record → Entry → Entry
leaves (Begin block old new) before = Pending old new
leaves (End block key) before = Settled key
leaves (BadRecord block) before = Bad
leaves (BeginRun first many) before = begun before
leaves (EndRun first many) before = ended before
leaves (Clear first many) before = Settled 0

-- The blocks of a record are these many from the first on.
abbrev pub first_of : Record → ℕ
first_of (Begin block old new) = block.0
first_of (End block key) = block.0
first_of (BadRecord block) = block.0
first_of (BeginRun first many) = first.0
first_of (EndRun first many) = first.0
first_of (Clear first many) = first.0

abbrev pub many_of : Record → ℕ
many_of (Begin block old new) = 1
many_of (End block key) = 1
many_of (BadRecord block) = 1
many_of (BeginRun first many) = many
many_of (EndRun first many) = many
many_of (Clear first many) = many

-- whether a record is one of this block
abbrev pub names_block : ℕ → Record → Bool
names_block block made = nat_le (first_of made) block && nat_lt block (first_of made + many_of made)

abbrev pub Names : Record → ℕ → Type 0
Names made block = (first_of made ≤ block) × (block < first_of made + many_of made)

-- a block's own records
abbrev pub records_of : ℕ → List Record → List Record
records_of block records = filter (names_block block) records

-- the entry of a block, by its number
abbrev pub entry_at : List Entry → ℕ → Entry
entry_at entries block = slice_index_or entries block Bad

-- the end of a chain of records of one block
abbrev pub chain_end : Entry → List Record → Entry
chain_end entry records = fold (λ before made. leaves made before) entry records

-- what a block's own records make of its entry
abbrev pub state : List Entry → List Record → ℕ → Entry
state base records block = chain_end (entry_at base block) (records_of block records)

-- the same of each block
abbrev pub states : List Entry → List Record → List Entry
states base records = map (state base records) (range_with_len 0 (length base))

-- Of one block's records, each is legal at the entry that the one before leaves.
abbrev pub IsChain : Entry → List Record → Type 0
IsChain entry [] = ⊤
IsChain entry (made ∷ records) = IsLegalAt entry made × IsChain (leaves made entry) records

-- A list of records is legal from a base: the records of each block are a chain, and none names a block that isn't there.
pub record IsHistory (base : List Entry) (records : List Record) : Type 0 where
  pub chains : (block : ℕ) → block < length base → IsChain (entry_at base block) (records_of block records)
  pub within : (block : ℕ) → length base ≤ block → records_of block records ≡ []

-- A record is legal at the entry of each block that it names.
abbrev pub IsLegalOn : List Entry → Record → Type 0
IsLegalOn entries made = (block : ℕ) → Names made block → (block < length entries) × IsLegalAt (entry_at entries block) made

-- Record by record: each is legal on the entries that those before it leave.
abbrev pub AreLegal : List Entry → List Record → Type 0
AreLegal base records = (k : ℕ) (made : Record) → slice_get records k ≡ Some made → IsLegalOn (states base (take k records)) made

-- Each entry is one.
abbrev pub AreEntries : List Entry → Type 0
AreEntries entries = (block : ℕ) → block < length entries → IsEntry (entry_at entries block)

-- how many writes a record ends, and how many a list of them
abbrev pub ends_of : Record → ℕ
ends_of (Begin block old new) = 0
ends_of (End block key) = 1
ends_of (BadRecord block) = 0
ends_of (BeginRun first many) = 0
ends_of (EndRun first many) = many
ends_of (Clear first many) = 0

abbrev pub ends : List Record → ℕ
ends records = sum_by ends_of records

-- Both ways of saying that a list of records is legal agree.
abbrev pub HistoryIsLegal : Type 0
HistoryIsLegal = (base : List Entry) (records : List Record) → IsHistory base records ↔ AreLegal base records

-- One list behind another: the second one stands on the states that the first one leaves.
abbrev pub StatesAppend : Type 0
StatesAppend = (base : List Entry) (front back : List Record)
    → (states base (front ++ back) ≡ states (states base front) back)
    × (IsHistory base (front ++ back) ↔ (IsHistory base front × IsHistory (states base front) back))

-- The states of a legal history are entries, as many as the base has.
abbrev pub EntriesStay : Type 0
EntriesStay = (base : List Entry) (records : List Record)
    → (length (states base records) ≡ length base) × (AreEntries base → IsHistory base records → AreEntries (states base records))
