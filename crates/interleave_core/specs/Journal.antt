-- A journal in memory: the entries as it began, the records since, and how many of them are synced.
use Rattle.std.specs.Prelude.{◌≡◌, ℕ, ◌<◌, List, length, slice_index_or}
use Rattle.key_state.specs.declared.entry.Entry.{Entry}
use Rattle.key_state.specs.declared.entry.Entry.TheVariants.{Settled}
use Rattle.key_state.specs.declared.record.Record.{Record}
use Rattle.key_state.specs.Entries.{Names, leaves, state}

pub record Ledger : Type 0 where
  pub base : List Entry
  pub records : List Record
  pub synced : ℕ

-- a block's entry now
abbrev pub now_of : Ledger → ℕ → Entry
now_of j block = state j.base j.records block

-- an entry of a list that has it
abbrev pub entry_in : List Entry → ℕ → Entry
entry_in entries block = slice_index_or entries block (Settled 0)

-- The blocks of a record below a place have taken its step, and no other has.
pub record IsStepped (made : Record) (old new : List Entry) (below : ℕ) : Type 0 where
  pub size : length new ≡ length old
  pub stepped : (b : ℕ) → b < length old → b < below → Names made b → entry_in new b ≡ leaves made (entry_in old b)
  pub rest : (b : ℕ) → (Names made b → b < below → ⊥) → entry_in new b ≡ entry_in old b
