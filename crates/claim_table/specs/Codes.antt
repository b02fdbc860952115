-- An entry as a number below 512.
use Rattle.std.specs.Prelude.{⊤, ℕ, ◌+◌, ◌≤◌}
use Rattle.key_state.specs.Entries.{IsEntry}
use Rattle.key_state.specs.declared.entry.Entry.{Entry}
use Rattle.key_state.specs.declared.entry.Entry.TheVariants.{Settled, Pending, Bad}

-- A pending entry is told by its old key, since its new one is the next.
abbrev pub code_of : Entry → ℕ
code_of (Settled key) = key
code_of (Pending old new) = 128 + old
code_of Bad = 256

abbrev pub HasKeys : Entry → Type 0
HasKeys (Settled key) = key ≤ 126
HasKeys (Pending old new) = old ≤ 126
HasKeys Bad = ⊤

-- an entry that its number tells
abbrev pub IsCoded : Entry → Type 0
IsCoded entry = IsEntry entry × HasKeys entry
