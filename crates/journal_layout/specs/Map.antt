-- The bytes of a map sector: 256 places of two bytes.
use Rattle.std.specs.Prelude.{◌≡◌, ⊤, ℕ, ◌+◌, ◌*◌, ◌≤◌, List, [], ◌∷◌, slice_range}
use Rattle.key_state.specs.declared.entry.Entry.{Entry}
use Rattle.key_state.specs.declared.entry.Entry.TheVariants.{Settled, Pending, Bad}
use Rattle.vd_base.specs.Key.{next}

-- the two bytes of an entry
abbrev pub entry_bytes : Entry → List ℕ
entry_bytes (Settled key) = key ∷ 0 ∷ []
entry_bytes (Pending old new) = old ∷ new ∷ []
entry_bytes Bad = 0 ∷ 255 ∷ []

-- The keys are keys, and a pending entry goes to the next one.
abbrev pub HasKeys : Entry → Type 0
HasKeys (Settled key) = key ≤ 126
HasKeys (Pending old new) = (old ≤ 126) × (new ≡ next old)
HasKeys Bad = ⊤

-- Place `index` of a map sector has this entry.
pub record IsEntryOf (sector : List ℕ) (index : ℕ) (entry : Entry) : Type 0 where
  pub bytes : slice_range sector (2 * index) (2 * index + 2) ≡ entry_bytes entry
  pub keys : HasKeys entry
