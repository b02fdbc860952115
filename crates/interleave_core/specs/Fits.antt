-- Which sectors fit an entry, and the entry that sectors confirm. A sector is seen as its key, 0 where it was never stamped.
use Rattle.std.specs.Prelude.{◌≡◌, ◌⊎◌, ⊤, ℕ, ◌<◌}
use Rattle.key_state.specs.declared.entry.Entry.{Entry}
use Rattle.key_state.specs.declared.entry.Entry.TheVariants.{Settled, Pending, Bad}

-- Each sector matches key 0. One that was never stamped matches it alone.
abbrev pub Matches : ℕ → ℕ → Type 0
Matches sector key = (key ≡ 0) ⊎ (sector ≡ key)

-- The sector matches some key that the entry permits. Where the block is bad each one fits.
abbrev pub Fits : Entry → ℕ → Type 0
Fits (Settled key) sector = Matches sector key
Fits (Pending old new) sector = Matches sector old ⊎ Matches sector new
Fits Bad sector = ⊤

-- of so many sectors
abbrev pub AllMatch : (ℕ → ℕ) → ℕ → ℕ → Type 0
AllMatch sector many key = (s : ℕ) → s < many → Matches (sector s) key

abbrev pub AllFit : (ℕ → ℕ) → ℕ → Entry → Type 0
AllFit sector many entry = (s : ℕ) → s < many → Fits entry (sector s)

-- What a recovery makes of an entry and its block's sectors: one that they don't fit is bad; a pending one is settled where
-- all match the new key, else where all match the old one; else it stays.
abbrev pub Settles : (ℕ → ℕ) → ℕ → Entry → Entry → Type 0
Settles sector many Bad after = after ≡ Bad
Settles sector many (Settled key) after =
    (AllMatch sector many key × (after ≡ Settled key)) ⊎ ((AllMatch sector many key → ⊥) × (after ≡ Bad))
Settles sector many (Pending old new) after =
    (AllMatch sector many new × (after ≡ Settled new))
    ⊎ ((AllMatch sector many new → ⊥) × AllMatch sector many old × (after ≡ Settled old))
    ⊎ ((AllMatch sector many new → ⊥) × (AllMatch sector many old → ⊥) × AllFit sector many (Pending old new) × (after ≡ Pending old new))
    ⊎ ((AllFit sector many (Pending old new) → ⊥) × (after ≡ Bad))
