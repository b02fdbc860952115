-- What a write does to the bytes that a sink has taken, where they are told.
use Rattle.std.specs.Prelude.{ℕ, Bool, true, false, List, [], ◌∷◌, take, Result, MatchResult, Option}
use Rattle.std.specs.Io.KnownBytes.{Appends}

-- a front of these bytes was added
abbrev pub AppendsFront : Option (List ℕ) → Option (List ℕ) → List ℕ → Type 0
AppendsFront old new bytes = (n : ℕ) × Appends old new (take n bytes)

-- all of them at Ok, and a front of them at Err
abbrev pub Takes : {T E : Type 0} → Option (List ℕ) → Option (List ℕ) → Result T E → List ℕ → Type 0
Takes old new result bytes = MatchResult result (λ _. Appends old new bytes) (λ _. AppendsFront old new bytes)

abbrev pub is_empty : {A : Type 0} → List A → Bool
is_empty [] = true
is_empty (x ∷ xs) = false
