-- The names that a count makes.
use Rattle.std.specs.Prelude.{ℕ, List, ◌++◌, map, decimal}
use Rattle.std.specs.List.{range_with_len}

-- a name with first, first + 1 and so on behind it, so many in all
abbrev pub names_of : List ℕ → ℕ → ℕ → List (List ℕ)
names_of name first many = map (λ number. name ++ decimal number) (range_with_len first many)
