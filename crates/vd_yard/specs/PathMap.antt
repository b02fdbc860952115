-- The values of a list of paths.
use Rattle.std.specs.Prelude.{ℕ, List, [], ◌∷◌, Option, Some, None, if◌then◌else◌}
use Rattle.std.specs.Str.{bytes_eq}
use Rattle.vd_yard.specs.Kept.{Kept, kept_of}

-- the value of the first entry of a path
abbrev pub value_at : {T : Type 0} → List (List ℕ × T) → List ℕ → Option T
value_at [] path = None
value_at (entry ∷ entries) path = if bytes_eq entry.0 path then Some entry.1 else value_at entries path

-- the finite map of these entries
abbrev pub map_of : {T : Type 0} → List (List ℕ × T) → Kept T
map_of entries = kept_of (value_at entries)
