-- Which names a list of patterns selects.
use Rattle.std.specs.Prelude.{ℕ, List, [], ◌∷◌, Bool, not, nat_eq, ◌-◌, if◌then◌else◌, Option, Some, None, Result, Ok, Err, length, take, filter, slice_index, slice_index_or}
use Rattle.std.specs.List.{list_any, position, range_with_len, starts_with}
use Rattle.std.specs.Str.{bytes_eq}
use Rattle.std.specs.Global.{Vec}
use Rattle.wildcards.specs.declared.fault.SelectFault.{SelectFault}
use Rattle.wildcards.specs.declared.fault.SelectFault.TheVariants as fault

-- a pattern with a star at its end fits the names that begin with what stands before the star; another fits itself
abbrev pub fits : List ℕ → List ℕ → Bool
fits pattern name =
    if nat_eq (slice_index pattern (length pattern - 1)) 42
    then starts_with nat_eq name (take (length pattern - 1) pattern)
    else bytes_eq pattern name

abbrev pub fits_some : List (List ℕ) → List ℕ → Bool
fits_some patterns name = list_any (λ pattern. fits pattern name) patterns

-- the places, from 0 on, of the names that fit some pattern
abbrev pub places_of : List (List ℕ) → List (List ℕ) → List ℕ
places_of patterns names = filter (λ place. fits_some patterns (slice_index_or names place [])) (range_with_len 0 (length names))

-- the first pattern that fits no name
abbrev pub idle_at : List (List ℕ) → List (List ℕ) → Option ℕ
idle_at patterns names = position (λ pattern. not (list_any (λ name. fits pattern name) names)) patterns

-- where nothing is selected: at that pattern, or at 0 where there is none
abbrev pub nothing_at : List (List ℕ) → List (List ℕ) → Option ℕ
nothing_at [] names = Some 0
nothing_at (pattern ∷ patterns) names = idle_at (pattern ∷ patterns) names

-- the pattern that an answer names
abbrev pub nothing_of : Result (Vec ℕ) SelectFault → Option ℕ
nothing_of (Ok places) = None
nothing_of (Err (fault.Nothing pattern)) = Some pattern
nothing_of (Err fault.NoMemory) = None
