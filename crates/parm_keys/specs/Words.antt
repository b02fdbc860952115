-- Lists of words: their order, and the row of a word.
use Rattle.std.specs.Prelude.{ℕ, List, [], ◌∷◌, Bool, true, false, map, ◌&&◌, not, nat_lt, nat_eq, if◌then◌else◌, Option}
use Rattle.std.specs.Borrow.{Bor}
use Rattle.std.specs.List.{list_any, position}
use Rattle.std.specs.Str.{bytes_eq}

-- a word stands before another in the order of dictionaries
abbrev pub stands_before : List ℕ → List ℕ → Bool
stands_before [] [] = false
stands_before [] (y ∷ ys) = true
stands_before (x ∷ xs) [] = false
stands_before (x ∷ xs) (y ∷ ys) = if nat_lt x y then true else if nat_eq x y then stands_before xs ys else false

-- each word stands before the next
abbrev pub are_rising : List (List ℕ) → Bool
are_rising [] = true
are_rising (w ∷ []) = true
are_rising (w ∷ v ∷ ws) = stands_before w v && are_rising (v ∷ ws)

-- no word stands twice
abbrev pub are_distinct : List (List ℕ) → Bool
are_distinct [] = true
are_distinct (w ∷ ws) = not (list_any (λ v. bytes_eq w v) ws) && are_distinct ws

-- the bytes of each word
abbrev pub spelled : List (Bor (List ℕ)) → List (List ℕ)
spelled words = map (λ w. w.now) words

-- the first row that holds a word
abbrev pub row_of : List (List ℕ) → List ℕ → Option ℕ
row_of words word = position (λ w. bytes_eq w word) words
