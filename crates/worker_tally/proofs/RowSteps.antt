-- What one turn more does to the rows.
use Rattle.std.proofs.Common.{arith, ℕ, zero, suc, ◌≡◌, ◌+◌, ◌-◌, ◌<◌, ◌≤◌, ◌++◌, Bool, true, false, cond, List, [], ◌∷◌, All, sum_by, length, set, get_or, replicate, refl, ap}
use Rattle.std.proofs.lemmas.List.{append-nil}
use Rattle.std.proofs.lemmas.List.Elements.{All-cons, All-head, All-nil, All-tail, All-weaker}
use Rattle.std.proofs.lemmas.List.Sums.{sum_by-cons}
use Rattle.worker_tally.specs.Rows.{both, empty_row, row_added}
use Rattle.worker_tally.specs.declared.row.IntervalRow.{IntervalRow}

-- a write of one row over rows that have empty ones behind
pub set_is_added : (more : IntervalRow) (d : IntervalRow) (place : ℕ) (rows : List IntervalRow)
    → set (rows ++ replicate (place + 1 - length rows) empty_row) place (both (get_or (rows ++ replicate (place + 1 - length rows) empty_row) place d) more)
    ≡ row_added place more rows
set_is_added more d zero [] = refl
set_is_added more d zero (row ∷ rows) =
    let none : zero + 1 - length (row ∷ rows) ≡ 0 = omega arith in
    rw none (ap (λ (xs : List IntervalRow). both row more ∷ xs) (append-nil rows))
set_is_added more d (suc place) [] =
    let fewer : suc place + 1 - length {A = IntervalRow} [] ≡ suc (place + 1 - length {A = IntervalRow} []) = omega arith in
    rw fewer (ap (λ (xs : List IntervalRow). empty_row ∷ xs) (set_is_added more d place []))
set_is_added more d (suc place) (row ∷ rows) =
    let fewer : suc place + 1 - length (row ∷ rows) ≡ place + 1 - length rows = omega arith in
    rw fewer (ap (λ (xs : List IntervalRow). row ∷ xs) (set_is_added more d place rows))

-- a number of all rows together
sum_added : (f : IntervalRow → ℕ) (more : IntervalRow) → f empty_row ≡ 0 → ((row : IntervalRow) → f (both row more) ≡ f row + f more)
    → (place : ℕ) (rows : List IntervalRow) → sum_by f (row_added place more rows) ≡ sum_by f rows + f more
sum_added f more none adds zero [] = omega (arith, sum_by-cons f (both empty_row more) [], adds empty_row, none)
sum_added f more none adds zero (row ∷ rows) = omega (arith, sum_by-cons f (both row more) rows, sum_by-cons f row rows, adds row)
sum_added f more none adds (suc place) [] =
    omega (arith, sum_by-cons f empty_row (row_added place more []), none, sum_added f more none adds place [])
sum_added f more none adds (suc place) (row ∷ rows) =
    omega (arith, sum_by-cons f row (row_added place more rows), sum_by-cons f row rows, sum_added f more none adds place rows)

pub sum_with : (f : IntervalRow → ℕ) (more : IntervalRow) → f empty_row ≡ 0 → ((row : IntervalRow) → f (both row more) ≡ f row + f more)
    → (called : Bool) (place : ℕ) (rows : List IntervalRow) → sum_by f (cond called (row_added place more rows) rows) ≡ sum_by f rows + cond called (f more) 0
sum_with f more none adds true place rows = sum_added f more none adds place rows
sum_with f more none adds false place rows = omega arith

-- how many there are
length_added : (more : IntervalRow) (place many : ℕ) (rows : List IntervalRow) → place < many → length rows ≤ many → length (row_added place more rows) ≤ many
length_added more zero many [] below few = omega arith
length_added more zero many (row ∷ rows) below few = omega arith
length_added more (suc place) many [] below few = omega (arith, length_added more place (many - 1) [] (omega arith) (omega arith))
length_added more (suc place) many (row ∷ rows) below few = omega (arith, length_added more place (many - 1) rows (omega arith) (omega arith))

pub length_with : (called : Bool) (more : IntervalRow) (place many : ℕ) (rows : List IntervalRow)
    → place < many → length rows ≤ many → length (cond called (row_added place more rows) rows) ≤ many
length_with true more place many rows below few = length_added more place many rows below few
length_with false more place many rows below few = few

-- what holds of each
all_added : (P Q : IntervalRow → Type 0) (more : IntervalRow) → ((row : IntervalRow) → P row → Q row) → ((row : IntervalRow) → P row → Q (both row more)) → P empty_row
    → (place : ℕ) (rows : List IntervalRow) → All P rows → All Q (row_added place more rows)
all_added P Q more weaker adds none zero [] all = All-cons Q (both empty_row more) [] (adds empty_row none) (All-nil Q)
all_added P Q more weaker adds none zero (row ∷ rows) all =
    All-cons Q (both row more) rows (adds row (All-head P row rows all)) (All-weaker P Q weaker rows (All-tail P row rows all))
all_added P Q more weaker adds none (suc place) [] all =
    All-cons Q empty_row (row_added place more []) (weaker empty_row none) (all_added P Q more weaker adds none place [] (All-nil P))
all_added P Q more weaker adds none (suc place) (row ∷ rows) all =
    All-cons Q row (row_added place more rows) (weaker row (All-head P row rows all)) (all_added P Q more weaker adds none place rows (All-tail P row rows all))

pub all_with : (P Q : IntervalRow → Type 0) (more : IntervalRow) → ((row : IntervalRow) → P row → Q row) → ((row : IntervalRow) → P row → Q (both row more)) → P empty_row
    → (called : Bool) (place : ℕ) (rows : List IntervalRow) → All P rows → All Q (cond called (row_added place more rows) rows)
all_with P Q more weaker adds none true place rows all = all_added P Q more weaker adds none place rows all
all_with P Q more weaker adds none false place rows all = All-weaker P Q weaker rows all
