-- Places in a list with one more in front.
use Rattle.std.proofs.Common.{◌≡◌, ℕ, suc, ◌-◌, ◌<◌, ◌≤◌, take, drop, List, [], ◌∷◌, length, refl, sym, ◌∙◌, ap, arith, Some, get_or}
use Rattle.std.specs.Prelude.{slice_get}
use Rattle.std.proofs.lemmas.List.{take_all}
use Rattle.std.proofs.lemmas.Option.{slice_get_within, get_or_from_slice_get, slice_get-get_or}

pub place_later : {A : Type 0} (p x : A) (xs : List A) (i : ℕ) → slice_get xs i ≡ Some x → slice_get (p ∷ xs) (suc i) ≡ Some x
place_later p x xs i is =
    let within = slice_get_within xs i x is in
    let far : suc i < length (p ∷ xs) = omega (arith, within) in
    slice_get-get_or (p ∷ xs) (suc i) x far ∙ ap (λ y. Some y) (get_or_from_slice_get xs i x x is)

pub place_earlier : {A : Type 0} (p x : A) (xs : List A) (i : ℕ) → slice_get (p ∷ xs) (suc i) ≡ Some x → slice_get xs i ≡ Some x
place_earlier p x xs i is =
    let far = slice_get_within (p ∷ xs) (suc i) x is in
    let within : i < length xs = omega (arith, far) in
    slice_get-get_or xs i x within ∙ ap (λ y. Some y) (get_or_from_slice_get (p ∷ xs) (suc i) x x is)

-- the first of a list and the others
pub first_and_rest : {A : Type 0} (xs : List A) (x : A) → x ≡ get_or xs 0 x → 1 ≤ length xs → xs ≡ x ∷ take (length xs - 1) (drop 1 xs)
first_and_rest [] x e some = absurd (omega (arith, some))
first_and_rest (y ∷ ys) x e some =
    let many : length (y ∷ ys) - 1 ≡ length ys = omega arith in
    ap (λ z. z ∷ ys) (sym e) ∙ ap (λ zs. x ∷ zs) (sym (ap (λ n. take n ys) many ∙ take_all (length ys) ys (omega arith)))

pub empty_list : {A : Type 0} (xs : List A) → length xs < 1 → xs ≡ []
empty_list [] none = refl
empty_list (x ∷ xs) none = absurd (omega (arith, none))
