-- Elements of two lists, one behind the other.
use Rattle.std.proofs.Common.{◌≡◌, ℕ, zero, suc, ◌-◌, ◌<◌, ◌≤◌, List, [], ◌∷◌, ◌++◌, length, slice_get, Some, refl, sym, ap, ◌∙◌, arith}

pub get_front : {X : Type 0} (xs ys : List X) (i : ℕ) → i < length xs → slice_get (xs ++ ys) i ≡ slice_get xs i
get_front [] ys i early = absurd (omega (arith, early))
get_front (x ∷ xs) ys zero early = refl
get_front (x ∷ xs) ys (suc i) early = get_front xs ys i (omega (arith, early))

pub get_back : {X : Type 0} (xs ys : List X) (i : ℕ) → length xs ≤ i → slice_get (xs ++ ys) i ≡ slice_get ys (i - length xs)
get_back [] ys i late = let same : i - 0 ≡ i = omega arith in ap (λ n. slice_get ys n) (sym same)
get_back (x ∷ xs) ys zero late = absurd (omega (arith, late))
get_back (x ∷ xs) ys (suc i) late =
    let same : i - length xs ≡ suc i - suc (length xs) = omega arith in
    get_back xs ys i (omega (arith, late)) ∙ ap (λ n. slice_get ys n) same

only : {X : Type 0} (x y : X) (n : ℕ) → slice_get (x ∷ []) n ≡ Some y → (n ≡ 0) × (x ≡ y)
only x y zero is = (refl, cc)
only x y (suc n) is = cc

pub get_last : {X : Type 0} (xs : List X) (x : X) (i : ℕ) (y : X) → length xs ≤ i → slice_get (xs ++ x ∷ []) i ≡ Some y → (i ≡ length xs) × (x ≡ y)
get_last xs x i y late is =
    let one = only x y (i - length xs) (sym (get_back xs (x ∷ []) i late) ∙ is) in
    (omega (arith, one.0, late), one.1)
