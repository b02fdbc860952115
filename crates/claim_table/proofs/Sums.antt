-- Sums over lists that change at one place.
use Rattle.std.proofs.Common.{◌≡◌, ℕ, zero, suc, ◌+◌, ◌≤◌, ◌≢◌, List, [], ◌∷◌, ◌++◌, set, sym, ap, refl, arith}
use mathlib.Core.Option.{some, some-injective, some-ne-none}
use lib.ListN.{get_elem?}
use Rattle.claim_table.specs.Sums.{total}

module _ {A : Type 0} (f : A → ℕ) where
  pub total-append : (front back : List A) → total f (front ++ back) ≡ total f front + total f back
  total-append [] back = omega arith
  total-append (x ∷ front) back = omega (arith, total-append front back)

  -- the term at one place is replaced
  pub total-set : (xs : List A) (i : ℕ) (old new : A) → get_elem? xs i ≡ some old → total f (set xs i new) + f old ≡ total f xs + f new
  total-set [] i old new at = absurd (some-ne-none old (sym at))
  total-set (x ∷ xs) zero old new at = omega (arith, ap f (some-injective x old at))
  total-set (x ∷ xs) (suc i) old new at = omega (arith, total-set xs i old new at)

  pub term_le : (xs : List A) (i : ℕ) (x : A) → get_elem? xs i ≡ some x → f x ≤ total f xs
  term_le [] i x at = absurd (some-ne-none x (sym at))
  term_le (y ∷ xs) zero x at = omega (arith, ap f (some-injective y x at))
  term_le (y ∷ xs) (suc i) x at = omega (arith, term_le xs i x at)

  -- the terms at two places
  pub terms_le : (xs : List A) (i j : ℕ) (x y : A) → j ≢ i → get_elem? xs i ≡ some x → get_elem? xs j ≡ some y → f x + f y ≤ total f xs
  terms_le [] i j x y apart at-i at-j = absurd (some-ne-none x (sym at-i))
  terms_le (z ∷ xs) zero zero x y apart at-i at-j = absurd (apart refl)
  terms_le (z ∷ xs) zero (suc j) x y apart at-i at-j = omega (arith, ap f (some-injective z x at-i), term_le xs j y at-j)
  terms_le (z ∷ xs) (suc i) zero x y apart at-i at-j = omega (arith, ap f (some-injective z y at-j), term_le xs i x at-i)
  terms_le (z ∷ xs) (suc i) (suc j) x y apart at-i at-j = omega (arith, terms_le xs i j x y (λ same. apart (ap suc same)) at-i at-j)
