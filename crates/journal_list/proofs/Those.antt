-- Numbers of a range that fit, in ascending order.
use Rattle.std.proofs.Common.{◌≡◌, inl, inr, ℕ, zero, suc, ◌+◌, ◌<◌, ◌≤◌, List, [], ◌∷◌, ◌++◌, length, Contains, slice_index_or, refl, sym, ap, ◌∙◌, subst, arith}
use Rattle.std.proofs.lemmas.Bool.{cases_lt, cases_eq}
use Rattle.std.proofs.lemmas.List.{length_push}
use Rattle.std.proofs.lemmas.List.Elements.{Contains-append_left, Contains-append_right, Contains-append_cases}
use Rattle.journal_list.specs.Lists.{AreThose}

of_none : (n : ℕ) → Contains [] n → ⊥
of_none n is = omega (arith, is.1)

of_one : (x n : ℕ) → Contains (x ∷ []) n → x ≡ n
of_one x n is = subst (λ k. slice_index_or (x ∷ []) k n ≡ n) (let first : is.0 ≡ 0 = omega (arith, is.1) in first) is.2

front_at : (xs : List ℕ) (x i d : ℕ) → i < length xs → slice_index_or (xs ++ x ∷ []) i d ≡ slice_index_or xs i d
front_at [] x i d inside = absurd (omega (arith, inside))
front_at (y ∷ xs) x zero d inside = refl
front_at (y ∷ xs) x (suc i) d inside = front_at xs x i d (omega (arith, inside))

last_at : (xs : List ℕ) (x d : ℕ) → slice_index_or (xs ++ x ∷ []) (length xs) d ≡ x
last_at [] x d = refl
last_at (y ∷ xs) x d = last_at xs x d

-- within a list no default is read
same_default : (xs : List ℕ) (i d : ℕ) → i < length xs → slice_index_or xs i (slice_index_or xs i d) ≡ slice_index_or xs i d
same_default [] i d inside = absurd (omega (arith, inside))
same_default (x ∷ xs) zero d inside = refl
same_default (x ∷ xs) (suc i) d inside = same_default xs i d (omega (arith, inside))

pub those_none : (fits : ℕ → Type 0) (n : ℕ) → AreThose fits n n []
those_none fits n = record {
  each = λ m. ((λ is. absurd (of_none m is)), λ is. absurd (omega (arith, is.0, is.1)));
  ascending = λ i j order inside. absurd (omega (arith, inside));
}

pub those_skip : (fits : ℕ → Type 0) (low high : ℕ) (found : List ℕ) → (fits high → ⊥) → AreThose fits low high found → AreThose fits low (high + 1) found
those_skip fits low high found none those = record {
  each = λ n. (
    (λ is. let old = (those.each n).0 is in (old.0, omega (arith, old.1), old.2)),
    λ is. elim (cases_eq n high) [
      | inl here ↦ absurd (none (subst fits here is.2))
      | inr other ↦ (those.each n).1 (is.0, omega (arith, is.1, other), is.2)
    ],
  );
  ascending = those.ascending;
}

pub those_more : (fits : ℕ → Type 0) (low high : ℕ) (found : List ℕ) → low ≤ high → fits high → AreThose fits low high found → AreThose fits low (high + 1) (found ++ high ∷ [])
those_more fits low high found from fit those = record {
  each = λ n. (
    (λ is. elim (Contains-append_cases found (high ∷ []) n is) [
      | inl front ↦ let old = (those.each n).0 front in (old.0, omega (arith, old.1), old.2)
      | inr back ↦
          let here : high ≡ n = of_one high n back in
          (omega (arith, from, here), omega (arith, here), subst fits here fit)
    ]),
    λ is. elim (cases_eq n high) [
      | inl here ↦ Contains-append_right found (high ∷ []) n (0, omega arith, sym here)
      | inr other ↦ Contains-append_left found (high ∷ []) n ((those.each n).1 (is.0, omega (arith, is.1, other), is.2))
    ],
  );
  ascending = λ i j order inside.
      let long = length_push found high in
      elim (cases_lt j (length found)) [
        | inl early ↦
            let one = front_at found high i 0 (omega (arith, order, early)) in
            let two = front_at found high j 0 early in
            let old = those.ascending i j order early in
            omega (arith, one, two, old)
        | inr late ↦
            let last : j ≡ length found = omega (arith, late, inside, long) in
            let here : i < length found = omega (arith, order, last) in
            let one = front_at found high i 0 here in
            let two : slice_index_or (found ++ high ∷ []) j 0 ≡ high = ap (λ n. slice_index_or (found ++ high ∷ []) n 0) last ∙ last_at found high 0 in
            let below = ((those.each (slice_index_or found i 0)).0 (i, here, same_default found i 0 here)).1 in
            omega (arith, one, two, below)
      ];
}
