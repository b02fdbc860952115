-- A seed has one pattern.
use Rattle.std.proofs.Common.{subst, ◌≡◌, ℕ, zero, suc, ◌+◌, ◌-◌, ◌*◌, ◌/◌, ◌%◌, ◌<◌, ◌≤◌, List, get_or, ap, sym, ◌∙◌, inl, inr, arith}
use Rattle.std.specs.Int.{bit_at}
use Rattle.std.proofs.lemmas.Nat.Bits.{same_from_bits_below}
use Rattle.std.proofs.lemmas.Grind.{same_number_lists}
use Rattle.std.proofs.lemmas.Bool.{cases_lt}
use Rattle.lfsr_pattern.specs.Pattern.{AreBytes, IsPattern, bit}
use Rattle.lfsr_pattern.proofs.BitLemmas.{same_parity}

bits_once : (seed : ℕ) (xs ys : List ℕ) → IsPattern seed xs → IsPattern seed ys → (n i : ℕ) → i < n → i < 3840 → bit xs i ≡ bit ys i
bits_once seed xs ys p q zero i le in_range = absurd (omega arith)
bits_once seed xs ys p q (suc n) i le in_range = elim (cases_lt i 32) [
  | inl low ↦ p.front.first i low ∙ sym (q.front.first i low)
  | inr high ↦
      let k = i - 32 in
      let e : k + 32 ≡ i = omega arith in
      let ih : (m : ℕ) → m ≤ 22 → bit xs (k + m) ≡ bit ys (k + m) = λ m low. bits_once seed xs ys p q n (k + m) (omega arith) (omega arith) in
      let here : bit xs k ≡ bit ys k = bits_once seed xs ys p q n k (omega arith) (omega arith) in
      let both : bit xs (k + 32) ≡ bit ys (k + 32) =
      p.front.later k (omega arith) ∙ (same_parity here (ih 1 (omega arith)) (ih 2 (omega arith)) (ih 22 (omega arith)) ∙ sym (q.front.later k (omega arith))) in
      subst (λ (j : ℕ). bit xs j ≡ bit ys j) e both
]

pub pattern_once : (seed : ℕ) (xs ys : List ℕ) → AreBytes xs → AreBytes ys → IsPattern seed xs → IsPattern seed ys → xs ≡ ys
pattern_once seed xs ys fit fit' p q =
    same_number_lists xs ys (p.size ∙ sym q.size)
    (λ k le. same_from_bits_below 8 (get_or xs k 0) (get_or ys k 0) (fit k) (fit' k)
    (λ m low.
    let at : (8 * k + m) / 8 ≡ k = omega arith in
    let in_byte : (8 * k + m) % 8 ≡ m = omega arith in
    let b : bit xs (8 * k + m) ≡ bit ys (8 * k + m) = bits_once seed xs ys p q 3840 (8 * k + m) (omega (arith, p.size)) (omega (arith, p.size)) in
    let l : (zs : List ℕ) → bit zs (8 * k + m) ≡ bit_at (get_or zs k 0) m =
    λ zs. ap (λ x. bit_at (get_or zs x 0) ((8 * k + m) % 8)) at ∙ ap (λ x. bit_at (get_or zs k 0) x) in_byte in
    sym (l xs) ∙ (b ∙ l ys)))
