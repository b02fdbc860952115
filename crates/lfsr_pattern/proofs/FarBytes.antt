-- Bytes that are made of whole bytes far before them.
use Rattle.std.proofs.Common.{subst, ◌≡◌, ℕ, zero, suc, refl, ◌≤◌, ◌+◌, ◌-◌, ◌*◌, ◌/◌, ◌%◌, ◌^◌, ◌<◌, List, [], ◌∷◌, length, get_or, ap, sym, ◌∙◌, ◌↔◌, arith, inl, inr, slice_index}
use Rattle.std.specs.Prelude.{bit_xor, bit_or}
use Rattle.std.specs.Int.{bit_at}
use Rattle.std.proofs.lemmas.Nat.{xor_lt}
use Rattle.std.proofs.lemmas.Nat.Bits.{bit_at_xor, bit_at-lt, bit_at-zero, same_from_bits_below}
use Rattle.std.proofs.lemmas.Simd.{get_or-zip2, length-zip2, get_or-chunk, length-chunk}
use Rattle.std.proofs.lemmas.Bool.{cases_lt}
use lib.Lanes.{zip2, fold_l, chunk}
use Rattle.lfsr_pattern.specs.Pattern.{parity, AreBytes, IsFront, IsPattern, bit}
use Rattle.lfsr_pattern.specs.Recurrences.{IsFar, IsFarByte, AreFar, IsToldByBytes}
use Rattle.lfsr_pattern.proofs.BitLemmas.{same_parity, same_from_parity, parity_of_same, or_is_zero}
use Rattle.lfsr_pattern.proofs.Fronts.{four}
use Rattle.lfsr_pattern.proofs.Squares.{Holds, from_eighth, to_eighth}

-- bit k of byte q
bit_in : (bytes : List ℕ) (q k m : ℕ) → k < 8 → m ≡ 8 * q + k → bit bytes m ≡ bit_at (get_or bytes q 0) k
bit_in bytes q k m le e =
    let at : m / 8 ≡ q = omega arith in
    let inner : m % 8 ≡ k = omega arith in
    ap (λ x. bit_at (get_or bytes x 0) (m % 8)) at ∙ ap (λ x. bit_at (get_or bytes q 0) x) inner

bit_of_four : (a b c d k : ℕ) → bit_at (bit_xor (bit_xor (bit_xor a b) c) d) k ≡ parity (bit_at a k) (bit_at b k) (bit_at c k) (bit_at d k)
bit_of_four a b c d k =
    let x1 = bit_xor a b in
    let x2 = bit_xor x1 c in
    four (bit_at a k) (bit_at b k) (bit_at c k) (bit_at d k) (bit_at x1 k) (bit_at x2 k) _ (bit_at_xor a b k) (bit_at_xor x1 c k) (bit_at_xor x2 d k)

-- ---- one byte
-- The exclusive or that is 0 where a byte is made of those far before it.
abbrev pub far_of : List ℕ → ℕ → ℕ
far_of bytes q = bit_xor (bit_xor (bit_xor (bit_xor (get_or bytes q 0) (get_or bytes (q + 1) 0)) (get_or bytes (q + 2) 0)) (get_or bytes (q + 22) 0)) (get_or bytes (q + 32) 0)

far_parity : (bytes : List ℕ) (q k : ℕ) → k < 8 → parity (bit bytes (8 * q + k)) (bit bytes (8 * q + k + 8)) (bit bytes (8 * q + k + 16)) (bit bytes (8 * q + k + 176)) ≡ bit_at (bit_xor (bit_xor (bit_xor (get_or bytes q 0) (get_or bytes (q + 1) 0)) (get_or bytes (q + 2) 0)) (get_or bytes (q + 22) 0)) k
far_parity bytes q k le =
    same_parity (bit_in bytes q k _ le (omega arith)) (bit_in bytes (q + 1) k _ le (omega arith)) (bit_in bytes (q + 2) k _ le (omega arith)) (bit_in bytes (q + 22) k _ le (omega arith))
    ∙ sym (bit_of_four (get_or bytes q 0) (get_or bytes (q + 1) 0) (get_or bytes (q + 2) 0) (get_or bytes (q + 22) 0) k)

pub zero_sum : (a e : ℕ) → a < 2 → e < 2 → (a + e) % 2 ≡ 0 → e ≡ a
zero_sum a e le le' even = omega arith

sum_zero : (a e : ℕ) → e ≡ a → (a + e) % 2 ≡ 0
sum_zero a e same = omega arith

far_below : (bytes : List ℕ) (q : ℕ) → AreBytes bytes → far_of bytes q < 2 ^ 8
far_below bytes q fit =
    xor_lt 8 _ _ (xor_lt 8 _ _ (xor_lt 8 _ _ (xor_lt 8 _ _ (fit q) (fit (q + 1))) (fit (q + 2))) (fit (q + 22))) (fit (q + 32))

pub far_byte : (bytes : List ℕ) (q : ℕ) → AreBytes bytes → (far_of bytes q ≡ 0 ↔ IsFarByte bytes q)
far_byte bytes q fit =
    let made = bit_xor (bit_xor (bit_xor (get_or bytes q 0) (get_or bytes (q + 1) 0)) (get_or bytes (q + 2) 0)) (get_or bytes (q + 22) 0) in
    let is = get_or bytes (q + 32) 0 in
    let here : (k : ℕ) → k < 8 → bit bytes (8 * q + k + 256) ≡ bit_at is k = λ k le. bit_in bytes (q + 32) k _ le (omega arith) in (
      (λ none k le.
          let even : (bit_at made k + bit_at is k) % 2 ≡ 0 = sym (bit_at_xor made is k) ∙ (ap (λ x. bit_at x k) none ∙ bit_at-zero k) in
          here k le ∙ (zero_sum (bit_at made k) (bit_at is k) (bit_at-lt made k) (bit_at-lt is k) even ∙ sym (far_parity bytes q k le))),
      (λ far.
          same_from_bits_below 8 (far_of bytes q) 0 (far_below bytes q fit) (omega arith)
          (λ k le. bit_at_xor made is k ∙ (sum_zero (bit_at made k) (bit_at is k) (sym (here k le) ∙ (far k le ∙ far_parity bytes q k le)) ∙ sym (bit_at-zero k)))),
    )

-- ---- 32 bytes
abbrev pub AreZeros : List ℕ → Type 0
AreZeros xs = (m : ℕ) → m < 32 → slice_index xs m ≡ 0

far_at : (bytes : List ℕ) (q i : ℕ) → q ≡ i / 8 → IsFarByte bytes q → IsFar bytes i
far_at bytes q i e far =
    let place : 8 * q + i % 8 ≡ i = omega arith in
    subst (λ (n : ℕ). IsFar bytes n) place (far (i % 8) (omega arith))

-- the step of a loop that gathers faults, lane by lane
pub far_more : (bytes : List ℕ) (j : ℕ) (bad f : List ℕ) → length bad ≡ 32 → length f ≡ 32 → ((m : ℕ) → m < 32 → (slice_index f m ≡ 0 ↔ IsFarByte bytes (32 * j + m))) → (AreZeros bad ↔ AreFar bytes (256 * j)) → (AreZeros (zip2 bit_or bad f) ↔ AreFar bytes (256 * (j + 1)))
far_more bytes j bad f long long' here before =
    let lane : (m : ℕ) → m < 32 → slice_index (zip2 bit_or bad f) m ≡ bit_or (slice_index bad m) (slice_index f m) = λ m le. get_or-zip2 bit_or bad f m 0 0 0 (omega arith) (omega arith) in (
      (λ none i le. elim (cases_lt i (256 * j)) [
        | inl low ↦ before.0 (λ m low_m. (or_is_zero _ _ (sym (lane m low_m) ∙ none m low_m)).0) i low
        | inr high ↦
            let m = i / 8 - 32 * j in
            let in_part : m < 32 = omega arith in
            far_at bytes (32 * j + m) i (omega arith) ((here m in_part).0 (or_is_zero _ _ (sym (lane m in_part) ∙ none m in_part)).1)
      ]),
      (λ all m le.
          let low : slice_index bad m ≡ 0 = before.1 (λ i low_i. all i (omega arith)) m le in
          let high : slice_index f m ≡ 0 = (here m le).1 (λ k low_k. all (8 * (32 * j + m) + k) (omega arith)) in
          lane m le ∙ (ap (λ x. bit_or x (slice_index f m)) low ∙ ap (λ x. bit_or 0 x) high)),
    )

-- The lanes of the exclusive or of five loads.
abbrev pub far_lanes : List ℕ → List ℕ → List ℕ → List ℕ → List ℕ → List ℕ
far_lanes p p1 p2 p22 p32 = zip2 bit_xor (zip2 bit_xor (zip2 bit_xor (zip2 bit_xor p p1) p2) p22) p32

joined : (xs ys : List ℕ) → length xs ≡ 32 → length ys ≡ 32 → length (zip2 bit_xor xs ys) ≡ 32
joined xs ys long long' = length-zip2 bit_xor xs ys (long ∙ sym long') ∙ long

pub far_long : (p p1 p2 p22 p32 : List ℕ) → length p ≡ 32 → length p1 ≡ 32 → length p2 ≡ 32 → length p22 ≡ 32 → length p32 ≡ 32 → length (far_lanes p p1 p2 p22 p32) ≡ 32
far_long p p1 p2 p22 p32 l l1 l2 l22 l32 = joined _ p32 (joined _ p22 (joined _ p2 (joined p p1 l l1) l2) l22) l32

pub far_lane : (bytes : List ℕ) (at m : ℕ) (p p1 p2 p22 p32 : List ℕ) → at + 64 ≤ length bytes → p ≡ chunk at 32 bytes → p1 ≡ chunk (at + 1) 32 bytes → p2 ≡ chunk (at + 2) 32 bytes → p22 ≡ chunk (at + 22) 32 bytes → p32 ≡ chunk (at + 32) 32 bytes → m < 32 → slice_index (far_lanes p p1 p2 p22 p32) m ≡ far_of bytes (at + m)
far_lane bytes at m p p1 p2 p22 p32 room e e1 e2 e22 e32 le =
    let long : (xs : List ℕ) (k : ℕ) → k + 32 ≤ length bytes → xs ≡ chunk k 32 bytes → length xs ≡ 32 = λ xs k low is. ap length is ∙ length-chunk k 32 bytes low in
    let read : (xs : List ℕ) (k q : ℕ) → xs ≡ chunk k 32 bytes → k + m ≡ q → get_or xs m 0 ≡ get_or bytes q 0 =
    λ xs k q is place. ap (λ ys. get_or ys m 0) is ∙ (get_or-chunk k 32 bytes m 0 le ∙ ap (λ n. get_or bytes n 0) place) in
    let l = long p at (omega arith) e in
    let l1 = long p1 (at + 1) (omega arith) e1 in
    let l2 = long p2 (at + 2) (omega arith) e2 in
    let l22 = long p22 (at + 22) (omega arith) e22 in
    let l32 = long p32 (at + 32) (omega arith) e32 in
    let x1 = zip2 bit_xor p p1 in
    let x2 = zip2 bit_xor x1 p2 in
    let x3 = zip2 bit_xor x2 p22 in
    let k1 = joined p p1 l l1 in
    let k2 = joined x1 p2 k1 l2 in
    let k3 = joined x2 p22 k2 l22 in
    let lane : (xs ys : List ℕ) → length xs ≡ 32 → length ys ≡ 32 → get_or (zip2 bit_xor xs ys) m 0 ≡ bit_xor (get_or xs m 0) (get_or ys m 0) = λ xs ys a b. get_or-zip2 bit_xor xs ys m 0 0 0 (omega arith) (omega arith) in
    let r = read p at (at + m) e (omega arith) in
    let r1 = read p1 (at + 1) (at + m + 1) e1 (omega arith) in
    let r2 = read p2 (at + 2) (at + m + 2) e2 (omega arith) in
    let r22 = read p22 (at + 22) (at + m + 22) e22 (omega arith) in
    let r32 = read p32 (at + 32) (at + m + 32) e32 (omega arith) in
    let s1 = lane p p1 l l1 in
    let s2 = lane x1 p2 k1 l2 in
    let s3 = lane x2 p22 k2 l22 in
    let s4 = lane x3 p32 k3 l32 in
    cc

-- no lane has a bit
pub zeros_of_or : (xs : List ℕ) (a m : ℕ) → fold_l bit_or a xs ≡ 0 → (a ≡ 0) × (get_or xs m 0 ≡ 0)
zeros_of_or [] a m none = (none, refl)
zeros_of_or (x ∷ xs) a zero none =
    let both = or_is_zero a x (zeros_of_or xs (bit_or a x) 0 none).0 in
    (both.0, both.1)
zeros_of_or (x ∷ xs) a (suc m) none =
    let rest = zeros_of_or xs (bit_or a x) m none in
    ((or_is_zero a x rest.0).0, rest.1)

pub or_of_zeros : (xs : List ℕ) → ((m : ℕ) → m < length xs → get_or xs m 0 ≡ 0) → fold_l bit_or 0 xs ≡ 0
or_of_zeros [] zeros = refl
or_of_zeros (x ∷ xs) zeros =
    let head : x ≡ 0 = zeros 0 (omega arith) in
    let e : bit_or 0 x ≡ 0 = ap (λ y. bit_or 0 y) head in
    ap (λ a. fold_l bit_or a xs) e ∙ or_of_zeros xs (λ m le. zeros (suc m) (omega arith))

-- ---- the whole pattern
-- A front of 32 bytes and the far recurrence behind it make the pattern.
pattern_of_far : (seed : ℕ) (bytes : List ℕ) → length bytes ≡ 480 → IsFront seed bytes 224 → AreFar bytes 3584 → IsPattern seed bytes
pattern_of_far seed bytes long front far =
    let f : ℕ → ℕ = λ i. bit bytes i in
    let base : (i : ℕ) → i < 224 → Holds f 1 i = λ i le. parity_of_same (f i + f (i + 1) + f (i + 2) + f (i + 22)) (f (i + 32)) (front.later i le) in
    let eighth : (i : ℕ) → i < 3584 → Holds f 8 i = λ i le. parity_of_same (f i + f (i + 8) + f (i + 16) + f (i + 176)) (f (i + 256)) (far i le) in
    record {
      size = long;
      front = record {
        first = front.first;
        later = λ i le. same_from_parity (f i + f (i + 1) + f (i + 2) + f (i + 22)) (f (i + 32)) (bit_at-lt _ _) (from_eighth f 3584 base eighth (i + 1) i (omega arith) (omega arith));
      };
    }

-- The other way round.
front_of_pattern : (seed : ℕ) (bytes : List ℕ) → IsPattern seed bytes → IsFront seed bytes 224
front_of_pattern seed bytes p = record { first = p.front.first; later = λ i le. p.front.later i (omega arith) }

far_of_pattern : (seed : ℕ) (bytes : List ℕ) → IsPattern seed bytes → AreFar bytes 3584
far_of_pattern seed bytes p i le =
    let f : ℕ → ℕ = λ i. bit bytes i in
    let one : (q : ℕ) → q < 3808 → Holds f 1 q = λ q low. parity_of_same (f q + f (q + 1) + f (q + 2) + f (q + 22)) (f (q + 32)) (p.front.later q low) in
    same_from_parity (f i + f (i + 8) + f (i + 16) + f (i + 176)) (f (i + 256)) (bit_at-lt _ _) (to_eighth f 3584 one i le)

pub told_by_bytes : IsToldByBytes
told_by_bytes seed bytes long = (
  (λ p. (front_of_pattern seed bytes p, far_of_pattern seed bytes p)),
  (λ both. pattern_of_far seed bytes long both.0 both.1),
)
