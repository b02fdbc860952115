-- A pattern that is made byte by byte: the bytes so far, and then the last 32 bits, are a front of it.
use Rattle.std.proofs.Common.{subst, ◌≡◌, ℕ, zero, suc, ◌+◌, ◌-◌, ◌*◌, ◌/◌, ◌%◌, ◌^◌, ◌<◌, List, [], ◌∷◌, ◌++◌, length, get_or, take, set, ap, sym, ◌∙◌, inl, inr, arith, slice_index, w32, length-append, length-take, append_assoc}
use Rattle.std.specs.Prelude.{bit_xor}
use Rattle.std.specs.Int.{bit_at, to_le_bytes}
use Rattle.std.proofs.lemmas.Nat.{from_le_bytes-to_le_bytes_4}
use Rattle.std.proofs.lemmas.Nat.Bits.{bit_at_xor}
use Rattle.std.proofs.lemmas.List.{get_or_append_left, get_or-append-add, take_more_set, take_all}
use Rattle.std.proofs.lemmas.Bool.{cases_lt}
use Rattle.lfsr_pattern.specs.Pattern.{parity, IsFront, IsPattern, bit}
use Rattle.lfsr_pattern.specs.Recurrences.{next_byte, next_state, StepsByRecurrence}
use Rattle.lfsr_pattern.proofs.BitLemmas.{bit_at_shr, bit_at_low, bits_through, same_parity}

pub four : (a b c d ab abc x : ℕ) → ab ≡ (a + b) % 2 → abc ≡ (ab + c) % 2 → x ≡ (abc + d) % 2 → x ≡ (a + b + c + d) % 2
four a b c d ab abc x h1 h2 h3 = omega arith

-- the next eight bits of the recurrence, all at once
pub bits_that_follow : StepsByRecurrence
bits_that_follow s k le =
    let x1 = bit_xor s (s / 2 ^ 1) in
    let x2 = bit_xor x1 (s / 2 ^ 2) in
    let x3 = bit_xor x2 (s / 2 ^ 22) in
    bit_at_low x3 8 k le
    ∙ four (bit_at s k) (bit_at s (k + 1)) (bit_at s (k + 2)) (bit_at s (k + 22)) (bit_at x1 k) (bit_at x2 k) _
    (bit_at_xor s (s / 2 ^ 1) k ∙ ap (λ y. (bit_at s k + y) % 2) (bit_at_shr s 1 k))
    (bit_at_xor x1 (s / 2 ^ 2) k ∙ ap (λ y. (bit_at x1 k + y) % 2) (bit_at_shr s 2 k))
    (bit_at_xor x2 (s / 2 ^ 22) k ∙ ap (λ y. (bit_at x2 k + y) % 2) (bit_at_shr s 22 k))

-- the bits of a number's four bytes
byte_of : (s q : ℕ) → q < 4 → slice_index (to_le_bytes w32 s) q < 256
byte_of s zero le = omega arith
byte_of s (suc zero) le = omega arith
byte_of s (suc (suc zero)) le = omega arith
byte_of s (suc (suc (suc zero))) le = omega arith
byte_of s (suc (suc (suc (suc q)))) le = absurd (omega arith)

pub bits_of_four : (s m : ℕ) → s < 2 ^ 32 → m < 32 → bit (to_le_bytes w32 s) m ≡ bit_at s m
bits_of_four s m fits le =
    sym (bits_through (λ i. slice_index (to_le_bytes w32 s) i) 3 m (λ i low. byte_of s i (omega arith)) (omega arith))
    ∙ ap (λ n. bit_at n m) (from_le_bytes-to_le_bytes_4 s fits)

-- bits of a list's front, and of what follows it
pub bit_left : (xs ys : List ℕ) (i : ℕ) → i < 8 * length xs → bit (xs ++ ys) i ≡ bit xs i
bit_left xs ys i le = ap (λ x. bit_at x (i % 8)) (get_or_append_left xs ys 0 (i / 8) (omega arith))

pub bit_right : (xs ys : List ℕ) (m : ℕ) → bit (xs ++ ys) (8 * length xs + m) ≡ bit ys m
bit_right xs ys m =
    let q : (8 * length xs + m) / 8 ≡ length xs + m / 8 = omega arith in
    let r : (8 * length xs + m) % 8 ≡ m % 8 = omega arith in
    ap (λ p. bit_at (get_or (xs ++ ys) p 0) ((8 * length xs + m) % 8)) q
    ∙ (ap (λ p. bit_at (get_or (xs ++ ys) (length xs + m / 8) 0) p) r
    ∙ ap (λ x. bit_at x (m % 8)) (get_or-append-add xs ys (m / 8) 0))

only : (n k : ℕ) → k < 8 → bit (n ∷ []) k ≡ bit_at n k
only n k le =
    let q : k / 8 ≡ 0 = omega arith in
    let r : k % 8 ≡ k = omega arith in
    ap (λ p. bit_at (get_or (n ∷ []) p 0) (k % 8)) q ∙ ap (λ p. bit_at n p) r

-- One more byte behind a front.
pub IsFront-more : (seed s n : ℕ) (xs : List ℕ) → s < 2 ^ 32 → IsFront seed (xs ++ to_le_bytes w32 s) (8 * length xs) → ((k : ℕ) → k < 8 → bit_at n k ≡ parity (bit_at s k) (bit_at s (k + 1)) (bit_at s (k + 2)) (bit_at s (k + 22))) → IsFront seed ((xs ++ to_le_bytes w32 s) ++ n ∷ []) (8 * (length xs + 1))
IsFront-more seed s n xs fits front next =
    let ys = xs ++ to_le_bytes w32 s in
    let long : length ys ≡ length xs + 4 = length-append xs (to_le_bytes w32 s) in
    let kept : (i : ℕ) → i < 8 * length ys → bit (ys ++ n ∷ []) i ≡ bit ys i = λ i le. bit_left ys (n ∷ []) i le in
    let state : (m : ℕ) → m < 32 → bit (ys ++ n ∷ []) (8 * length xs + m) ≡ bit_at s m =
    λ m le. kept (8 * length xs + m) (omega arith) ∙ (bit_right xs (to_le_bytes w32 s) m ∙ bits_of_four s m fits le) in
    let newest : (k : ℕ) → k < 8 → bit (ys ++ n ∷ []) (8 * length xs + k + 32) ≡ bit_at n k =
    λ k le. (let e : 8 * length xs + k + 32 ≡ 8 * length ys + k = omega arith in ap (bit (ys ++ n ∷ [])) e) ∙ (bit_right ys (n ∷ []) k ∙ only n k le) in
    record {
      first = λ i le. kept i (omega arith) ∙ front.first i le;
      later = λ i le. elim (cases_lt i (8 * length xs)) [
        | inl low ↦
            kept (i + 32) (omega arith)
            ∙ (front.later i low
            ∙ sym (same_parity (kept i (omega arith)) (kept (i + 1) (omega arith)) (kept (i + 2) (omega arith)) (kept (i + 22) (omega arith))))
        | inr high ↦
            let k = i - 8 * length xs in
            let e : 8 * length xs + k ≡ i = omega arith in
            let at : (m : ℕ) → k + m < 32 → bit (ys ++ n ∷ []) (i + m) ≡ bit_at s (k + m) =
            λ m low. (let f : i + m ≡ 8 * length xs + (k + m) = omega arith in ap (bit (ys ++ n ∷ [])) f) ∙ state (k + m) low in
            let at0 : bit (ys ++ n ∷ []) i ≡ bit_at s k = ap (bit (ys ++ n ∷ [])) (sym e) ∙ state k (omega arith) in
            let last : bit (ys ++ n ∷ []) (i + 32) ≡ bit_at n k = ap (λ j. bit (ys ++ n ∷ []) (j + 32)) (sym e) ∙ newest k (omega arith) in
            last ∙ (next k (omega arith) ∙ sym (same_parity at0 (at 1 (omega arith)) (at 2 (omega arith)) (at 22 (omega arith))))
      ];
    }

pub front_at_start : (seed : ℕ) → seed < 2 ^ 32 → IsFront seed (to_le_bytes w32 seed) 0
front_at_start seed fits = record { first = λ i le. bits_of_four seed i fits le; later = λ i le. absurd (omega arith) }

shifted_bytes : (s n t : ℕ) → s < 2 ^ 32 → n < 256 → t ≡ n * 2 ^ 24 + s / 256 → to_le_bytes w32 t ≡ s / 256 % 256 ∷ s / 65536 % 256 ∷ s / 16777216 % 256 ∷ n ∷ []
shifted_bytes s n t fits small e =
    let a : t % 256 ≡ s / 256 % 256 = omega arith in
    let b : t / 256 % 256 ≡ s / 65536 % 256 = omega arith in
    let c : t / 65536 % 256 ≡ s / 16777216 % 256 = omega arith in
    let d : t / 16777216 % 256 ≡ n = omega arith in
    cc

-- the step of the loop
pub front_step : (seed s t j : ℕ) (out : List ℕ) → j < length out → s < 2 ^ 32 → t ≡ next_state s → IsFront seed (take j out ++ to_le_bytes w32 s) (8 * j) → IsFront seed (take (j + 1) (set out j (s % 256)) ++ to_le_bytes w32 t) (8 * (j + 1))
front_step seed s t j out room fits e front =
    let n = next_byte s in
    let xs = take j out in
    let long : length xs ≡ j = omega (arith, length-take j out) in
    let front' : IsFront seed (xs ++ to_le_bytes w32 s) (8 * length xs) = subst (λ (i : ℕ). IsFront seed (xs ++ to_le_bytes w32 s) (8 * i)) (sym long) front in
    let more = IsFront-more seed s n xs fits front' (bits_that_follow s) in
    let l : take (j + 1) (set out j (s % 256)) ≡ xs ++ (s % 256) ∷ [] = take_more_set out j (s % 256) room in
    let r : to_le_bytes w32 t ≡ s / 256 % 256 ∷ s / 65536 % 256 ∷ s / 16777216 % 256 ∷ n ∷ [] = shifted_bytes s n t fits (omega arith) e in
    let one : take (j + 1) (set out j (s % 256)) ++ to_le_bytes w32 t ≡ (xs ++ (s % 256) ∷ []) ++ (s / 256 % 256 ∷ s / 65536 % 256 ∷ s / 16777216 % 256 ∷ n ∷ []) = cc in
    let two : (xs ++ (s % 256) ∷ []) ++ (s / 256 % 256 ∷ s / 65536 % 256 ∷ s / 16777216 % 256 ∷ n ∷ []) ≡ (xs ++ to_le_bytes w32 s) ++ n ∷ [] =
    append_assoc xs ((s % 256) ∷ []) (s / 256 % 256 ∷ s / 65536 % 256 ∷ s / 16777216 % 256 ∷ n ∷ []) ∙ sym (append_assoc xs (to_le_bytes w32 s) (n ∷ [])) in
    let at : IsFront seed ((xs ++ to_le_bytes w32 s) ++ n ∷ []) (8 * (j + 1)) = subst (λ (i : ℕ). IsFront seed ((xs ++ to_le_bytes w32 s) ++ n ∷ []) (8 * (i + 1))) long more in
    subst (λ (ys : List ℕ). IsFront seed ys (8 * (j + 1))) (sym (one ∙ two)) at

-- the end of the loop
pub pattern_at_end : (seed s j : ℕ) (out : List ℕ) → j ≡ 480 → length out ≡ 480 → IsFront seed (take j out ++ to_le_bytes w32 s) (8 * j) → IsPattern seed out
pattern_at_end seed s j out e long front =
    let whole : take j out ≡ out = take_all j out (omega arith) in
    let f : IsFront seed (out ++ to_le_bytes w32 s) (8 * j) = subst (λ (ys : List ℕ). IsFront seed (ys ++ to_le_bytes w32 s) (8 * j)) whole front in
    let kept : (i : ℕ) → i < 3840 → bit (out ++ to_le_bytes w32 s) i ≡ bit out i = λ i le. bit_left out (to_le_bytes w32 s) i (omega arith) in
    record {
      size = long;
      front = record {
        first = λ i le. sym (kept i (omega arith)) ∙ f.first i le;
        later = λ i le.
            sym (kept (i + 32) (omega arith)) ∙ (f.later i (omega arith) ∙ same_parity (kept i (omega arith)) (kept (i + 1) (omega arith)) (kept (i + 2) (omega arith)) (kept (i + 22) (omega arith)));
      };
    }
