-- Bits of words, and of the bytes that make them.
use Rattle.std.proofs.Common.{subst, add-one, ◌≡◌, ℕ, zero, suc, ◌+◌, ◌-◌, ◌*◌, ◌/◌, ◌%◌, ◌^◌, ◌<◌, ◌≤◌, List, length, get_or, refl, ap, sym, ◌∙◌, ◌↔◌, inl, inr, arith, slice_index}
use Rattle.std.specs.Prelude.{bit_xor, bit_or}
use Rattle.std.specs.Int.{bit_at, sum_through, byte_worth}
use Rattle.std.proofs.lemmas.Nat.{div-add-mod', pow-add, le_or_l, le_or_r}
use Rattle.std.proofs.Math.Pow.{shr-shr}
use Rattle.std.proofs.Math.Nat.{mul-le-mul_right}
use Rattle.std.proofs.lemmas.Nat.Bits.{bit_at_xor, bit_at_cat_low, bit_at_cat_high, same_from_bits_below, bit_at-zero, bit_at-lt}
use Rattle.std.proofs.lemmas.Grind.{pow_more}
use Rattle.std.proofs.lemmas.Bool.{cases_lt}
use Rattle.std.proofs.lemmas.Simd.{get_or-chunk}
use lib.Lanes.{chunk}
use Rattle.lfsr_pattern.specs.Pattern.{parity, IsLater, AreLater, IsFront, bit}
use Rattle.lfsr_pattern.specs.Recurrences.{IsSound}

-- the bits of what is shifted to the right
pub bit_at_shr : (n s k : ℕ) → bit_at (n / 2 ^ s) k ≡ bit_at n (k + s)
bit_at_shr n s k =
    ap (λ x. x % 2) (shr-shr n s k)
    ∙ (let e : s + k ≡ k + s = omega arith in ap (λ x. n / 2 ^ x % 2) e)

-- a number's low bits
pub bit_at_low : (n w k : ℕ) → k < w → bit_at (n % 2 ^ w) k ≡ bit_at n k
bit_at_low n w k le =
    sym (bit_at_cat_low (n / 2 ^ w) w (n % 2 ^ w) k le) ∙ ap (λ x. bit_at x k) (div-add-mod' n (2 ^ w))

-- The exclusive or that a sound word makes 0 in its low half.
abbrev pub faults : ℕ → ℕ
faults w = bit_xor (bit_xor (bit_xor (bit_xor w (w / 2 ^ 1)) (w / 2 ^ 2)) (w / 2 ^ 22)) (w / 2 ^ 32)

five : (a b c d e ab abc abcd x : ℕ) → ab ≡ (a + b) % 2 → abc ≡ (ab + c) % 2 → abcd ≡ (abc + d) % 2 → x ≡ (abcd + e) % 2 → x ≡ (a + b + c + d + e) % 2
five a b c d e ab abc abcd x h1 h2 h3 h4 = omega arith

pub bit_at_faults : (w k : ℕ) → bit_at (faults w) k ≡ (bit_at w k + bit_at w (k + 1) + bit_at w (k + 2) + bit_at w (k + 22) + bit_at w (k + 32)) % 2
bit_at_faults w k =
    let x1 = bit_xor w (w / 2 ^ 1) in
    let x2 = bit_xor x1 (w / 2 ^ 2) in
    let x3 = bit_xor x2 (w / 2 ^ 22) in
    five (bit_at w k) (bit_at w (k + 1)) (bit_at w (k + 2)) (bit_at w (k + 22)) (bit_at w (k + 32)) (bit_at x1 k) (bit_at x2 k) (bit_at x3 k) _
    (bit_at_xor w (w / 2 ^ 1) k ∙ ap (λ y. (bit_at w k + y) % 2) (bit_at_shr w 1 k))
    (bit_at_xor x1 (w / 2 ^ 2) k ∙ ap (λ y. (bit_at x1 k + y) % 2) (bit_at_shr w 2 k))
    (bit_at_xor x2 (w / 2 ^ 22) k ∙ ap (λ y. (bit_at x2 k + y) % 2) (bit_at_shr w 22 k))
    (bit_at_xor x3 (w / 2 ^ 32) k ∙ ap (λ y. (bit_at x3 k + y) % 2) (bit_at_shr w 32 k))

pub same_from_parity : (s e : ℕ) → e < 2 → (s + e) % 2 ≡ 0 → e ≡ s % 2
same_from_parity s e low even = omega arith

pub parity_of_same : (s e : ℕ) → e ≡ s % 2 → (s + e) % 2 ≡ 0
parity_of_same s e same = omega arith

pub sound_where_no_fault : (w : ℕ) → faults w % 2 ^ 32 ≡ 0 → IsSound w
sound_where_no_fault w none k le =
    let clear : bit_at (faults w) k ≡ 0 = sym (bit_at_low (faults w) 32 k le) ∙ (ap (λ x. bit_at x k) none ∙ bit_at-zero k) in
    same_from_parity (bit_at w k + bit_at w (k + 1) + bit_at w (k + 2) + bit_at w (k + 22)) (bit_at w (k + 32)) (bit_at-lt w (k + 32)) (sym (bit_at_faults w k) ∙ clear)

pub no_fault_where_sound : (w : ℕ) → IsSound w → faults w % 2 ^ 32 ≡ 0
no_fault_where_sound w sound =
    same_from_bits_below 32 (faults w % 2 ^ 32) 0 (omega arith) (omega arith)
    (λ k le. bit_at_low (faults w) 32 k le ∙ (bit_at_faults w k ∙ (parity_of_same _ _ (sound k le) ∙ sym (bit_at-zero k))))

pub or_is_zero : (a b : ℕ) → bit_or a b ≡ 0 → (a ≡ 0) × (b ≡ 0)
or_is_zero a b none = (omega (arith, le_or_l a b), omega (arith, le_or_r a b))

-- ---- the bits of a number that is read from bytes, the lowest first
low_place : (m : ℕ) → m < 8 → (m / 8 ≡ 0) × (m % 8 ≡ m)
low_place m le = (omega arith, omega arith)

last_place : (k m : ℕ) → 8 * (k + 1) ≤ m → m < 8 * (k + 2) → (m / 8 ≡ k + 1) × (m % 8 ≡ m - 8 * (k + 1))
last_place k m le below = (omega arith, omega arith)

pow_256 : (k : ℕ) → 256 ^ k ≡ 2 ^ (8 * k)
pow_256 zero = refl
pow_256 (suc k) =
    let e : 256 ^ suc k ≡ 256 ^ k * 256 = ap (λ x. 256 ^ x) (sym (add-one k)) ∙ pow_more 256 k in
    let f : 2 ^ (8 * k + 8) ≡ 2 ^ (8 * k) * 256 = pow-add 2 (8 * k) 8 in
    let g : 8 * suc k ≡ 8 * k + 8 = omega arith in
    e ∙ (ap (λ x. x * 256) (pow_256 k) ∙ (sym f ∙ ap (λ x. 2 ^ x) (sym g)))

below_step : (s x p : ℕ) → s < p → x < 256 → s + x * p < p * 256
below_step s x p low small =
    let g : x * p ≤ 255 * p = mul-le-mul_right p (omega arith) in
    omega (arith, g)

below_through : (f : ℕ → ℕ) → (k : ℕ) → ((i : ℕ) → i ≤ k → f i < 256) → sum_through (λ i. byte_worth i (f i)) k < 2 ^ (8 * suc k)
below_through f zero fit = fit 0 (omega arith)
below_through f (suc k) fit =
    let ih = below_through f k (λ i le. fit i (omega arith)) in
    let p = 2 ^ (8 * suc k) in
    let e : 256 ^ suc k ≡ p = pow_256 (suc k) in
    let g : 2 ^ (8 * suc k + 8) ≡ p * 256 = pow-add 2 (8 * suc k) 8 in
    let h : 8 * suc (suc k) ≡ 8 * suc k + 8 = omega arith in
    let b = below_step (sum_through (λ i. byte_worth i (f i)) k) (f (suc k)) p ih (fit (suc k) (omega arith)) in
    rw (e, h, g) b

pub bits_through : (f : ℕ → ℕ) → (k m : ℕ) → ((i : ℕ) → i ≤ k → f i < 256) → m < 8 * suc k → bit_at (sum_through (λ i. byte_worth i (f i)) k) m ≡ bit_at (f (m / 8)) (m % 8)
bits_through f zero m fit le =
    let at = low_place m (omega arith) in
    sym (ap (λ q. bit_at (f q) (m % 8)) at.0 ∙ ap (λ r. bit_at (f 0) r) at.1)
bits_through f (suc k) m fit le =
    let s = sum_through (λ i. byte_worth i (f i)) k in
    let x = f (suc k) in
    let e : 256 ^ suc k ≡ 2 ^ (8 * suc k) = pow_256 (suc k) in
    let turn : s + x * 256 ^ suc k ≡ x * 2 ^ (8 * suc k) + s = ap (λ y. s + x * y) e ∙ omega arith in
    ap (λ n. bit_at n m) turn
    ∙ elim (cases_lt m (8 * suc k)) [
      | inl low ↦ bit_at_cat_low x (8 * suc k) s m low ∙ bits_through f k m (λ i le. fit i (omega arith)) low
      | inr high ↦
          let at = last_place k m (omega arith) (omega arith) in
          let d : m - 8 * suc k ≡ m % 8 = omega arith in
          let q : suc k ≡ m / 8 = omega arith in
          bit_at_cat_high x (8 * suc k) s m (below_through f k (λ i le. fit i (omega arith))) high ∙ (ap (λ r. bit_at x r) d ∙ ap (λ y. bit_at (f y) (m % 8)) q)
    ]

pub same_parity : {a b c d a' b' c' d' : ℕ} → a ≡ a' → b ≡ b' → c ≡ c' → d ≡ d' → parity a b c d ≡ parity a' b' c' d'
same_parity e f g h = cc

-- ---- a word of 64 bits at a byte's place
-- the number in n + 1 bytes that are loaded at a byte's place
pub bits_at : (bytes : List ℕ) (at k m : ℕ) → at + suc k ≤ length bytes → ((i : ℕ) → get_or bytes i 0 < 256) → m < 8 * suc k → bit_at (sum_through (λ i. byte_worth i (slice_index (chunk at (suc k) bytes) i)) k) m ≡ bit bytes (8 * at + m)
bits_at bytes at k m room fit le =
    let f : ℕ → ℕ = λ i. slice_index (chunk at (suc k) bytes) i in
    let read : (i : ℕ) → i < suc k → f i ≡ get_or bytes (at + i) 0 = λ i low. get_or-chunk at (suc k) bytes i 0 low in
    let fits : (i : ℕ) → i ≤ k → f i < 256 = λ i low. rw (read i (omega arith)) (fit (at + i)) in
    let place : (8 * at + m) / 8 ≡ at + m / 8 = omega arith in
    let inner : (8 * at + m) % 8 ≡ m % 8 = omega arith in
    bits_through f k m fits le
    ∙ (ap (λ x. bit_at x (m % 8)) (read (m / 8) (omega arith))
    ∙ sym (ap (λ q. bit_at (get_or bytes q 0) ((8 * at + m) % 8)) place ∙ ap (λ r. bit_at (get_or bytes (at + m / 8) 0) r) inner))

pub bits_of_load : (bytes : List ℕ) (at k m : ℕ) (loaded : List ℕ) → loaded ≡ chunk at (suc k) bytes → at + suc k ≤ length bytes → ((i : ℕ) → get_or bytes i 0 < 256) → m < 8 * suc k → bit_at (sum_through (λ i. byte_worth i (slice_index loaded i)) k) m ≡ bit bytes (8 * at + m)
bits_of_load bytes at k m loaded e room fit le =
    ap (λ xs. bit_at (sum_through (λ i. byte_worth i (slice_index xs i)) k) m) e ∙ bits_at bytes at k m room fit le

-- a fact for each place below 32 (j + 1), from those below 32 j and the 32 after them
join : (P : ℕ → Type 0) (j : ℕ) → ((i : ℕ) → i < 32 * j → P i) → ((k : ℕ) → k < 32 → P (32 * j + k)) → (i : ℕ) → i < 32 * (j + 1) → P i
join P j low high i le = elim (cases_lt i (32 * j)) [
  | inl l ↦ low i l
  | inr h ↦
      let e : 32 * j + (i - 32 * j) ≡ i = omega arith in
      subst P e (high (i - 32 * j) (omega arith))
]

-- the bits of a word that is read at byte 4 j
abbrev pub ReadsAt : List ℕ → ℕ → ℕ → Type 0
ReadsAt bytes j w = (m : ℕ) → m < 64 → bit_at w m ≡ bit bytes (32 * j + m)

later_from_sound : (bytes : List ℕ) (j w : ℕ) → ReadsAt bytes j w → IsSound w → (k : ℕ) → k < 32 → IsLater bytes (32 * j + k)
later_from_sound bytes j w reads sound k le =
    let a0 : bit_at w k ≡ bit bytes (32 * j + k) = reads k (omega arith) in
    let a1 : bit_at w (k + 1) ≡ bit bytes (32 * j + k + 1) = reads (k + 1) (omega arith) ∙ ap (bit bytes) (omega arith) in
    let a2 : bit_at w (k + 2) ≡ bit bytes (32 * j + k + 2) = reads (k + 2) (omega arith) ∙ ap (bit bytes) (omega arith) in
    let a22 : bit_at w (k + 22) ≡ bit bytes (32 * j + k + 22) = reads (k + 22) (omega arith) ∙ ap (bit bytes) (omega arith) in
    let a32 : bit_at w (k + 32) ≡ bit bytes (32 * j + k + 32) = reads (k + 32) (omega arith) ∙ ap (bit bytes) (omega arith) in
    let s = sound k le in
    sym a32 ∙ (s ∙ same_parity a0 a1 a2 a22)

sound_from_later : (bytes : List ℕ) (j w : ℕ) → ReadsAt bytes j w → ((k : ℕ) → k < 32 → IsLater bytes (32 * j + k)) → IsSound w
sound_from_later bytes j w reads later k le =
    let a0 : bit_at w k ≡ bit bytes (32 * j + k) = reads k (omega arith) in
    let a1 : bit_at w (k + 1) ≡ bit bytes (32 * j + k + 1) = reads (k + 1) (omega arith) ∙ ap (bit bytes) (omega arith) in
    let a2 : bit_at w (k + 2) ≡ bit bytes (32 * j + k + 2) = reads (k + 2) (omega arith) ∙ ap (bit bytes) (omega arith) in
    let a22 : bit_at w (k + 22) ≡ bit bytes (32 * j + k + 22) = reads (k + 22) (omega arith) ∙ ap (bit bytes) (omega arith) in
    let a32 : bit_at w (k + 32) ≡ bit bytes (32 * j + k + 32) = reads (k + 32) (omega arith) ∙ ap (bit bytes) (omega arith) in
    a32 ∙ (later k le ∙ sym (same_parity a0 a1 a2 a22))

-- the first word, against a seed
pub first_from_same : (bytes : List ℕ) (s first : ℕ) → ((m : ℕ) → m < 32 → bit_at first m ≡ bit bytes m) → first ≡ s → (i : ℕ) → i < 32 → bit bytes i ≡ bit_at s i
first_from_same bytes s first reads same i le = sym (reads i le) ∙ ap (λ x. bit_at x i) same

pub same_from_first : (bytes : List ℕ) (s first : ℕ) → s < 2 ^ 32 → first < 2 ^ 32 → ((m : ℕ) → m < 32 → bit_at first m ≡ bit bytes m) → ((i : ℕ) → i < 32 → bit bytes i ≡ bit_at s i) → first ≡ s
same_from_first bytes s first fits fits' reads begins = same_from_bits_below 32 first s fits' fits (λ i le. reads i le ∙ begins i le)

-- what the gathered faults say at the end
pub front_by : (bytes : List ℕ) (seed first bad count : ℕ) → seed < 2 ^ 32 → first < 2 ^ 32 → ((m : ℕ) → m < 32 → bit_at first m ≡ bit bytes m) → bad ≡ 0 → (bad ≡ 0 ↔ AreLater bytes count) → (first ≡ seed ↔ IsFront seed bytes count)
front_by bytes seed first bad count fits fits' reads none all = (
  (λ same. record { first = first_from_same bytes seed first reads same; later = all.0 none }),
  (λ front. same_from_first bytes seed first fits fits' reads front.first),
)

-- the step of a loop that gathers faults
pub more_later : (bytes : List ℕ) (j w bad f : ℕ) → ReadsAt bytes j w → (f ≡ 0 ↔ IsSound w) → (bad ≡ 0 ↔ AreLater bytes (32 * j)) → (bit_or bad f ≡ 0 ↔ AreLater bytes (32 * (j + 1)))
more_later bytes j w bad f reads here before = (
  (λ none.
      let both = or_is_zero bad f none in
      join (IsLater bytes) j (before.0 both.0) (later_from_sound bytes j w reads (here.0 both.1))),
  (λ all.
      let low : bad ≡ 0 = before.1 (λ i le. all i (omega arith)) in
      let high : f ≡ 0 = here.1 (sound_from_later bytes j w reads (λ k le. all (32 * j + k) (omega arith))) in
      ap (λ x. bit_or x f) low ∙ ap (λ x. bit_or 0 x) high),
)
