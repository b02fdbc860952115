-- A recurrence over two elements, squared: it holds with twice its lags where it holds, and back.
use Rattle.std.proofs.Common.{◌≡◌, ℕ, zero, suc, ◌+◌, ◌-◌, ◌*◌, ◌%◌, ◌<◌, subst, ap, arith, inl, inr}
use Rattle.std.proofs.lemmas.Bool.{cases_lt}

-- the elements that the recurrence with p times its lags ties to one another
abbrev pub tied : (ℕ → ℕ) → ℕ → ℕ → ℕ
tied f p i = f i + f (i + p) + f (i + 2 * p) + f (i + 22 * p) + f (i + 32 * p)

abbrev pub Holds : (ℕ → ℕ) → ℕ → ℕ → Type 0
Holds f p i = tied f p i % 2 ≡ 0

five : (a b c d e b' c' d' e' : ℕ) → b ≡ b' → c ≡ c' → d ≡ d' → e ≡ e' → a + b + c + d + e ≡ a + b' + c' + d' + e'
five a b c d e b' c' d' e' h1 h2 h3 h4 = cc

combined : (a b c d e b' c' d' e' x x' : ℕ) → b ≡ b' → c ≡ c' → d ≡ d' → e ≡ e' → x ≡ x' → (a + b' + c' + d' + e') % 2 ≡ x' % 2 → (a + b + c + d + e) % 2 ≡ x % 2
combined a b c d e b' c' d' e' x x' h1 h2 h3 h4 h5 h = cc

twice : (n0 n1 n2 n3 n4 n22 n23 n24 n32 n33 n34 n44 n54 n64 : ℕ) → ((n0 + n1 + n2 + n22 + n32) + (n1 + n2 + n3 + n23 + n33) + (n2 + n3 + n4 + n24 + n34) + (n22 + n23 + n24 + n44 + n54) + (n32 + n33 + n34 + n54 + n64)) % 2 ≡ (n0 + n2 + n4 + n44 + n64) % 2
twice n0 n1 n2 n3 n4 n22 n23 n24 n32 n33 n34 n44 n54 n64 = omega arith

square : (f : ℕ → ℕ) (p i : ℕ) → (tied f p i + tied f p (i + p) + tied f p (i + 2 * p) + tied f p (i + 22 * p) + tied f p (i + 32 * p)) % 2 ≡ tied f (2 * p) i % 2
square f p i =
    let n : ℕ → ℕ = λ k. f (i + k * p) in
    let at : (a b : ℕ) → a ≡ b → f a ≡ f b = λ a b e. ap f e in
    combined (tied f p i) (tied f p (i + p)) (tied f p (i + 2 * p)) (tied f p (i + 22 * p)) (tied f p (i + 32 * p))
    (f (i + p) + f (i + 2 * p) + n 3 + n 23 + n 33)
    (f (i + 2 * p) + n 3 + n 4 + n 24 + n 34)
    (f (i + 22 * p) + n 23 + n 24 + n 44 + n 54)
    (f (i + 32 * p) + n 33 + n 34 + n 54 + n 64)
    (tied f (2 * p) i)
    (f i + f (i + 2 * p) + n 4 + n 44 + n 64)
    (five (f (i + p)) _ _ _ _ _ _ _ _ (at _ _ (omega arith)) (at _ _ (omega arith)) (at _ _ (omega arith)) (at _ _ (omega arith)))
    (five (f (i + 2 * p)) _ _ _ _ _ _ _ _ (at _ _ (omega arith)) (at _ _ (omega arith)) (at _ _ (omega arith)) (at _ _ (omega arith)))
    (five (f (i + 22 * p)) _ _ _ _ _ _ _ _ (at _ _ (omega arith)) (at _ _ (omega arith)) (at _ _ (omega arith)) (at _ _ (omega arith)))
    (five (f (i + 32 * p)) _ _ _ _ _ _ _ _ (at _ _ (omega arith)) (at _ _ (omega arith)) (at _ _ (omega arith)) (at _ _ (omega arith)))
    (five (f i) _ _ _ _ _ _ _ _ (at _ _ (omega arith)) (at _ _ (omega arith)) (at _ _ (omega arith)) (at _ _ (omega arith)))
    (twice (f i) (f (i + p)) (f (i + 2 * p)) (n 3) (n 4) (f (i + 22 * p)) (n 23) (n 24) (f (i + 32 * p)) (n 33) (n 34) (n 44) (n 54) (n 64))

all_even : (a b c d e x : ℕ) → a % 2 ≡ 0 → b % 2 ≡ 0 → c % 2 ≡ 0 → d % 2 ≡ 0 → e % 2 ≡ 0 → (a + b + c + d + e) % 2 ≡ x % 2 → x % 2 ≡ 0
all_even a b c d e x h1 h2 h3 h4 h5 h = omega arith

last_even : (a b c d e x : ℕ) → a % 2 ≡ 0 → b % 2 ≡ 0 → c % 2 ≡ 0 → d % 2 ≡ 0 → x % 2 ≡ 0 → (a + b + c + d + e) % 2 ≡ x % 2 → e % 2 ≡ 0
last_even a b c d e x h1 h2 h3 h4 h5 h = omega arith

up : (f : ℕ → ℕ) (p i : ℕ) → Holds f p i → Holds f p (i + p) → Holds f p (i + 2 * p) → Holds f p (i + 22 * p) → Holds f p (i + 32 * p) → Holds f (2 * p) i
up f p i a b c d e = all_even (tied f p i) (tied f p (i + p)) (tied f p (i + 2 * p)) (tied f p (i + 22 * p)) (tied f p (i + 32 * p)) (tied f (2 * p) i) a b c d e (square f p i)

down : (f : ℕ → ℕ) (p i : ℕ) → Holds f p i → Holds f p (i + p) → Holds f p (i + 2 * p) → Holds f p (i + 22 * p) → Holds f (2 * p) i → Holds f p (i + 32 * p)
down f p i a b c d x = last_even (tied f p i) (tied f p (i + p)) (tied f p (i + 2 * p)) (tied f p (i + 22 * p)) (tied f p (i + 32 * p)) (tied f (2 * p) i) a b c d x (square f p i)

-- A recurrence that holds at the first 224 places holds as far as the one with eight times its lags does.
pub from_eighth : (f : ℕ → ℕ) (count : ℕ) → ((i : ℕ) → i < 224 → Holds f 1 i) → ((i : ℕ) → i < count → Holds f 8 i) → (n i : ℕ) → i < n → i < count + 224 → Holds f 1 i
from_eighth f count base far zero i le room = absurd (omega arith)
from_eighth f count base far (suc n) i le room = elim (cases_lt i 224) [
  | inl low ↦ base i low
  | inr high ↦
      let j = i - 224 in
      let e : j + 128 + 64 + 32 ≡ i = omega arith in
      let one : (q : ℕ) → q < i → Holds f 1 q = λ q low. from_eighth f count base far n q (omega arith) (omega arith) in
      let two : (q : ℕ) → q + 32 < i → Holds f 2 q = λ q low. up f 1 q (one q (omega arith)) (one (q + 1) (omega arith)) (one (q + 2) (omega arith)) (one (q + 22) (omega arith)) (one (q + 32) low) in
      let four : (q : ℕ) → q + 96 < i → Holds f 4 q = λ q low. up f 2 q (two q (omega arith)) (two (q + 2) (omega arith)) (two (q + 4) (omega arith)) (two (q + 44) (omega arith)) (two (q + 64) (omega arith)) in
      let at_4 : Holds f 4 (j + 128) = down f 4 j (four j (omega arith)) (four (j + 4) (omega arith)) (four (j + 8) (omega arith)) (four (j + 88) (omega arith)) (far j (omega arith)) in
      let at_2 : Holds f 2 (j + 128 + 64) = down f 2 (j + 128) (two (j + 128) (omega arith)) (two (j + 128 + 2) (omega arith)) (two (j + 128 + 4) (omega arith)) (two (j + 128 + 44) (omega arith)) at_4 in
      let at_1 : Holds f 1 (j + 128 + 64 + 32) = down f 1 (j + 128 + 64) (one (j + 128 + 64) (omega arith)) (one (j + 128 + 64 + 1) (omega arith)) (one (j + 128 + 64 + 2) (omega arith)) (one (j + 128 + 64 + 22) (omega arith)) at_2 in
      subst (λ (q : ℕ). Holds f 1 q) e at_1
]

-- A recurrence that holds at all places holds with eight times its lags where they reach.
pub to_eighth : (f : ℕ → ℕ) (count : ℕ) → ((i : ℕ) → i < count + 224 → Holds f 1 i) → (i : ℕ) → i < count → Holds f 8 i
to_eighth f count one i le =
    let two : (q : ℕ) → q < count + 192 → Holds f 2 q = λ q low. up f 1 q (one q (omega arith)) (one (q + 1) (omega arith)) (one (q + 2) (omega arith)) (one (q + 22) (omega arith)) (one (q + 32) (omega arith)) in
    let four : (q : ℕ) → q < count + 128 → Holds f 4 q = λ q low. up f 2 q (two q (omega arith)) (two (q + 2) (omega arith)) (two (q + 4) (omega arith)) (two (q + 44) (omega arith)) (two (q + 64) (omega arith)) in
    up f 4 i (four i (omega arith)) (four (i + 4) (omega arith)) (four (i + 8) (omega arith)) (four (i + 88) (omega arith)) (four (i + 128) (omega arith))
