-- A step on one lane leaves the others.
use Rattle.std.proofs.Common.{◌≡◌, ℕ, zero, suc, ◌+◌, ◌-◌, ◌*◌, ◌%◌, ◌^◌, ◌<◌, ◌≤◌, ◌≢◌, List, length, get_or, set, sym, refl, ap, ◌∙◌, subst, arith, bit_or, bit_xor, get_or-set_other, get_or-set_same}
use Rattle.std.proofs.lemmas.Nat.{or_shr, or_mod, xor_shr, xor_mod, shl-shr, or_shifted, or_comm, or_block}
use Rattle.std.proofs.lemmas.Nat.Bits.{same_from_bits, bit_at-lt, bit_at_xor}
use Rattle.std.specs.Int.{bit_at}
use Rattle.std.specs.Int.Bits.{or_zero_r, xor_zero_r}
use mathlib.Core.Logic.{dite}
use native.Mathlib.Decide.{ℕ_discrete}
use Rattle.claim_table.specs.Lanes.{lane, word_of, code_at, shifted}

pub lane_or : (a b k : ℕ) → lane (bit_or a b) k ≡ bit_or (lane a k) (lane b k)
lane_or a b k = rw (or_shr, or_mod) refl

pub lane_xor : (a b k : ℕ) → lane (bit_xor a b) k ≡ bit_xor (lane a k) (lane b k)
lane_xor a b k = rw (xor_shr, xor_mod) refl

-- the number x in the lane j
pub lane_here : (x j : ℕ) → x < 2 ^ 16 → lane (x * 2 ^ (16 * j)) j ≡ x
lane_here x j h = rw shl-shr (omega arith)

four : (P : ℕ → Type 0) → P 0 → P 1 → P 2 → P 3 → (k : ℕ) → k < 4 → P k
four P a b c d zero h = a
four P a b c d (suc zero) h = b
four P a b c d (suc (suc zero)) h = c
four P a b c d (suc (suc (suc zero))) h = d
four P a b c d (suc (suc (suc (suc k)))) h = absurd (omega arith)

abbrev Apart : ℕ → ℕ → ℕ → Type 0
Apart x j k = j ≢ k → lane (x * 2 ^ (16 * j)) k ≡ 0

pub lane_apart : (x j k : ℕ) → x < 2 ^ 16 → j < 4 → k < 4 → Apart x j k
lane_apart x j k h lj lk = four (λ j'. Apart x j' k)
    (four (Apart x 0) (λ n. absurd (n refl)) (λ n. omega arith) (λ n. omega arith) (λ n. omega arith) k lk)
    (four (Apart x 1) (λ n. omega arith) (λ n. absurd (n refl)) (λ n. omega arith) (λ n. omega arith) k lk)
    (four (Apart x 2) (λ n. omega arith) (λ n. omega arith) (λ n. absurd (n refl)) (λ n. omega arith) k lk)
    (four (Apart x 3) (λ n. omega arith) (λ n. omega arith) (λ n. omega arith) (λ n. absurd (n refl)) k lk)
    j lj

module _ (op : ℕ → ℕ → ℕ) (law : (a b k : ℕ) → lane (op a b) k ≡ op (lane a k) (lane b k)) (none : (a : ℕ) → op a 0 ≡ a) where
  pub op_here : (ws : List ℕ) (b x : ℕ) → word_of b < length ws → x < 2 ^ 16
      → code_at (set ws (word_of b) (op (get_or ws (word_of b) 0) (shifted b x))) b ≡ op (code_at ws b) x
  op_here ws b x h l =
      let w : ℕ = get_or ws (word_of b) 0 in let m : ℕ = shifted b x in let k : ℕ = b % 4 in
      ap (λ (n : ℕ). lane n k) (get_or-set_same ws (word_of b) (op w m) 0 h) ∙ (law w m k ∙ ap (op (lane w k)) (lane_here x k l))

  pub op_there : (ws : List ℕ) (b x c : ℕ) → word_of b < length ws → x < 2 ^ 16 → c ≢ b
      → code_at (set ws (word_of b) (op (get_or ws (word_of b) 0) (shifted b x))) c ≡ code_at ws c
  op_there ws b x c h l ne =
      let w : ℕ = get_or ws (word_of b) 0 in let m : ℕ = shifted b x in let k : ℕ = c % 4 in
      dite (ℕ_discrete (word_of c) (word_of b))
      (λ same.
      let apart : lane m k ≡ 0 = lane_apart x (b % 4) k l (omega arith) (omega arith) (λ e. ne (omega arith)) in
      ap (λ (i : ℕ). lane (get_or (set ws (word_of b) (op w m)) i 0) k) same
      ∙ (ap (λ (n : ℕ). lane n k) (get_or-set_same ws (word_of b) (op w m) 0 h)
      ∙ (law w m k ∙ (ap (op (lane w k)) apart ∙ (none (lane w k) ∙ ap (λ (i : ℕ). lane (get_or ws i 0) k) (sym same))))))
      (λ other. ap (λ (n : ℕ). lane n k) (get_or-set_other ws (word_of b) (word_of c) (op w m) 0 other))

-- the busy bit
pub or_busy : (c : ℕ) → c < 2 ^ 15 → bit_or c (2 ^ 15) ≡ c + 2 ^ 15
or_busy c h = let e : bit_or (1 * 2 ^ 15) c ≡ 1 * 2 ^ 15 + c = or_shifted 1 15 c h in or_comm c (2 ^ 15) ∙ omega arith

pub or_again : (c : ℕ) → c < 2 ^ 15 → bit_or (c + 2 ^ 15) (2 ^ 15) ≡ c + 2 ^ 15
or_again c h = let e : bit_or (1 * 2 ^ 15 + c) (1 * 2 ^ 15 + 0) ≡ bit_or 1 1 * 2 ^ 15 + bit_or c 0 = or_block 15 1 1 c 0 h (omega arith) in
    let f : bit_or c 0 ≡ c = or_zero_r c in let g : bit_or 1 1 ≡ 1 = refl in
    let p : bit_or (c + 2 ^ 15) (2 ^ 15) ≡ bit_or (1 * 2 ^ 15 + c) (1 * 2 ^ 15 + 0) = ap (λ (n : ℕ). bit_or n (2 ^ 15)) (omega arith) in
    p ∙ (e ∙ omega arith)

-- to change a lane from a to b
pub xor_turn : (a b : ℕ) → bit_xor a (bit_xor a b) ≡ b
xor_turn a b = same_from_bits (bit_xor a (bit_xor a b)) b (λ i. let x = bit_at-lt a i in let y = bit_at-lt b i in
    bit_at_xor a (bit_xor a b) i ∙ (ap (λ (n : ℕ). (bit_at a i + n) % 2) (bit_at_xor a b i) ∙ omega arith))

pub or_none : (a : ℕ) → bit_or a 0 ≡ a
or_none a = or_zero_r a

pub xor_none : (a : ℕ) → bit_xor a 0 ≡ a
xor_none a = xor_zero_r a

pub or_set : (c : ℕ) → 2 ^ 15 ≤ c → c < 2 ^ 16 → bit_or c (2 ^ 15) ≡ c
or_set c l h = let d : ℕ = c - 2 ^ 15 in let e : d + 2 ^ 15 ≡ c = omega arith in subst (λ (n : ℕ). bit_or n (2 ^ 15) ≡ n) e (or_again d (omega arith))

-- a word and a shifted number tell the block
pub same_lane : (b c x : ℕ) → word_of b ≡ word_of c → shifted b x ≡ shifted c x → 0 < x → x < 2 ^ 16 → b ≡ c
same_lane b c x e₁ e₂ some-bit h = dite (ℕ_discrete (b % 4) (c % 4)) (λ e. omega arith)
    (λ ne. let apart : lane (shifted b x) (c % 4) ≡ 0 = lane_apart x (b % 4) (c % 4) h (omega arith) (omega arith) ne in
    let here : lane (shifted c x) (c % 4) ≡ x = lane_here x (c % 4) h in
    let p : x ≡ 0 = sym here ∙ (ap (λ (n : ℕ). lane n (c % 4)) (sym e₂) ∙ apart) in absurd (omega arith))
