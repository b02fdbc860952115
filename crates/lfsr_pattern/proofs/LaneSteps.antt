-- Each lane is stepped as one state is.
use Rattle.std.proofs.Common.{◌≡◌, ◌++◌, subst, take, set, w32, ℕ, ◌+◌, ◌*◌, ◌/◌, ◌%◌, ◌^◌, ◌<◌, List, [], ◌∷◌, length, length-set, map, refl, ap, sym, ◌∙◌, arith}
use Rattle.std.specs.Prelude.{bit_or, bit_xor}
use Rattle.std.specs.Int.{to_le_bytes}
use Rattle.std.proofs.lemmas.Nat.{or_comm, or_shifted}
use Rattle.lfsr_pattern.specs.Pattern.{IsFront}
use Rattle.lfsr_pattern.specs.Recurrences.{next_state}
use Rattle.lfsr_pattern.proofs.Fronts.{front_step}

pub map_same : (xs : List ℕ) → xs ≡ map (λ (x : ℕ). x) xs
map_same [] = refl
map_same (x ∷ xs) = ap (λ ys. x ∷ ys) (map_same xs)

-- a step as a lane makes it, by two shifts
abbrev pub lane_stepped : ℕ → ℕ
lane_stepped s = bit_or (s / 2 ^ 8) (bit_xor (bit_xor (bit_xor s (s / 2 ^ 1)) (s / 2 ^ 2)) (s / 2 ^ 22) * 2 ^ 24 % 2 ^ 32)

kept_bits : (x : ℕ) → x * 2 ^ 24 % 2 ^ 32 ≡ x % 2 ^ 8 * 2 ^ 24
kept_bits x = omega arith

pub stepped_is : (s : ℕ) → s < 2 ^ 32 → lane_stepped s ≡ next_state s
stepped_is s fits =
    let x = bit_xor (bit_xor (bit_xor s (s / 2 ^ 1)) (s / 2 ^ 2)) (s / 2 ^ 22) in
    ap (λ y. bit_or (s / 2 ^ 8) y) (kept_bits x)
    ∙ (or_comm (s / 2 ^ 8) (x % 2 ^ 8 * 2 ^ 24) ∙ or_shifted (x % 2 ^ 8) 24 (s / 2 ^ 8) (omega arith))

-- the first j bytes of a pattern, and the state after them
pub record IsLane (seed j : ℕ) (out : List ℕ) (s : ℕ) : Type 0 where
  pub long : length out ≡ 480
  pub fits : s < 2 ^ 32
  pub front : IsFront seed (take j out ++ to_le_bytes w32 s) (8 * j)

pub lane_step : (seed j s t : ℕ) (out out' : List ℕ) → j < 480 → t ≡ next_state s → out' ≡ set out j (s % 256) → IsLane seed j out s → IsLane seed (j + 1) out' t
lane_step seed j s t out out' room e f lane =
    let fits : s < 2 ^ 32 = lane.fits in
    record {
      long = ap length f ∙ (length-set out j (s % 256) ∙ lane.long);
      fits = omega arith;
      front = subst (λ (xs : List ℕ). IsFront seed (take (j + 1) xs ++ to_le_bytes w32 t) (8 * (j + 1))) (sym f)
          (front_step seed s t j out (omega (arith, lane.long)) fits e lane.front);
    }
