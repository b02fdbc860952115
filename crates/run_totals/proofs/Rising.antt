-- Rising numbers.
use Rattle.std.proofs.Common.{◌≡◌, ℕ, zero, suc, ◌+◌, ◌≤◌, Bool, true, false, cond, List, [], ◌∷◌, Some, slice_get, arith}
use Rattle.std.specs.List.{filter, range_with_len}
use Rattle.std.proofs.lemmas.Option.{none-some, same_Some}

-- Each is above the ones before it, and none is below this number.
abbrev pub IsRising : ℕ → List ℕ → Type 0
IsRising low [] = Unit {0}
IsRising low (x ∷ xs) = (low ≤ x) × IsRising (x + 1) xs

lower : (low high : ℕ) (xs : List ℕ) → low ≤ high → IsRising high xs → IsRising low xs
lower low high [] under rising = tt
lower low high (x ∷ xs) under rising = (omega (arith, under, rising.0), rising.1)

pub range_rises : (p : ℕ → Bool) (low many : ℕ) → IsRising low (filter p (range_with_len low many))
range_rises p low zero = tt
range_rises p low (suc many) = first (p low) (filter p (range_with_len (low + 1) many)) (range_rises p (low + 1) many)
  where
    first : (b : Bool) (xs : List ℕ) → IsRising (low + 1) xs → IsRising low (cond b (low ∷ xs) xs)
    first true xs rising = (omega arith, rising)
    first false xs rising = lower low (low + 1) xs (omega arith) rising

pub rising_at : (low : ℕ) (xs : List ℕ) (i x : ℕ) → IsRising low xs → slice_get xs i ≡ Some x → low ≤ x
rising_at low [] i x rising at = absurd (none-some x at)
rising_at low (y ∷ ys) zero x rising at = omega (arith, rising.0, same_Some y x at)
rising_at low (y ∷ ys) (suc i) x rising at = omega (arith, rising.0, rising_at (y + 1) ys i x rising.1 at)
