-- Bounds of numbers.
use Rattle.std.proofs.Common.{ℕ, ◌*◌, ◌/◌, ◌<◌, ◌≤◌, arith}
use Rattle.std.proofs.Math.Nat.{mul-le-mul_left}
use Rattle.std.proofs.lemmas.Nat.{div_below}

-- turns times workers
pub few_before : (turn workers : ℕ) → turn < 4294967296 → workers ≤ 512 → turn * workers ≤ 2199023255040
few_before turn workers few some = omega (arith, mul-le-mul_left turn some)

-- a quotient is below what its dividend is below
pub quotient_below : (n k m : ℕ) → 0 < k → n < m → n / k < m
quotient_below n k m some below = div_below n k m some (omega (arith, mul-le-mul_left m some))
