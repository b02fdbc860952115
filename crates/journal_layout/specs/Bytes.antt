-- Bytes of a sector that are replaced.
use Rattle.std.specs.Prelude.{◌≡◌, ℕ, ◌+◌, ◌≤◌, List, length, slice_range}

-- These bytes stand at a place, and the others are as they were.
pub record Puts (at : ℕ) (bytes old new : List ℕ) : Type 0 where
  pub here : slice_range new at (at + length bytes) ≡ bytes
  pub below : (i j : ℕ) → j ≤ at → slice_range new i j ≡ slice_range old i j
  pub above : (i j : ℕ) → at + length bytes ≤ i → slice_range new i j ≡ slice_range old i j
