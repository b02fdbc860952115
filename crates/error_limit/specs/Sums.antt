-- Sums over lists, how often a number stands in one, and numbers that were each answered once.
use Rattle.std.specs.Prelude.{◌≡◌, ℕ, ◌+◌, ◌<◌, ◌≤◌, ◌==◌, cond, List, [], ◌∷◌}

abbrev pub total : {A : Type 0} → (A → ℕ) → List A → ℕ
total f [] = 0
total f (x ∷ xs) = f x + total f xs

-- how often a number stands in a list
abbrev pub is : ℕ → ℕ → ℕ
is n x = cond (x == n) 1 0

abbrev pub times : ℕ → List ℕ → ℕ
times n xs = total (is n) xs

-- Each number above `before` up to `count` was answered exactly once, and no other was.
pub record EachOnce (before count : ℕ) (answered : ℕ → ℕ) : Type 0 where
  pub once : (n : ℕ) → before < n → n ≤ count → answered n ≡ 1
  pub not_below : (n : ℕ) → n ≤ before → answered n ≡ 0
  pub not_above : (n : ℕ) → count < n → answered n ≡ 0
