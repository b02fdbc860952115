-- Calls that are to fail: each refusal has its path, and how many calls on it go on before the one that fails, or none once it came.
use Rattle.std.specs.Prelude.{ℕ, ◌-◌, ◌==◌, Bool, false, ◌&&◌, List, Option, Some, None, is_none, cond}
use Rattle.std.specs.List.{list_all}
use Rattle.std.specs.Str.{bytes_eq}

abbrev pub is_due : Option ℕ → Bool
is_due None = false
is_due (Some left) = left == 0

-- This refusal makes the next call on this path fail.
abbrev pub hits : List ℕ → List ℕ × Option ℕ → Bool
hits path refusal = bytes_eq refusal.0 path && is_due refusal.1

abbrev pub one_less : Option ℕ → Option ℕ
one_less None = None
one_less (Some left) = cond (left == 0) None (Some (left - 1))

-- a call on this path was made
abbrev pub after_call : List ℕ → List ℕ × Option ℕ → List ℕ × Option ℕ
after_call path refusal = (refusal.0, cond (bytes_eq refusal.0 path) (one_less refusal.1) refusal.1)

-- No refusal is still to come.
abbrev pub all_came : List (List ℕ × Option ℕ) → Bool
all_came refusals = list_all (λ refusal. is_none refusal.1) refusals
