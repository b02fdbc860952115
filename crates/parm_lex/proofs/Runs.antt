use Rattle.std.proofs.Common.{◌≡◌, ℕ, ◌≤◌, List, length, Bool, true, false, cond, nat_lt, not, Some, None, unwrap_or, refl, sym, arith}
use Rattle.std.specs.List.{position, position_or_len}
use Rattle.std.proofs.lemmas.List.Sums.{prefix_len-le-length}
use Rattle.std.proofs.lemmas.Bool.{ltb-false}

chosen : (b : Bool) (a n : ℕ) → (b ≡ false → a ≡ n) → unwrap_or (cond b (Some a) None) n ≡ a
chosen true a n h = refl
chosen false a n h = sym (h refl)

pub run_within : {X : Type 0} (p : X → Bool) (xs : List X) → position_or_len p xs ≤ length xs
run_within p xs = prefix_len-le-length (λ x. not (p x)) xs

pub run_end : {X : Type 0} (p : X → Bool) (xs : List X) → unwrap_or (position p xs) (length xs) ≡ position_or_len p xs
run_end p xs = chosen (nat_lt (position_or_len p xs) (length xs)) (position_or_len p xs) (length xs) (λ h. let past : length xs ≤ position_or_len p xs = ltb-false _ _ h in let le = run_within p xs in omega arith)
