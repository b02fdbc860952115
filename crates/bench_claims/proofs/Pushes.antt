-- A list with one more element.
use Rattle.std.proofs.Common.{◌≡◌, ℕ, zero, suc, List, [], ◌∷◌, ◌++◌, length, slice_get, Option, Some, None, subst, arith}

same_there : {A : Type 0} (x y : A) → ◌≡◌ {A = Option A} (Some x) (Some y) → x ≡ y
same_there x y is = cc

none_there : {A : Type 0} (y : A) → ◌≡◌ {A = Option A} None (Some y) → ⊥
none_there y is = cc

-- what holds of each element by its index holds with one more
pub get_push : {A : Type 0} (Q : ℕ → A → Type 0) (xs : List A) (x : A) → ((b : ℕ) (y : A) → slice_get xs b ≡ Some y → Q b y) → Q (length xs) x → (b : ℕ) (y : A) → slice_get (xs ++ x ∷ []) b ≡ Some y → Q b y
get_push Q [] x h q zero y is = subst (Q 0) (same_there x y is) q
get_push Q [] x h q (suc b) y is = absurd (none_there y is)
get_push Q (z ∷ xs) x h q zero y is = h zero y is
get_push Q (z ∷ xs) x h q (suc b) y is = get_push (λ n w. Q (suc n) w) xs x (λ n w e. h (suc n) w e) (subst (λ (n : ℕ). Q n x) (omega arith) q) b y is
