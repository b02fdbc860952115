-- Which share is chosen.
use Rattle.std.proofs.Common.{◌≡◌, ℕ, zero, suc, ◌+◌, ◌<◌, ◌≤◌, Bool, true, false, cond, Option, Some, List, length, take, take-take, get_or, sym, ap, subst, ◌∙◌, arith, zero-add}
use Rattle.std.specs.Prelude.{find, nat_lt, unwrap_or}
use Rattle.std.specs.List.{range_with_len}
use Rattle.std.proofs.lemmas.Bool.{lt-ltb}
use Rattle.std.proofs.lemmas.Option.{unwrap_or-slice_get}
use Rattle.std.proofs.lemmas.List.Sums.{sum_by_more, sum_by-take-le}
use Rattle.workload_gen.specs.declared.task.StoreShare.{StoreShare}
use Rattle.workload_gen.specs.Task.{weight_of}
use Rattle.workload_gen.specs.Turns.{chosen, chosen_place, no_share}

-- the first number from a on that passes a test
find_first : (test : ℕ → Bool) (a n k : ℕ) → k < n → ((j : ℕ) → j < k → test (a + j) ≡ false) → test (a + k) ≡ true → find test (range_with_len a n) ≡ Some (a + k)
find_first test a zero k in_range before here = absurd (omega arith)
find_first test a (suc n) zero in_range before here =
    let same : a + 0 ≡ a = omega arith in
    let found : test a ≡ true = subst (λ (m : ℕ). test m ≡ true) same here in
    ap (λ (b : Bool). cond b (Some a) (find test (range_with_len (a + 1) n))) found ∙ ap Some (sym same)
find_first test a (suc n) (suc k) in_range before here =
    let none : a + 0 ≡ a = omega arith in
    let same : a + 1 + k ≡ a + suc k = omega arith in
    let shift : (j : ℕ) → a + suc j ≡ a + 1 + j = λ j. omega arith in
    let first : test a ≡ false = subst (λ (m : ℕ). test m ≡ false) none (before 0 (omega arith)) in
    let inner : k < n = omega arith in
    let earlier : (j : ℕ) → j < k → test (a + 1 + j) ≡ false = λ j h. subst (λ (m : ℕ). test m ≡ false) (shift j) (before (suc j) (omega arith)) in
    ap (λ (b : Bool). cond b (Some a) (find test (range_with_len (a + 1) n))) first
    ∙ find_first test (a + 1) n k inner earlier (subst (λ (m : ℕ). test m ≡ true) (sym same) here)
    ∙ ap Some same

-- a test of two numbers that gives no
not_below : (n m : ℕ) → m ≤ n → nat_lt n m ≡ false
not_below n m h = grind arith

-- the share at which the weights are first above a number
pub chosen_is : (shares : List StoreShare) (n k : ℕ) → k < length shares → ((j : ℕ) → j < k → weight_of (take (j + 1) shares) ≤ n) → n < weight_of (take (k + 1) shares)
    → chosen shares n ≡ get_or shares k no_share
chosen_is shares n k in_range before above =
    let test : ℕ → Bool = λ place. nat_lt n (weight_of (take (place + 1) shares)) in
    let early : (j : ℕ) → j < k → test (0 + j) ≡ false = λ j h. subst (λ (m : ℕ). test m ≡ false) (sym (zero-add j)) (not_below n _ (before j h)) in
    let here : test (0 + k) ≡ true = subst (λ (m : ℕ). test m ≡ true) (sym (zero-add k)) (lt-ltb n _ above) in
    let found : find test (range_with_len 0 (length shares)) ≡ Some (0 + k) = find_first test 0 (length shares) k in_range early here in
    let place : chosen_place shares n ≡ k = ap (λ (o : Option ℕ). unwrap_or o 0) found ∙ zero-add k in
    unwrap_or-slice_get shares (chosen_place shares n) no_share ∙ ap (λ (m : ℕ). get_or shares m no_share) place

-- the weights of the first shares are at most those of more
fewer : (shares : List StoreShare) (i k : ℕ) → i ≤ k → weight_of (take i shares) ≤ weight_of (take k shares)
fewer shares i k few =
    subst (λ (xs : List StoreShare). weight_of xs ≤ weight_of (take k shares)) (take-take i k shares few)
    (sum_by-take-le (λ (share : StoreShare). share.weight) (take k shares) i)

-- the share at which a loop that adds weights is first above a number
pub chosen_here : (shares : List StoreShare) (n k weight more : ℕ) → k < length shares → weight ≡ weight_of (take k shares) → weight ≤ n → more ≡ (get_or shares k no_share).weight → n < weight + more
    → get_or shares k no_share ≡ chosen shares n
chosen_here shares n k weight more in_range so_far below is_more above =
    let sum : weight_of (take (k + 1) shares) ≡ weight_of (take k shares) + (get_or shares k no_share).weight = sum_by_more (λ (share : StoreShare). share.weight) shares k no_share in_range in
    sym (chosen_is shares n k in_range (λ j h. omega (arith, fewer shares (j + 1) k (omega arith))) (omega (arith, sum)))
