-- The size that a number chooses.
use Rattle.std.proofs.Common.{◌≡◌, ℕ, zero, suc, ◌+◌, ◌<◌, ◌≤◌, All, Bool, true, false, List, [], ◌∷◌, ◌++◌, length, map, take, take-take, get_or, sym, ap, subst, ◌∙◌, arith, zero-add}
use Rattle.std.specs.Prelude.{nat_lt}
use Rattle.std.specs.List.{range_with_len}
use Rattle.std.proofs.lemmas.Bool.{lt-ltb}
use Rattle.std.proofs.lemmas.List.{get_or_default}
use Rattle.std.proofs.lemmas.Option.{unwrap_or-slice_get}
use Rattle.std.proofs.lemmas.List.Sums.{sum_by_more, sum_by-take-le}
use Rattle.std.proofs.lemmas.List.FromFn.{map-range_with_len_more}
use Rattle.anchor_tree.specs.Shape.{hundred_of, percents_of, place_at, size_at}
use Rattle.anchor_tree.proofs.Levels.{first_is, not_below}

abbrev percent_in : ℕ × ℕ → ℕ
percent_in size = size.1

pub percents_more : (sizes : List (ℕ × ℕ)) (i : ℕ) (d : ℕ × ℕ) → i < length sizes → percents_of (take (i + 1) sizes) ≡ percents_of (take i sizes) + (get_or sizes i d).1
percents_more sizes i d inside = sum_by_more percent_in sizes i d inside

-- the percentages of the first sizes are at most those of more
fewer : (sizes : List (ℕ × ℕ)) (i k : ℕ) → i ≤ k → percents_of (take i sizes) ≤ percents_of (take k sizes)
fewer sizes i k few =
    subst (λ (xs : List (ℕ × ℕ)). percents_of xs ≤ percents_of (take k sizes)) (take-take i k sizes few)
    (sum_by-take-le percent_in (take k sizes) i)

-- the size at which a loop that adds percentages is first above a number
pub size_here : (sizes : List (ℕ × ℕ)) (n k percents : ℕ) (d : ℕ × ℕ) → k < length sizes → percents ≡ percents_of (take k sizes) → percents ≤ n → n < percents + (get_or sizes k d).1
    → (get_or sizes k d).0 ≡ size_at sizes n
size_here sizes n k percents d inside so_far below above =
    let test : ℕ → Bool = λ place. nat_lt n (percents_of (take (place + 1) sizes)) in
    let more : percents_of (take (k + 1) sizes) ≡ percents_of (take k sizes) + (get_or sizes k d).1 = percents_more sizes k d inside in
    let early : (j : ℕ) → j < k → test (0 + j) ≡ false =
    λ j h. subst (λ (m : ℕ). test m ≡ false) (sym (zero-add j)) (not_below n _ (omega (arith, fewer sizes (j + 1) k (omega arith)))) in
    let here : test (0 + k) ≡ true = subst (λ (m : ℕ). test m ≡ true) (sym (zero-add k)) (lt-ltb n _ (omega (arith, more))) in
    let place : place_at sizes n ≡ k = first_is test 0 (length sizes) k inside early here ∙ zero-add k in
    let same : get_or sizes k (0, 0) ≡ get_or sizes k d = get_or_default sizes k (0, 0) d inside in
    sym (ap (λ (size : ℕ × ℕ). size.0) (unwrap_or-slice_get sizes (place_at sizes n) (0, 0) ∙ ap (λ (m : ℕ). get_or sizes m (0, 0)) place ∙ same))

-- one place more of a hundred
pub hundred_more : (sizes : List (ℕ × ℕ)) (items news : List ℕ) (place size : ℕ) → items ≡ map (size_at sizes) (range_with_len 0 place) → size ≡ size_at sizes place → news ≡ items ++ size ∷ []
    → news ≡ map (size_at sizes) (range_with_len 0 (place + 1))
hundred_more sizes items news place size so_far is added =
    added ∙ ap (λ (xs : List ℕ). xs ++ size ∷ []) so_far ∙ ap (λ (n : ℕ). map (size_at sizes) (range_with_len 0 place) ++ n ∷ []) is
    ∙ sym (map-range_with_len_more (size_at sizes) 0 place place (zero-add place))

pub hundred_is : (sizes : List (ℕ × ℕ)) (items : List ℕ) (place : ℕ) → items ≡ map (size_at sizes) (range_with_len 0 place) → place ≡ 100 → items ≡ hundred_of sizes
hundred_is sizes items place is all = is ∙ ap (λ (n : ℕ). map (size_at sizes) (range_with_len 0 n)) all

-- one size more that isn't 0
some_more : (items : List ℕ) (size k d : ℕ) → ((k : ℕ) (d : ℕ) → k < length items → 0 < get_or items k d) → 0 < size → k < length (items ++ size ∷ []) → 0 < get_or (items ++ size ∷ []) k d
some_more [] size zero d each some inside = some
some_more [] size (suc k) d each some inside = absurd (omega arith)
some_more (item ∷ items) size zero d each some inside = each 0 d (omega arith)
some_more (item ∷ items) size (suc k) d each some inside =
    let rest : (k : ℕ) (d : ℕ) → k < length items → 0 < get_or items k d = λ k d h. each (suc k) d (omega arith) in
    some_more items size k d rest some (omega arith)

pub some_push : (items news : List ℕ) (size : ℕ) → All (λ (s : ℕ). 0 < s) items → 0 < size → news ≡ items ++ size ∷ [] → All (λ (s : ℕ). 0 < s) news
some_push items news size each some added = subst (λ (xs : List ℕ). All (λ (s : ℕ). 0 < s) xs) (sym added) (λ k d inside. some_more items size k d each some inside)
