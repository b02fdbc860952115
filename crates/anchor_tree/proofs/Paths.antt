-- The folders that lead to a directory, and those that lead to the one that it stands in.
use Rattle.std.proofs.Common.{◌≡◌, ℕ, zero, suc, ◌+◌, ◌-◌, ◌/◌, ◌%◌, ◌≤◌, ◌^◌, List, [], ◌∷◌, ◌++◌, refl, sym, ap, ◌∙◌, arith}
use Rattle.std.specs.List.{flat_map, range_with_len}
use Rattle.std.proofs.Math.Nat.{div-div-eq-div-mul, div-one, pow-succ', pow-zero}
use Rattle.std.proofs.lemmas.List.{append_assoc, flat_map_more, map-id}
use Rattle.std.proofs.lemmas.List.FromFn.{map-range_with_len_more}
use Rattle.anchor_tree.specs.Names.{digit_at, folder, path_to}

range_more : (a n : ℕ) → range_with_len a (n + 1) ≡ range_with_len a n ++ (a + n) ∷ []
range_more a n =
    sym (map-id (range_with_len a (n + 1))) ∙ map-range_with_len_more (λ (x : ℕ). x) a n (a + n) refl
    ∙ ap (λ (l : List ℕ). l ++ (a + n) ∷ []) (map-id (range_with_len a n))

-- one number more
pub flat_more : (f : ℕ → List ℕ) (n : ℕ) → flat_map f (range_with_len 1 (n + 1)) ≡ flat_map f (range_with_len 1 n) ++ f (n + 1)
flat_more f n =
    let turned : 1 + n ≡ n + 1 = omega arith in
    ap (flat_map f) (range_more 1 n) ∙ sym (flat_map_more f [] (range_with_len 1 n) (1 + n)) ∙ ap (λ (k : ℕ). flat_map f (range_with_len 1 n) ++ f k) turned

flat_same : (f g : ℕ → List ℕ) (n : ℕ) → ((q : ℕ) → q ≤ n → f q ≡ g q) → flat_map f (range_with_len 1 n) ≡ flat_map g (range_with_len 1 n)
flat_same f g zero each = refl
flat_same f g (suc n) each =
    let next : suc n ≡ n + 1 = omega arith in
    let so_far : flat_map f (range_with_len 1 n) ≡ flat_map g (range_with_len 1 n) = flat_same f g n (λ q h. each q (omega arith)) in
    ap (λ (k : ℕ). flat_map f (range_with_len 1 k)) next ∙ flat_more f n ∙ ap (λ (l : List ℕ). l ++ f (n + 1)) so_far
    ∙ ap (λ (l : List ℕ). flat_map g (range_with_len 1 n) ++ l) (each (n + 1) (omega arith)) ∙ sym (flat_more g n) ∙ ap (λ (k : ℕ). flat_map g (range_with_len 1 k)) (sym next)

-- a digit but the last is that of the index without the last
digit_up : (width l index q : ℕ) → q ≤ l → digit_at width (l + 1) index q ≡ digit_at width l (index / width) q
digit_up width l index q few =
    let more : l + 1 - q ≡ suc (l - q) = omega arith in
    ap (λ (k : ℕ). index / width ^ k % width) more ∙ ap (λ (n : ℕ). index / n % width) (pow-succ' width (l - q))
    ∙ ap (λ (n : ℕ). n % width) (sym (div-div-eq-div-mul index width (width ^ (l - q))))

digit_last : (width l index : ℕ) → digit_at width (l + 1) index (l + 1) ≡ index % width
digit_last width l index =
    let none : l + 1 - (l + 1) ≡ 0 = omega arith in
    ap (λ (k : ℕ). index / width ^ k % width) none ∙ ap (λ (n : ℕ). index / n % width) (pow-zero width) ∙ ap (λ (n : ℕ). n % width) (div-one index)

-- the folders to a directory are those to the one that it stands in, and one more
pub path_step : (width l index : ℕ) → path_to width (l + 1) index ≡ path_to width l (index / width) ++ folder (l + 1) (index % width)
path_step width l index =
    let f : ℕ → List ℕ = λ q. folder q (digit_at width (l + 1) index q) in
    let g : ℕ → List ℕ = λ q. folder q (digit_at width l (index / width) q) in
    flat_more f l ∙ ap (λ (t : List ℕ). t ++ f (l + 1)) (flat_same f g l (λ q few. ap (folder q) (digit_up width l index q few)))
    ∙ ap (λ (n : ℕ). path_to width l (index / width) ++ folder (l + 1) n) (digit_last width l index)

-- one folder more of a path
pub path_more : (width l index level digit : ℕ) (before was text new : List ℕ) → was ≡ before ++ flat_map (λ q. folder q (digit_at width l index q)) (range_with_len 1 level)
    → digit ≡ digit_at width l index (level + 1) → text ≡ folder (level + 1) digit → new ≡ was ++ text
    → new ≡ before ++ flat_map (λ q. folder q (digit_at width l index q)) (range_with_len 1 (level + 1))
path_more width l index level digit before was text new so_far is_digit is_text added =
    let f : ℕ → List ℕ = λ q. folder q (digit_at width l index q) in
    added ∙ ap (λ (t : List ℕ). t ++ text) so_far ∙ append_assoc before (flat_map f (range_with_len 1 level)) text
    ∙ ap (λ (t : List ℕ). before ++ (flat_map f (range_with_len 1 level) ++ t)) (is_text ∙ ap (folder (level + 1)) is_digit)
    ∙ ap (λ (t : List ℕ). before ++ t) (sym (flat_more f level))
