-- Ranges of bytes, side by side.
use Rattle.std.proofs.Common.{◌≡◌, ◌≤◌, ◌+◌, ◌-◌, ℕ, List, ◌++◌, take, drop, slice_range, sym, ap, ◌∙◌, arith}
use Rattle.std.proofs.lemmas.List.{drop-take, drop-drop, take-append-drop, take-take}

pub range_joined : (xs : List ℕ) (a b c : ℕ) → a ≤ b → b ≤ c → slice_range xs a b ++ slice_range xs b c ≡ slice_range xs a c
range_joined xs a b c low high =
    let whole : (b - a) + (c - b) ≡ c - a = omega (arith, low, high) in
    let at : a + (b - a) ≡ b = omega (arith, low) in
    let front : take (b - a) (take (c - a) (drop a xs)) ≡ slice_range xs a b = take-take (b - a) (c - a) (drop a xs) (omega (arith, low, high)) in
    let back : drop (b - a) (take (c - a) (drop a xs)) ≡ slice_range xs b c =
    ap (λ n. drop (b - a) (take n (drop a xs))) (sym whole) ∙ drop-take (b - a) (c - b) (drop a xs)
    ∙ ap (take (c - b)) (drop-drop (b - a) a xs ∙ ap (λ n. drop n xs) at) in
    sym (ap (λ (l : List ℕ). l ++ slice_range xs b c) front) ∙ sym (ap (λ (l : List ℕ). take (b - a) (take (c - a) (drop a xs)) ++ l) back)
    ∙ take-append-drop (b - a) (take (c - a) (drop a xs))
