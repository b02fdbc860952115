-- The shares of a store among the first ones of a run.
use Rattle.std.proofs.Common.{◌≡◌, ℕ, suc, ◌+◌, ◌<◌, ◌≤◌, Bool, false, cond, List, [], ◌∷◌, ◌++◌, filter, get_or, length, map, take, ap, ◌∙◌, arith, zero-add}
use Rattle.std.specs.Prelude.{◌==◌}
use Rattle.std.specs.List.{enumerate_from}
use Rattle.std.proofs.lemmas.Bool.{eq-eqb}
use Rattle.std.proofs.lemmas.List.{append-nil, length-take-le, map-append, take_more}
use Rattle.std.proofs.lemmas.List.Elements.{filter-append}
use Rattle.plan_types.specs.declared.run.Share.{Share}
use Rattle.workload_gen.specs.declared.task.StoreShare.{StoreShare}
use Rattle.workload_gen.specs.Task.{is_of, shares_of, store_share}

enumerate_push : (n : ℕ) (xs : List Share) (y : Share) → enumerate_from n (xs ++ y ∷ []) ≡ enumerate_from n xs ++ (n + length xs, y) ∷ []
enumerate_push n [] y =
    let same : n ≡ n + 0 = omega arith in
    ap (λ (m : ℕ). (m, y) ∷ []) same
enumerate_push n (x ∷ xs) y =
    let same : n + 1 + length xs ≡ n + suc (length xs) = omega arith in
    ap (λ (l : List (ℕ × Share)). (n, x) ∷ l) (enumerate_push (n + 1) xs y ∙ ap (λ (m : ℕ). enumerate_from (n + 1) xs ++ (m, y) ∷ []) same)

-- what the last share adds
abbrev added : ℕ → ℕ → ℕ → Share → List StoreShare
added block_size store place y = map (store_share block_size) (filter (is_of store) ((place, y) ∷ []))

shares_push : (block_size store : ℕ) (xs : List Share) (y : Share) → shares_of block_size store (xs ++ y ∷ []) ≡ shares_of block_size store xs ++ added block_size store (length xs) y
shares_push block_size store xs y =
    ap (λ (l : List (ℕ × Share)). map (store_share block_size) (filter (is_of store) l)) (enumerate_push 0 xs y)
    ∙ ap (map (store_share block_size)) (filter-append (is_of store) (enumerate_from 0 xs) ((0 + length xs, y) ∷ []))
    ∙ map-append (store_share block_size) (filter (is_of store) (enumerate_from 0 xs)) (filter (is_of store) ((0 + length xs, y) ∷ []))
    ∙ ap (λ (m : ℕ). shares_of block_size store xs ++ added block_size store m y) (zero-add (length xs))

shares_more : (block_size store : ℕ) (xs : List Share) (i : ℕ) (d : Share) → i < length xs
    → shares_of block_size store (take (i + 1) xs) ≡ shares_of block_size store (take i xs) ++ added block_size store i (get_or xs i d)
shares_more block_size store xs i d inside =
    let within : i ≤ length xs = omega arith in
    ap (shares_of block_size store) (take_more xs i d inside)
    ∙ shares_push block_size store (take i xs) (get_or xs i d)
    ∙ ap (λ (m : ℕ). shares_of block_size store (take i xs) ++ added block_size store m (get_or xs i d)) (length-take-le i xs within)

-- a share of the store is added
pub shares_more_own : (block_size store : ℕ) (xs : List Share) (i : ℕ) (d : Share) → i < length xs → (get_or xs i d).store ≡ store
    → shares_of block_size store (take (i + 1) xs) ≡ shares_of block_size store (take i xs) ++ store_share block_size (i, get_or xs i d) ∷ []
shares_more_own block_size store xs i d inside own =
    shares_more block_size store xs i d inside
    ∙ ap (λ (b : Bool). shares_of block_size store (take i xs) ++ map (store_share block_size) (cond b ((i, get_or xs i d) ∷ []) [])) (eq-eqb (get_or xs i d).store store own)

not_same : (a b : ℕ) → (a ≡ b → ⊥) → (a == b) ≡ false
not_same a b h = grind arith

-- a share of another store isn't
pub shares_more_other : (block_size store : ℕ) (xs : List Share) (i : ℕ) (d : Share) → i < length xs → ((get_or xs i d).store ≡ store → ⊥)
    → shares_of block_size store (take (i + 1) xs) ≡ shares_of block_size store (take i xs)
shares_more_other block_size store xs i d inside other =
    shares_more block_size store xs i d inside
    ∙ ap (λ (b : Bool). shares_of block_size store (take i xs) ++ map (store_share block_size) (cond b ((i, get_or xs i d) ∷ []) [])) (not_same (get_or xs i d).store store other)
    ∙ append-nil (shares_of block_size store (take i xs))
