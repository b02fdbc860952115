-- The paths of a valid plan's stores differ.
use Rattle.std.proofs.Common.{◌≡◌, ℕ, suc, ◌<◌, ◌==◌, true, List, [], ◌∷◌, Some, slice_get, sym, ap, ◌∙◌, inl, inr, arith}
use Rattle.std.specs.Prelude.{All, AllPairs}
use Rattle.std.specs.Str.{bytes_eq}
use Rattle.std.proofs.lemmas.Bool.{cases_eq, cases_order, eq-eqb, false_from_ne_true, ne_eqb}
use Rattle.std.proofs.lemmas.List.Elements.{All-nil, All-cons, All-head, All-tail}
use Rattle.std.proofs.lemmas.List.Kept.{AllPairs-cons}
use Rattle.std.proofs.lemmas.Option.{get_or_from_slice_get, same_Some, slice_get_within}
use Rattle.std.proofs.lemmas.Slice.Eq.{bytes_eq-Decides}
use Rattle.plan_types.specs.Valid.{AreDifferent, paths_of}
use Rattle.plan_types.specs.declared.store.StorePlan.{StorePlan}
use Rattle.master_run.specs.Crews.{path_of}

Differ : List ℕ → List ℕ → Type 0
Differ a b = a ≡ b → ⊥

first_differs : (x : List ℕ) (xs : List (List ℕ)) → AreDifferent (x ∷ xs) → All (Differ x) xs
unfolding Differ
first_differs x xs apart k d within = apart 0 (suc k) d (omega arith) (omega (arith, within))

rest_differs : (x : List ℕ) (xs : List (List ℕ)) → AreDifferent (x ∷ xs) → AreDifferent xs
rest_differs x xs apart i j d less within = apart (suc i) (suc j) d (omega (arith, less)) (omega (arith, within))

PathDiffers : List ℕ → StorePlan → Type 0
PathDiffers path store = path ≡ store.path → ⊥

of_paths : (path : List ℕ) (stores : List StorePlan) → All (Differ path) (paths_of stores) → All (PathDiffers path) stores
unfolding Differ PathDiffers
of_paths path [] p = All-nil (PathDiffers path)
of_paths path (store ∷ stores) p =
    All-cons (PathDiffers path) store stores (All-head (Differ path) store.path (store.journal ∷ paths_of stores) p)
    (of_paths path stores (All-tail (Differ path) store.journal (paths_of stores) (All-tail (Differ path) store.path (store.journal ∷ paths_of stores) p)))

stores_apart : (stores : List StorePlan) → AreDifferent (paths_of stores) → AllPairs (λ (a : StorePlan) (b : StorePlan). a.path ≡ b.path → ⊥) stores
unfolding PathDiffers
stores_apart [] p = λ i j d less within. absurd (omega (arith, within))
stores_apart (store ∷ stores) p =
    AllPairs-cons (λ (a : StorePlan) (b : StorePlan). a.path ≡ b.path → ⊥) store stores
    (of_paths store.path stores (All-tail (Differ store.path) store.journal (paths_of stores) (first_differs store.path (store.journal ∷ paths_of stores) p)))
    (stores_apart stores (rest_differs store.journal (paths_of stores) (rest_differs store.path (store.journal ∷ paths_of stores) p)))

two_apart : (stores : List StorePlan) → AreDifferent (paths_of stores) → (i j : ℕ) (a b : StorePlan) → slice_get stores i ≡ Some a → slice_get stores j ≡ Some b → i < j → a.path ≡ b.path → ⊥
two_apart stores different i j a b at_a at_b less same =
    let is_a = get_or_from_slice_get stores i a a at_a in
    let is_b = get_or_from_slice_get stores j b a at_b in
    stores_apart stores different i j a less (slice_get_within stores j b at_b) (ap (λ (store : StorePlan). store.path) is_a ∙ same ∙ ap (λ (store : StorePlan). store.path) (sym is_b))

-- stores with one path are one store
pub one_path : (stores : List StorePlan) → AreDifferent (paths_of stores) → (i j : ℕ) (a b : StorePlan) → slice_get stores i ≡ Some a → slice_get stores j ≡ Some b → a.path ≡ b.path → i ≡ j
one_path stores different i j a b at_a at_b same = elim (cases_order i j) [
  | inl is ↦ is
  | inr (inl less) ↦ absurd (two_apart stores different i j a b at_a at_b less same)
  | inr (inr less) ↦ absurd (two_apart stores different j i b a at_b at_a less (sym same))
]

-- A place has a store's path exactly where it is the store's.
pub same_test : (stores : List StorePlan) → AreDifferent (paths_of stores) → (place : ℕ) (store : StorePlan) → slice_get stores place ≡ Some store → (other : ℕ) (its : StorePlan) → slice_get stores other ≡ Some its → bytes_eq (path_of (slice_get stores other)) store.path ≡ (other == place)
same_test stores different place store at other its at_other =
    let path : path_of (slice_get stores other) ≡ its.path = ap path_of at_other in
    elim (cases_eq other place) [
      | inl same ↦
          let one : its ≡ store = same_Some its store (sym at_other ∙ ap (λ (n : ℕ). slice_get stores n) same ∙ at) in
          (bytes_eq-Decides (path_of (slice_get stores other)) store.path).1 (path ∙ ap (λ (s : StorePlan). s.path) one) ∙ sym (eq-eqb other place same)
      | inr apart ↦
          let never : bytes_eq (path_of (slice_get stores other)) store.path ≡ true → ⊥ = λ is. apart (one_path stores different other place its store at_other at (sym path ∙ (bytes_eq-Decides (path_of (slice_get stores other)) store.path).0 is)) in
          false_from_ne_true (bytes_eq (path_of (slice_get stores other)) store.path) never ∙ sym (ne_eqb other place apart)
    ]
