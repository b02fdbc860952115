-- What a valid plan has.
use Rattle.std.proofs.Common.{◌≡◌, ℕ, suc, ◌<◌, List, [], ◌∷◌, length, arith}
use Rattle.std.specs.Prelude.{All}
use Rattle.std.proofs.lemmas.List.Elements.{All-nil, All-cons, All-head, All-tail, All-weaker}
use Rattle.std.proofs.lemmas.List.Kept.{AllPairs-cons}
use Rattle.plan_types.specs.Valid.{AreDifferent, IsPlan, IsRun, IsShare, paths_of}
use Rattle.plan_types.specs.declared.plan.Plan.{Plan}
use Rattle.plan_types.specs.declared.run.Share.{Share}
use Rattle.plan_types.specs.declared.store.StorePlan.{StorePlan}
use Rattle.run_report.specs.Plans.{PrintsShares}
use Rattle.still_plan.specs.Frame.{AreApart}

pub prints_shares : (plan : Plan) → IsPlan plan → All (PrintsShares plan.stores) plan.runs
prints_shares plan valid =
    All-weaker (IsRun plan.stores) (PrintsShares plan.stores)
    (λ run is. All-weaker (IsShare plan.stores) (λ (share : Share). share.store < length plan.stores) (λ share s. s.store) run.shares is.shares) plan.runs valid.runs

Differ : List ℕ → List ℕ → Type 0
Differ a b = a ≡ b → ⊥

first_differs : (x : List ℕ) (xs : List (List ℕ)) → AreDifferent (x ∷ xs) → All (Differ x) xs
unfolding Differ
first_differs x xs apart k d within = apart 0 (suc k) d (omega arith) (omega (arith, within))

rest_differs : (x : List ℕ) (xs : List (List ℕ)) → AreDifferent (x ∷ xs) → AreDifferent xs
rest_differs x xs apart i j d less within = apart (suc i) (suc j) d (omega (arith, less)) (omega (arith, within))

PathDiffers : List ℕ → StorePlan → Type 0
PathDiffers path store = path ≡ store.path → ⊥

of_paths : (path : List ℕ) (stores : List StorePlan) → All (Differ path) (paths_of stores) → All (PathDiffers path) stores
unfolding Differ PathDiffers
of_paths path [] p = All-nil (PathDiffers path)
of_paths path (store ∷ stores) p =
    All-cons (PathDiffers path) store stores (All-head (Differ path) store.path (store.journal ∷ paths_of stores) p)
    (of_paths path stores (All-tail (Differ path) store.journal (paths_of stores) (All-tail (Differ path) store.path (store.journal ∷ paths_of stores) p)))

pub stores_apart : (stores : List StorePlan) → AreDifferent (paths_of stores) → AreApart stores
unfolding PathDiffers
stores_apart [] p = λ i j d less within. absurd (omega (arith, within))
stores_apart (store ∷ stores) p =
    AllPairs-cons (λ (a : StorePlan) (b : StorePlan). a.path ≡ b.path → ⊥) store stores
    (of_paths store.path stores (All-tail (Differ store.path) store.journal (paths_of stores) (first_differs store.path (store.journal ∷ paths_of stores) p)))
    (stores_apart stores (rest_differs store.journal (paths_of stores) (rest_differs store.path (store.journal ∷ paths_of stores) p)))
