-- What all arms of a run add to a path.
use Rattle.std.proofs.Common.{◌≡◌, ℕ, ◌<◌, Bool, true, false, ◌||◌, cond, List, [], ◌∷◌, length, Some, slice_get, refl, sym, ap, ◌∙◌, arith}
use Rattle.std.specs.List.{filter, list_any}
use Rattle.vd_arm.specs.Arm.{ArmSeen}
use Rattle.plan_types.specs.Valid.{AreDifferent, paths_of}
use Rattle.plan_types.specs.declared.plan.Plan.{Plan}
use Rattle.plan_types.specs.declared.store.StorePlan.{StorePlan}
use Rattle.claim_table.specs.Sums.{Each, total}
use Rattle.master_run.specs.Crews.{arms_of, path_of}
use Rattle.master_run.specs.Labors.{Labor}
use Rattle.run_totals.proofs.Counts.{at_path}
use Rattle.run_totals.proofs.Crews.{of_store}
use Rattle.run_totals.proofs.Lists.{each_from, total_filter, total_map, total_same}
use Rattle.run_totals.proofs.Stores.{same_test}

-- a labor's arm, with its path
abbrev pub arm_at : Plan → Labor → List ℕ × ArmSeen
arm_at plan labor = (path_of (slice_get plan.stores labor.worker.store), labor.arm)

-- its store is in the plan
abbrev pub HasStore : Plan → Labor → Type 0
HasStore plan labor = (store : StorePlan) × (slice_get plan.stores labor.worker.store ≡ Some store)

-- the arms add to a store's path what those of its labors add
pub store_sum : (plan : Plan) → AreDifferent (paths_of plan.stores) → (place : ℕ) (store : StorePlan) → slice_get plan.stores place ≡ Some store → (count : ArmSeen → ℕ) (all labors : List Labor) → Each (HasStore plan) all → filter (of_store place) all ≡ labors → total (at_path count store.path) (arms_of plan all) ≡ total (λ (labor : Labor). count labor.arm) labors
store_sum plan different place store at count all labors have own =
    total_map (at_path count store.path) (arm_at plan) all
    ∙ total_same (λ (labor : Labor). at_path count store.path (arm_at plan labor)) (λ (labor : Labor). cond (of_store place labor) (count labor.arm) 0) all
    (each_from (HasStore plan) (λ (labor : Labor). at_path count store.path (arm_at plan labor) ≡ cond (of_store place labor) (count labor.arm) 0) all
    (λ labor has. ap (λ (b : Bool). cond b (count labor.arm) 0) (same_test plan.stores different place store at labor.worker.store has.0 has.1)) have)
    ∙ sym (total_filter (λ (labor : Labor). count labor.arm) (of_store place) all)
    ∙ ap (λ (l : List Labor). total (λ (labor : Labor). count labor.arm) l) own

-- the arms are elsewhere where no labor's store has the path
pub arms_apart : (plan : Plan) (path : List ℕ) (all : List Labor) → Each (λ labor. path ≡ path_of (slice_get plan.stores labor.worker.store) → ⊥) all → Each (λ one. path ≡ one.0 → ⊥) (arms_of plan all)
arms_apart plan path [] apart = tt
arms_apart plan path (labor ∷ all) apart = (apart.0, arms_apart plan path all apart.1)

-- what some element passes keeps some
one_passes : {A : Type 0} (x : A) (xs : List A) (b rest : Bool) → (b || rest) ≡ true → (rest ≡ true → 0 < length xs) → 0 < length (cond b (x ∷ xs) xs)
one_passes x xs true rest any more = omega arith
one_passes x xs false rest any more = more any

pub any_kept : {A : Type 0} (p : A → Bool) (xs : List A) → list_any p xs ≡ true → 0 < length (filter p xs)
any_kept p [] any = absurd (let so : true ≡ false = sym any in cc)
any_kept p (x ∷ xs) any = one_passes x (filter p xs) (p x) (list_any p xs) any (any_kept p xs)

pub total_ones : {A : Type 0} (xs : List A) → total (λ x. 1) xs ≡ length xs
total_ones [] = refl
total_ones (x ∷ xs) = omega (arith, total_ones xs)
