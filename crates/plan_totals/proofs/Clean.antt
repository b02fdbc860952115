-- No worker found a corrupt block where no store's totals have one.
use Rattle.std.proofs.Common.{◌≡◌, ◌∙◌, refl, sym, ap, arith, inl, inr, ℕ, zero, suc, ◌<◌, All, List, [], ◌∷◌, length, Some, slice_get}
use Rattle.std.specs.List.{filter, zip}
use Rattle.std.proofs.lemmas.Bool.{eq-eqb}
use Rattle.std.proofs.lemmas.Option.{none-some, same_Some, slice_get_cases, slice_get_within}
use Rattle.plan_types.specs.Valid.{IsRun, IsWorker}
use Rattle.plan_types.specs.declared.plan.Plan.{Plan}
use Rattle.plan_types.specs.declared.run.WorkerPlan.{WorkerPlan}
use Rattle.claim_table.specs.Sums.{total}
use Rattle.worker_tally.specs.Tallies.{Tallied}
use Rattle.slave_worker.specs.Hands.{IsRunOf}
use Rattle.run_report.specs.Runs.{is_of, totals_of}
use Rattle.run_report.specs.declared.run_sums.Group.TheVariants as group
use Rattle.run_totals.proofs.Lists.{all_at, all_from, each_at, filter_at, none_of_total, sum_is_total}
use Rattle.plan_totals.specs.Made.{MadeRun, totals_in}

pub zip_get : {A B : Type 0} (xs : List A) (ys : List B) (i : ℕ) (x : A) (y : B) → slice_get xs i ≡ Some x → slice_get ys i ≡ Some y → slice_get (zip xs ys) i ≡ Some (x, y)
zip_get [] ys i x y at_x at_y = absurd (none-some x at_x)
zip_get (a ∷ xs) [] i x y at_x at_y = absurd (none-some y at_y)
zip_get {A} {B} (a ∷ xs) (b ∷ ys) zero x y at_x at_y = ap (λ (p : A). Some (p, b)) (same_Some a x at_x) ∙ ap (λ (q : B). Some (x, q)) (same_Some b y at_y)
zip_get (a ∷ xs) (b ∷ ys) (suc i) x y at_x at_y = zip_get xs ys i x y at_x at_y

corrupt_total : (worked : List (WorkerPlan × Tallied)) → (totals_of worked).corrupt ≡ total (λ (one : WorkerPlan × Tallied). one.1.numbers.corrupt) worked
unfolding totals_of
corrupt_total worked = sum_is_total (λ (one : WorkerPlan × Tallied). one.1.numbers.corrupt) worked

-- A run whose stores have none in their totals.
pub clean_run : (plan : Plan) (one : MadeRun) → IsRunOf plan one.run → length one.tallies ≡ length one.run.workers → ((place : ℕ) → place < length plan.stores → (totals_in place one).corrupt ≡ 0) → All (λ (tally : Tallied). tally.numbers.corrupt ≡ 0) one.tallies
clean_run plan one is_run many none = all_from (λ (tally : Tallied). tally.numbers.corrupt ≡ 0) one.tallies (λ i tally at.
    elim ((slice_get_cases one.run.workers i).1) [
      | inl found ↦
          let worker : WorkerPlan = found.0 in
          let valid = all_at (IsRun plan.stores) plan.runs is_run.number.0 one.run is_run.valid.runs is_run.number.1 in
          let there = (all_at (IsWorker plan.stores one.run.slaves) one.run.workers i worker valid.workers found.2).store in
          let pair = zip_get one.run.workers one.tallies i worker tally found.2 at in
          let kept = filter (λ (w : WorkerPlan × Tallied). is_of (group.Store worker.store) w.0) (zip one.run.workers one.tallies) in
          let mine = filter_at (λ (w : WorkerPlan × Tallied). is_of (group.Store worker.store) w.0) (zip one.run.workers one.tallies) i (worker, tally) pair (eq-eqb worker.store worker.store refl) in
          let each = none_of_total (λ (w : WorkerPlan × Tallied). w.1.numbers.corrupt) kept (sym (corrupt_total kept) ∙ none worker.store there) in
          each_at (λ (w : WorkerPlan × Tallied). w.1.numbers.corrupt ≡ 0) kept mine.0 (worker, tally) each mine.1
      | inr past ↦ absurd (omega (arith, many, past.0, slice_get_within one.tallies i tally at))
    ])
