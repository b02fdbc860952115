-- The totals of a store's workers, as sums over their labors.
use Rattle.std.proofs.Common.{◌≡◌, ℕ, ◌-◌, ◌%◌, ◌^◌, ◌≤◌, min, List, [], ◌∷◌, length, map, sum_by, refl, sym, ap, subst, ◌∙◌, arith}
use Rattle.std.specs.List.{filter, zip}
use Rattle.std.proofs.lemmas.List.{length-map}
use Rattle.plan_types.specs.declared.run.WorkerPlan.{WorkerPlan}
use Rattle.claim_table.specs.Sums.{Each, total}
use Rattle.worker_tally.specs.Tallies.{Tallied}
use Rattle.worker_tally.specs.declared.tally.Numbers.{Numbers}
use Rattle.master_run.specs.Labors.{Labor}
use Rattle.run_report.specs.Runs.{group_totals, is_of, totals_of}
use Rattle.run_report.specs.Runs.{Worked as Counted}
use Rattle.run_report.specs.declared.run_sums.Group.TheVariants as group
use Rattle.run_report.specs.declared.run_sums.Totals.{Totals}
use Rattle.run_totals.proofs.Crews.{of_store}
use Rattle.run_totals.proofs.Lists.{filter_of_map, sum_is_total, total_map, zip_maps}

-- a labor's worker with its tally
abbrev pub told : Labor → WorkerPlan × Tallied
told labor = (labor.worker, labor.tally)

-- the workers of labors with what came of each, as one list
pub pairs_of : {A : Type 0} (of : Labor → A) (all : List Labor) (workers : List WorkerPlan) (others : List A) → map (λ (labor : Labor). labor.worker) all ≡ workers → others ≡ map of all → zip workers others ≡ map (λ (labor : Labor). (labor.worker, of labor)) all
pairs_of of all workers others are_workers are_others =
    ap (λ l. zip l others) (sym are_workers) ∙ ap (λ l. zip (map (λ (labor : Labor). labor.worker) all) l) are_others ∙ zip_maps (λ (labor : Labor). labor.worker) of all

-- the workers of a store with their tallies are those of its labors
pub their_tallies : (place : ℕ) (all labors : List Labor) (workers : List WorkerPlan) (tallies : List Tallied) → map (λ (labor : Labor). labor.worker) all ≡ workers → tallies ≡ map (λ (labor : Labor). labor.tally) all → filter (of_store place) all ≡ labors → filter (λ (one : WorkerPlan × Tallied). is_of (group.Store place) one.0) (zip workers tallies) ≡ map told labors
their_tallies place all labors workers tallies are_workers are_tallies own =
    ap (λ l. filter (λ (one : WorkerPlan × Tallied). is_of (group.Store place) one.0) l) (pairs_of (λ (labor : Labor). labor.tally) all workers tallies are_workers are_tallies)
    ∙ filter_of_map told (λ (one : WorkerPlan × Tallied). is_of (group.Store place) one.0) all
    ∙ ap (λ l. map told l) own

-- the sum of one number
pub number_sum : (number : Numbers → ℕ) (labors : List Labor) → sum_by (λ (one : WorkerPlan × Tallied). number one.1.numbers) (map told labors) ≡ total (λ (labor : Labor). number labor.tally.numbers) labors
number_sum number labors =
    sum_is_total (λ (one : WorkerPlan × Tallied). number one.1.numbers) (map told labors) ∙ total_map (λ (one : WorkerPlan × Tallied). number one.1.numbers) told labors

-- the totals that the sentences speak of
pub record AreTotals (labors : List Labor) (totals : Totals) : Type 0 where
  pub reads : totals.reads ≡ total (λ (labor : Labor). labor.tally.numbers.reads) labors
  pub prereads : totals.prereads ≡ total (λ (labor : Labor). labor.tally.numbers.prereads) labors
  pub rereads : totals.rereads ≡ total (λ (labor : Labor). labor.tally.numbers.rereads) labors
  pub writes : totals.writes ≡ total (λ (labor : Labor). labor.tally.numbers.writes) labors
  pub faults : totals.faults ≡ total (λ (labor : Labor). labor.tally.numbers.faults) labors
  pub corrupt : totals.corrupt ≡ total (λ (labor : Labor). labor.tally.numbers.corrupt) labors
  pub turns : totals.turns ≡ total (λ (labor : Labor). labor.tally.numbers.turns) labors
  pub busy : totals.busy ≡ total (λ (labor : Labor). labor.tally.numbers.busy) labors
  pub badskip : totals.badskip ≡ total (λ (labor : Labor). labor.tally.numbers.badskip) labors
  pub workers : totals.workers ≡ length labors

of_told : (labors : List Labor) → AreTotals labors (totals_of (map told labors))
unfolding totals_of
of_told labors = record {
  reads = number_sum (λ n. n.reads) labors;
  prereads = number_sum (λ n. n.prereads) labors;
  rereads = number_sum (λ n. n.rereads) labors;
  writes = number_sum (λ n. n.writes) labors;
  faults = number_sum (λ n. n.faults) labors;
  corrupt = number_sum (λ n. n.corrupt) labors;
  turns = number_sum (λ n. n.turns) labors;
  busy = number_sum (λ n. n.busy) labors;
  badskip = number_sum (λ n. n.badskip) labors;
  workers = length-map labors told;
}

pub are_totals : (place : ℕ) (all labors : List Labor) (workers : List WorkerPlan) (tallies : List Tallied) → map (λ (labor : Labor). labor.worker) all ≡ workers → tallies ≡ map (λ (labor : Labor). labor.tally) all → filter (of_store place) all ≡ labors → AreTotals labors (group_totals (group.Store place) (zip workers tallies))
are_totals place all labors workers tallies are_workers are_tallies own =
    subst (λ (l : List Counted). AreTotals labors (totals_of l)) (sym (their_tallies place all labors workers tallies are_workers are_tallies own)) (of_told labors)

-- Sums that agree modulo 2^64, and sums that are held.
pub total_mod : {A : Type 0} (f g : A → ℕ) (xs : List A) → Each (λ x. f x % 2 ^ 64 ≡ g x % 2 ^ 64) xs → total f xs % 2 ^ 64 ≡ total g xs % 2 ^ 64
total_mod f g [] each = refl
total_mod f g (x ∷ xs) each = omega (arith, each.0, total_mod f g xs each.1)

pub total_held : {A : Type 0} (f g : A → ℕ) (xs : List A) → Each (λ x. min (g x) (2 ^ 64 - 1) ≤ f x) xs → min (total g xs) (2 ^ 64 - 1) ≤ total f xs
total_held f g [] each = omega arith
total_held f g (x ∷ xs) each = omega (arith, each.0, total_held f g xs each.1)
