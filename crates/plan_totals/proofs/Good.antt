-- Where a status is that nothing was found, nothing was: no tally has a failed call or a corrupt block.
use Rattle.std.proofs.Common.{◌≡◌, ◌∙◌, refl, sym, ap, arith, ℕ, Bool, true, false, List, [], ◌∷◌, sum_by}
use Rattle.std.specs.Prelude.{if◌then◌else◌, nat_lt}
use Rattle.std.specs.List.{filter, list_any, zip}
use Rattle.std.proofs.lemmas.Bool.{ltb-false, ltb-true}
use Rattle.plan_types.specs.declared.run.WorkerPlan.{WorkerPlan}
use Rattle.claim_table.specs.Sums.{Each}
use Rattle.worker_tally.specs.Tallies.{Tallied}
use Rattle.run_report.specs.Runs.{is_of, totals_of}
use Rattle.run_report.specs.declared.run_sums.Group.TheVariants as group
use Rattle.run_report.specs.declared.status.Status.{Status}
use Rattle.run_report.specs.declared.status.Status.TheVariants as status
use Rattle.run_totals.proofs.Lists.{each_from, each_kept, sum_is_total, total_none}
use Rattle.plan_runs.specs.Statuses.{tallies_status, weight_of, worse}
use Rattle.plan_totals.specs.Made.{MadeRun, totals_in}
use Rattle.plan_totals.proofs.Books.{unmet}
use Rattle.plan_totals.proofs.Slaves.{Worked, each_second}

no_weight : (s : Status) → weight_of s ≡ 0 → s ≡ status.Good
no_weight status.Good is = refl
no_weight status.Corrupt is = absurd (omega (arith, is))
no_weight status.Device is = absurd (omega (arith, is))
no_weight status.EpochEnd is = absurd (omega (arith, is))
no_weight status.Journal is = absurd (omega (arith, is))
no_weight status.Yard is = absurd (omega (arith, is))
no_weight status.NoMemory is = absurd (omega (arith, is))
no_weight status.Parameter is = absurd (omega (arith, is))
no_weight status.Source is = absurd (omega (arith, is))
no_weight status.Usage is = absurd (omega (arith, is))
no_weight status.Sink is = absurd (omega (arith, is))
no_weight status.NoJournal is = absurd (omega (arith, is))
no_weight status.Damaged is = absurd (omega (arith, is))
no_weight status.Mismatch is = absurd (omega (arith, is))

-- The worse of two is that where both are.
pub good_worse : (first rest : Status) → worse first rest ≡ status.Good → (first ≡ status.Good) × (rest ≡ status.Good)
good_worse first rest good = by_order (nat_lt (weight_of first) (weight_of rest)) refl
  where
    by_order : (b : Bool) → nat_lt (weight_of first) (weight_of rest) ≡ b → (first ≡ status.Good) × (rest ≡ status.Good)
    by_order true is =
        let wins : rest ≡ status.Good = sym (ap (λ (b : Bool). if b then rest else first) is) ∙ good in
        absurd (omega (arith, ltb-true (weight_of first) (weight_of rest) is, ap weight_of wins))
    by_order false is =
        let wins : first ≡ status.Good = sym (ap (λ (b : Bool). if b then rest else first) is) ∙ good in
        let none : weight_of rest ≡ 0 = omega (arith, ltb-false (weight_of first) (weight_of rest) is, ap weight_of wins) in
        (wins, no_weight rest none)

-- a tally of a worker that found nothing
pub record FoundNothing (tally : Tallied) : Type 0 where
  pub faults : tally.numbers.faults ≡ 0
  pub corrupt : tally.numbers.corrupt ≡ 0

neither : (a b : Bool) → (if a then status.Device else if b then status.Corrupt else status.Good) ≡ status.Good → (a ≡ false) × (b ≡ false)
neither true b is = absurd (let so : status.Device ≡ status.Good = is in cc)
neither false true is = absurd (let so : status.Corrupt ≡ status.Good = is in cc)
neither false false is = (refl, refl)

not_above : (n : ℕ) → nat_lt 0 n ≡ false → n ≡ 0
not_above n is = omega (arith, ltb-false 0 n is)

both_nothing : (tallies : List Tallied) → Each (λ (tally : Tallied). nat_lt 0 tally.numbers.faults ≡ false) tallies → Each (λ (tally : Tallied). nat_lt 0 tally.numbers.corrupt ≡ false) tallies → Each FoundNothing tallies
both_nothing [] faults corrupt = tt
both_nothing (tally ∷ tallies) faults corrupt =
    (record { faults = not_above tally.numbers.faults faults.0; corrupt = not_above tally.numbers.corrupt corrupt.0 }, both_nothing tallies faults.1 corrupt.1)

pub found_nothing : (tallies : List Tallied) → tallies_status tallies ≡ status.Good → Each FoundNothing tallies
found_nothing tallies good =
    let none = neither (list_any (λ (tally : Tallied). nat_lt 0 tally.numbers.faults) tallies) (list_any (λ (tally : Tallied). nat_lt 0 tally.numbers.corrupt) tallies) good in
    both_nothing tallies (unmet (λ (tally : Tallied). nat_lt 0 tally.numbers.faults) tallies none.0) (unmet (λ (tally : Tallied). nat_lt 0 tally.numbers.corrupt) tallies none.1)

-- Then no store's totals have one.
no_sum : (f : Tallied → ℕ) (place : ℕ) (workers : List WorkerPlan) (tallies : List Tallied) → Each (λ tally. f tally ≡ 0) tallies → sum_by (λ (one : Worked). f one.1) (filter (λ (one : Worked). is_of (group.Store place) one.0) (zip workers tallies)) ≡ 0
no_sum f place workers tallies each =
    let kept = filter (λ (one : Worked). is_of (group.Store place) one.0) (zip workers tallies) in
    sum_is_total (λ (one : Worked). f one.1) kept
    ∙ total_none (λ (one : Worked). f one.1) kept (each_kept (λ (one : Worked). f one.1 ≡ 0) (λ (one : Worked). is_of (group.Store place) one.0) (zip workers tallies) (each_second (λ tally. f tally ≡ 0) workers tallies each))

pub no_faults : (place : ℕ) (one : MadeRun) → Each FoundNothing one.tallies → (totals_in place one).faults ≡ 0
unfolding totals_of
no_faults place one each = no_sum (λ (tally : Tallied). tally.numbers.faults) place one.run.workers one.tallies (each_from FoundNothing (λ (tally : Tallied). tally.numbers.faults ≡ 0) one.tallies (λ tally is. is.faults) each)

pub no_corrupt : (place : ℕ) (one : MadeRun) → Each FoundNothing one.tallies → (totals_in place one).corrupt ≡ 0
unfolding totals_of
no_corrupt place one each = no_sum (λ (tally : Tallied). tally.numbers.corrupt) place one.run.workers one.tallies (each_from FoundNothing (λ (tally : Tallied). tally.numbers.corrupt ≡ 0) one.tallies (λ tally is. is.corrupt) each)
