-- Runs over recovered journals, where all arms are sure, and where each journal is valid.
use Rattle.std.proofs.Common.{◌≡◌, ◌∙◌, refl, sym, ap, subst, arith, ℕ, suc, ◌==◌, Bool, true, false, List, [], ◌∷◌}
use Rattle.std.specs.Prelude.{◌≢◌, count_by, if◌then◌else◌}
use Rattle.vd_arm.specs.Arm.{PassSeen}
use Rattle.vd_yard.specs.Yard.{YardSeen}
use Rattle.plan_types.specs.Valid.{IsPlan}
use Rattle.plan_types.specs.declared.plan.Plan.{Plan}
use Rattle.plan_types.specs.declared.store.StorePlan.{StorePlan}
use Rattle.key_state.specs.declared.seen.BookSeen.{BookSeen}
use Rattle.journal_recover.specs.declared.found.Recovered.{Recovered}
use Rattle.recover_run.specs.Looks.{is_corrupt, is_unread}
use Rattle.recover_run.specs.declared.look.Look.{Look}
use Rattle.recover_run.proofs.Looking.{count-append}
use Rattle.run_report.specs.declared.status.Status.{Status}
use Rattle.run_report.specs.declared.status.Status.TheVariants as status
use Rattle.run_totals.specs.Sentences.{ArmsAreSure}
use Rattle.still_plan.specs.Stores.{all_looks, looks_status}
use Rattle.plan_journals.specs.Open.{Start}
use Rattle.plan_runs.specs.Stages.{Stage, stage}
use Rattle.plan_verified.specs.Laws.{FitAsBefore, FitWhereAllRead}
use Rattle.plan_verified.specs.Stores.{LeaveStores, StoreSeen}
use Rattle.plan_resumed.specs.Resumed.{RunsResumed}
use Rattle.plan_resumed.specs.Resumed as resumed
use Rattle.plan_resumed.specs.Seating.{with_passes}
use Rattle.plan_totals.specs.Made.{PlanRuns}
use Rattle.plan_kept.specs.Laws.{OldIsSure}
use Rattle.plan_kept.proofs.Again.{goes_not}
use Rattle.plan_kept.proofs.Unwell.{journals_unwell, stop_unwell, unwell_not, worse_not}
use Rattle.plan_kept.proofs.Fitting.{Laws, sure_on}

-- Sure arms leave no block unread.
none_unread : (old new : YardSeen) (stores : List StorePlan) (found : List Recovered) (seen : List (List Look)) (left : List StoreSeen) → LeaveStores old new stores found seen left → ArmsAreSure old stores → count_by is_unread (all_looks seen) ≡ 0
none_unread old new [] [] [] [] leaves sure = refl
none_unread old new (store ∷ stores) (here ∷ found) (looks ∷ seen) (l ∷ left) leaves sure =
    omega (arith, count-append is_unread looks (all_looks seen), leaves.0.sure (sure 0 store refl), none_unread old new stores found seen left leaves.1 (λ place other at. sure (suc place) other at))
none_unread old new [] [] [] (l ∷ left) leaves sure = absurd leaves
none_unread old new [] [] (looks ∷ seen) left leaves sure = absurd leaves
none_unread old new [] (here ∷ found) seen left leaves sure = absurd leaves
none_unread old new (store ∷ stores) [] seen left leaves sure = absurd leaves
none_unread old new (store ∷ stores) (here ∷ found) [] left leaves sure = absurd leaves
none_unread old new (store ∷ stores) (here ∷ found) (looks ∷ seen) [] leaves sure = absurd leaves

looks_read : (looks : List Look) → count_by is_unread looks ≡ 0 → looks_status looks ≢ status.Device
looks_read looks none is =
    by (if count_by is_corrupt looks == 0 then status.Good else status.Corrupt) (corrupt_or (count_by is_corrupt looks == 0))
    (sym (ap (λ (n : ℕ). if n == 0 then (if count_by is_corrupt looks == 0 then status.Good else status.Corrupt) else status.Device) none) ∙ is)
  where
    corrupt_or : (b : Bool) → (if b then status.Good else status.Corrupt) ≢ status.Device
    corrupt_or true e = cc
    corrupt_or false e = cc

    by : (s : Status) → s ≢ status.Device → s ≡ status.Device → ⊥
    by s not e = not e

module _ {P B : Type 0} (pass_seen : P → PassSeen) (book_seen : B → BookSeen) (laws : Laws pass_seen book_seen) (readable : FitWhereAllRead) (before_law : FitAsBefore) where
  sure_by : (plan : Plan) (before after : Stage) (starts : List Start) (text : List ℕ) (result : Status) → IsPlan plan → ArmsAreSure before.yard plan.stores → RunsResumed pass_seen book_seen plan before after starts text result → result ≢ status.Device
  sure_by plan before after starts text result valid sure (resumed.not_recovered stop leaves stay clock none) = unwell_not status.Device result tt (journals_unwell before.yard after.yard plan.stores text result stop)
  sure_by plan before after starts text result valid sure (resumed.not_verified found recovered said have verified rest ends stop blocks same leaves disks clock none texts) = unwell_not status.Device result tt (stop_unwell result stop)
  sure_by plan before after starts text result valid sure (resumed.resumed found recovered said have unfailed seen left verified told looked from rest after_that goes texts is) =
      let sure_recovered : ArmsAreSure recovered plan.stores = sure_on before.yard recovered plan.stores have.leaves.tells sure in
      let looks = looks_read (all_looks seen) (none_unread recovered verified plan.stores found seen left looked.each sure_recovered) in
      let runs = goes_not pass_seen book_seen plan have.disks starts left verified told before.clock after rest after_that status.Device tt
      (λ books printed opens stores more closed.
      let all : PlanRuns pass_seen book_seen = record { plan = plan; before = stage (with_passes left books) verified before.clock 0 printed; last = closed.last; text = closed.runs_text; result = closed.work; valid = valid; stores = stores; runs = closed.made } in
      (laws.sure all (sure_on recovered verified plan.stores looked.stays.tells sure_recovered)).1) goes in
      subst (λ (s : Status). s ≢ status.Device) (sym is) (worse_not status.Device (looks_status (all_looks seen)) after_that looks runs)

  pub old_is_sure : OldIsSure pass_seen book_seen
  old_is_sure plan before after result valid sure went = sure_by plan before after went.starts went.text result valid sure went.does
