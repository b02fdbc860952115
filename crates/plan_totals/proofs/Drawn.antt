-- The sentences on what the workers of a plan's runs drew.
use Rattle.std.proofs.Common.{◌≡◌, ◌∙◌, refl, sym, ap, subst, arith, inl, inr, ℕ, ◌^◌, ◌<◌, All, true, false, IsTrue, List, [], ◌∷◌, Some, slice_get}
use Rattle.std.proofs.lemmas.List.Elements.{All-head, All-tail}
use Rattle.std.proofs.lemmas.Option.{same_Some, slice_get_within}
use Rattle.vd_outside.specs.Clocks.{ClockSeen}
use Rattle.vd_arm.specs.Arm.{PassSeen}
use Rattle.plan_types.specs.Valid.{IsPlan}
use Rattle.plan_types.specs.declared.plan.Plan.{Plan}
use Rattle.plan_types.specs.declared.run.RunPlan.{RunPlan}
use Rattle.plan_types.specs.declared.store.StorePlan.{StorePlan}
use Rattle.key_state.specs.declared.seen.BookSeen.{BookSeen}
use Rattle.claim_table.specs.Sums.{Each, total}
use Rattle.claim_table.specs.Views.{bad}
use Rattle.slave_worker.specs.Hands.{HandSeen, IsRunOf}
use Rattle.run_report.specs.declared.status.Status.{Status}
use Rattle.run_report.specs.declared.status.Status.TheVariants as status
use Rattle.run_totals.proofs.Lists.{each_append}
use Rattle.plan_hands.specs.Stores.{AreStores, book_of}
use Rattle.plan_runs.specs.Stages.{OneRun, RunsMade, Stage, is_last, made, not_opened, not_started, said_in_part}
use Rattle.plan_runs.proofs.Chosen.{all_of_each}
use Rattle.plan_runs.proofs.Parted.{as_many}
use Rattle.plan_totals.specs.Drawn.{AllTurnsMade, LineIsDrawn, LinesAreDrawn, SlavesTellTurns, StillRunsMakeAllTurns, TurnsAreTold}
use Rattle.plan_totals.specs.Made.{MadeRun, all_made, made_in, made_of, made_run, sum_of}
use Rattle.plan_totals.proofs.Good.{good_worse, no_corrupt}
use Rattle.plan_totals.proofs.Lines.{NoneBad, RunDraws, line_drawn, nothing_found, placed, turns_full, turns_told}
use Rattle.plan_totals.proofs.Moves.{HandMoved}
use Rattle.plan_totals.proofs.Running.{RunLaws}
use Rattle.plan_totals.proofs.Runs.{all_are_runs, one_step}
use Rattle.plan_totals.proofs.Steps.{Step}
use Rattle.plan_totals.proofs.Wholes.{found_at}
use Rattle.plan_totals.proofs.Zips.{zip_at}

memory_isnt_good : (result : Status) → result ≡ status.NoMemory → result ≡ status.Good → ⊥
memory_isnt_good result memory good = let so : status.NoMemory ≡ status.Good = sym memory ∙ good in cc

-- The clock stands still, and early.
record IsEarly (clock : ClockSeen) : Type 0 where
  pub still : IsTrue clock.still
  pub early : clock.last < 2 ^ 63

module _ {P B : Type 0} (pass_seen : P → PassSeen) (book_seen : B → BookSeen) (laws : RunLaws pass_seen book_seen) (draws : RunDraws pass_seen book_seen) where
  module _ (plan : Plan) (valid : IsPlan plan) where
    abbrev OneOf : RunPlan → Stage → Stage → List ℕ → Status → Type 0
    OneOf run before after text result = OneRun pass_seen book_seen plan run before after text result

    abbrev AllOf : List RunPlan → Stage → Stage → List ℕ → Status → Type 0
    AllOf runs before after text result = RunsMade pass_seen book_seen plan runs before after text result

    abbrev in_one : (run : RunPlan) (before after : Stage) (text : List ℕ) (result : Status) → OneOf run before after text result → List MadeRun
    in_one run before after text result one = made_in pass_seen book_seen plan run before after text result one

    abbrev in_all : (runs : List RunPlan) (before after : Stage) (text : List ℕ) (result : Status) → AllOf runs before after text result → List MadeRun
    in_all runs before after text result them = all_made pass_seen book_seen plan runs before after text result them

    step_of : (run : RunPlan) → IsRunOf plan run → (before after : Stage) (text : List ℕ) (result : Status) (one : OneOf run before after text result) → AreStores plan before.hands
        → Step plan before.yard.contents ⊥ (in_one run before after text result one) (is_last result ≡ false) before after
    step_of run is_run before after text result one stores = one_step pass_seen book_seen laws plan valid before.yard.contents ⊥ run is_run before after text result one stores (record { same = refl; tells = λ k. absurd k })

    -- the turns of each run's workers
    one_told : (run : RunPlan) → IsRunOf plan run → (before after : Stage) (text : List ℕ) (result : Status) (one : OneOf run before after text result) → AreStores plan before.hands → Each TurnsAreTold (in_one run before after text result one)
    one_told run is_run before after text result (made answer m is_text is) stores = (turns_told pass_seen book_seen laws draws plan valid run is_run before after answer m stores, tt)
    one_told run is_run before after text result (said_in_part n answer m is_text is) stores = (turns_told pass_seen book_seen laws draws plan valid run is_run before after answer m stores, tt)
    one_told run is_run before after text result (not_started ready why is_ready none told) stores = tt
    one_told run is_run before after text result (not_opened why none told) stores = tt

    all_told : (runs : List RunPlan) → All (IsRunOf plan) runs → (before after : Stage) (text : List ℕ) (result : Status) (them : AllOf runs before after text result) → AreStores plan before.hands → Each TurnsAreTold (in_all runs before after text result them)
    all_told [] are before after text result them stores = tt
    all_told (run ∷ runs) are before after text result (inl limit) stores = tt
    all_told (run ∷ runs) are before after text result (inr (inl (few, says, last))) stores = one_told run (All-head (IsRunOf plan) run runs are) before after text result says.one stores
    all_told (run ∷ runs) are before after text result (inr (inr (few, between, first, rest, one, others, says, last, later, is_text, is))) stores =
        let is_run = All-head (IsRunOf plan) run runs are in
        each_append TurnsAreTold (in_one run before between first one says.one) (in_all runs between after rest others later) (one_told run is_run before between first one says.one stores)
        (all_told runs (All-tail (IsRunOf plan) run runs are) between after rest others later (step_of run is_run before between first one says.one stores).stores)

    -- Of a store with no bad block, where a run found nothing.
    module _ (place : ℕ) (store : StorePlan) (at : slice_get plan.stores place ≡ Some store) where
      abbrev IsLine : MadeRun → Type 0
      IsLine one = LineIsDrawn plan.reread store.id.geometry place one

      one_line : (run : RunPlan) → IsRunOf plan run → (before after : Stage) (text : List ℕ) (result : Status) (one : OneOf run before after text result) → AreStores plan before.hands → result ≡ status.Good → NoneBad place before.hands → Each IsLine (in_one run before after text result one)
      one_line run is_run before after text result (made answer m is_text is) stores good none = (line_drawn pass_seen book_seen laws draws plan valid run is_run before after answer m stores (sym is ∙ good) place store at none, tt)
      one_line run is_run before after text result (said_in_part n answer m is_text is) stores good none = absurd (memory_isnt_good result is good)
      one_line run is_run before after text result (not_started ready why is_ready nothing told) stores good none = tt
      one_line run is_run before after text result (not_opened why nothing told) stores good none = tt

      -- It has none behind the run.
      one_corrupt : (run : RunPlan) → IsRunOf plan run → (before after : Stage) (text : List ℕ) (result : Status) (one : OneOf run before after text result) → AreStores plan before.hands → result ≡ status.Good → sum_of (λ totals. totals.corrupt) place (in_one run before after text result one) ≡ 0
      one_corrupt run is_run before after text result (made answer m is_text is) stores good =
          omega (arith, no_corrupt place (made_run pass_seen book_seen run answer) (nothing_found pass_seen book_seen laws draws plan valid run is_run before after answer m stores (sym is ∙ good)))
      one_corrupt run is_run before after text result (said_in_part n answer m is_text is) stores good = absurd (memory_isnt_good result is good)
      one_corrupt run is_run before after text result (not_started ready why is_ready nothing told) stores good = refl
      one_corrupt run is_run before after text result (not_opened why nothing told) stores good = refl

      still_none : (run : RunPlan) → IsRunOf plan run → (before after : Stage) (text : List ℕ) (result : Status) (one : OneOf run before after text result) → AreStores plan before.hands → result ≡ status.Good → NoneBad place before.hands → NoneBad place after.hands
      still_none run is_run before after text result one stores good none hand at_hand =
          let step = step_of run is_run before after text result one stores in
          let below = slice_get_within plan.stores place store at in
          let old = found_at before.hands place (omega (arith, below, as_many plan before.hands stores)) in
          let moved = zip_at (HandMoved plan before.yard.contents ⊥ (is_last result ≡ false) (in_one run before after text result one) before.yard.counts after.yard.counts) before.hands after.hands place old.0 hand step.hands old.1 at_hand in
          let here = placed plan before.hands place old.0 stores old.1 in
          let spoilt = (moved.moved store (ap (λ (n : ℕ). slice_get plan.stores n) here ∙ at)).spoilt (ap is_last good) in
          let corrupt = ap (λ (n : ℕ). sum_of (λ totals. totals.corrupt) n (in_one run before after text result one)) here in
          omega (arith, spoilt, corrupt, one_corrupt run is_run before after text result one stores good, none old.0 old.1)

      all_lines : (runs : List RunPlan) → All (IsRunOf plan) runs → (before after : Stage) (text : List ℕ) (result : Status) (them : AllOf runs before after text result) → AreStores plan before.hands → result ≡ status.Good → NoneBad place before.hands
          → Each IsLine (in_all runs before after text result them) × NoneBad place after.hands
      all_lines [] are before after text result (same, is_text, is) stores good none = (tt, subst (λ (s : Stage). NoneBad place s.hands) (sym same) none)
      all_lines (run ∷ runs) are before after text result (inl (limit, same, is_text, is)) stores good none = (tt, subst (λ (s : Stage). NoneBad place s.hands) (sym same) none)
      all_lines (run ∷ runs) are before after text result (inr (inl (few, says, last))) stores good none = absurd (let so : false ≡ true = sym (ap is_last good) ∙ last in cc)
      all_lines (run ∷ runs) are before after text result (inr (inr (few, between, first, rest, one, others, says, last, later, is_text, is))) stores good none =
          let is_run = All-head (IsRunOf plan) run runs are in
          let both = good_worse one others (sym is ∙ good) in
          let lines = all_lines runs (All-tail (IsRunOf plan) run runs are) between after rest others later (step_of run is_run before between first one says.one stores).stores both.1 (still_none run is_run before between first one says.one stores both.0 none) in
          (each_append IsLine (in_one run before between first one says.one) (in_all runs between after rest others later) (one_line run is_run before between first one says.one stores both.0 none) lines.0, lines.1)

    -- over a clock that stands still
    one_full : (run : RunPlan) → IsRunOf plan run → (before after : Stage) (text : List ℕ) (result : Status) (one : OneOf run before after text result) → AreStores plan before.hands → result ≡ status.Good → IsEarly before.clock
        → Each AllTurnsMade (in_one run before after text result one) × IsEarly after.clock
    one_full run is_run before after text result (made answer m is_text is) stores good early =
        let looked = m.did.clock in (
          (turns_full pass_seen book_seen laws draws plan valid run is_run before after answer m stores (sym is ∙ good) early.still early.early, tt),
          record { still = subst IsTrue (sym looked.still) early.still; early = omega (arith, looked.last, looked.same early.still, early.early) },
        )
    one_full run is_run before after text result (said_in_part n answer m is_text is) stores good early = absurd (memory_isnt_good result is good)
    one_full run is_run before after text result (not_started ready why is_ready none told) stores good early = (tt, subst IsEarly (sym (none.clock ∙ is_ready.clock)) early)
    one_full run is_run before after text result (not_opened why none told) stores good early = (tt, subst IsEarly (sym none.clock) early)

    all_full : (runs : List RunPlan) → All (IsRunOf plan) runs → (before after : Stage) (text : List ℕ) (result : Status) (them : AllOf runs before after text result) → AreStores plan before.hands → result ≡ status.Good → IsEarly before.clock → Each AllTurnsMade (in_all runs before after text result them)
    all_full [] are before after text result them stores good early = tt
    all_full (run ∷ runs) are before after text result (inl limit) stores good early = tt
    all_full (run ∷ runs) are before after text result (inr (inl (few, says, last))) stores good early = absurd (let so : false ≡ true = sym (ap is_last good) ∙ last in cc)
    all_full (run ∷ runs) are before after text result (inr (inr (few, between, first, rest, one, others, says, last, later, is_text, is))) stores good early =
        let is_run = All-head (IsRunOf plan) run runs are in
        let both = good_worse one others (sym is ∙ good) in
        let now = one_full run is_run before between first one says.one stores both.0 early in
        each_append AllTurnsMade (in_one run before between first one says.one) (in_all runs between after rest others later) now.0
        (all_full runs (All-tail (IsRunOf plan) run runs are) between after rest others later (step_of run is_run before between first one says.one stores).stores both.1 now.1)

  pub slaves_tell : SlavesTellTurns pass_seen book_seen
  slaves_tell all = all_of_each TurnsAreTold (made_of pass_seen book_seen all) (all_told all.plan all.valid all.plan.runs (all_are_runs all.plan all.valid) all.before all.last all.text all.result all.runs all.stores)

  pub lines_are_drawn : LinesAreDrawn pass_seen book_seen
  lines_are_drawn all its good none =
      let clean : NoneBad its.place all.before.hands = λ hand at. ap (λ (h : HandSeen). total bad (book_of h).now) (same_Some hand its.hand (sym at ∙ its.went_in)) ∙ none in
      let lines = all_lines all.plan all.valid its.place its.store its.its_store all.plan.runs (all_are_runs all.plan all.valid) all.before all.last all.text all.result all.runs all.stores good clean in
      (all_of_each (LineIsDrawn all.plan.reread its.store.id.geometry its.place) (made_of pass_seen book_seen all) lines.0, lines.1 its.back its.came_back)

  pub still_runs : StillRunsMakeAllTurns pass_seen book_seen
  still_runs all good still early =
      all_of_each AllTurnsMade (made_of pass_seen book_seen all) (all_full all.plan all.valid all.plan.runs (all_are_runs all.plan all.valid) all.before all.last all.text all.result all.runs all.stores good (record { still = still; early = early }))
