-- The sentences on all runs of a plan.
use Rattle.std.proofs.Common.{◌≡◌, ◌∙◌, refl, sym, ap, subst, arith, inl, inr, ℕ, zero, suc, ◌+◌, ◌<◌, All, true, false, IsTrue, List, [], ◌∷◌, ◌++◌, length, take, Some, slice_get}
use Rattle.std.specs.Prelude.{nat_lt}
use Rattle.std.specs.List.{range_with_len}
use Rattle.std.proofs.lemmas.List.Folds.{list_any_none}
use Rattle.std.proofs.lemmas.Option.{slice_get_cases}
use Rattle.std.proofs.lemmas.List.Elements.{All-head, All-tail}
use Rattle.vd_arm.specs.Arm.{PassSeen}
use Rattle.vd_yard.specs.Contents.{file_block}
use Rattle.vd_yard.specs.Counts.{Counts, source_faults}
use Rattle.vd_yard.specs.Kept.{Kept, bytes_at}
use Rattle.plan_types.specs.Valid.{IsPlan}
use Rattle.plan_types.specs.declared.plan.Plan.{Plan}
use Rattle.plan_types.specs.declared.run.RunPlan.{RunPlan}
use Rattle.key_state.specs.declared.entry.Entry.{Entry}
use Rattle.key_state.specs.declared.seen.BookSeen.{BookSeen}
use Rattle.block_verdict.specs.Fits.{FitsAt}
use Rattle.worker_tally.specs.Tallies.{Tallied}
use Rattle.slave_worker.specs.Hands.{IsRunOf}
use Rattle.run_report.specs.declared.status.Status.{Status}
use Rattle.run_totals.proofs.Counts.{sources_stay}
use Rattle.run_totals.proofs.Lists.{all_from, each_at, each_from, get_map, none_of_total}
use Rattle.plan_hands.specs.Stores.{AreStores, place_of}
use Rattle.plan_runs.specs.Stages.{RunsMade, Stage, is_last}
use Rattle.plan_runs.proofs.Chosen.{all_of_each}
use Rattle.plan_runs.proofs.Parted.{as_many}
use Rattle.plan_runs.proofs.Runs.{runs_counts}
use Rattle.plan_totals.specs.Made.{MadeRun, PlanRuns, StoreOf, all_made, findings_of, made_of, sum_of, totals_in}
use Rattle.plan_totals.specs.Sentences.{AllFit, ContentsStay, CorruptAreBad, ErrorsAreFindings, FaultsAreArmFaults, FindingsAreTold, FirstAreMade, FittingStaysSo, HandFits, IsCounted, NoneIsCorrupt, NoneIsLeftOut, OneForEach, OtherPathsStay, ReadsAreGoodReads, RefusedIsTold, SourcesStay, StartBelowLimit, StoresStay, SureArmsDontFail, TextIsTheirs, UnwrittenFit, WritesAreEnds, WritesAreGoodWrites}
use Rattle.plan_totals.proofs.Clean.{clean_run}
use Rattle.plan_totals.proofs.Moves.{HandMoved, Moved}
use Rattle.plan_totals.proofs.Running.{RunLaws}
use Rattle.plan_totals.proofs.Runs.{all_are_runs, all_steps, one_step}
use Rattle.plan_totals.proofs.Found.{status_found}
use Rattle.plan_totals.proofs.Sure.{AreCounted, NoFaults, all_sure, all_tells, all_told, not_device}
use Rattle.plan_totals.proofs.Steps.{IsCountedOf, KeepsSame, Step}
use Rattle.plan_totals.proofs.Texts.{at_most_one, corrupt_is, corrupt_tally, first_made, left_out, refused_is, some_corrupt, text_is, went_on}
use Rattle.plan_totals.proofs.Zips.{range_at, zip_at}

pub found_at : {A : Type 0} (xs : List A) (i : ℕ) → i < length xs → (x : A) × (slice_get xs i ≡ Some x)
found_at xs i within = elim ((slice_get_cases xs i).1) [
  | inl found ↦ (found.0, found.2)
  | inr past ↦ absurd (omega (arith, within, past.0))
]

pub unwritten_fit : UnwrittenFit
unwritten_fit contents store hand never block within i inside = subst (λ (entry : Entry). FitsAt store.id block entry (file_block store.id.geometry.block_size block (bytes_at contents store.path)) i) (sym (never block within)) (inl refl)

module _ {P B : Type 0} (pass_seen : P → PassSeen) (book_seen : B → BookSeen) where
  pub first_are_made : FirstAreMade pass_seen book_seen
  first_are_made all = first_made pass_seen book_seen all.plan all.plan.runs all.before all.last all.text all.result all.runs

  pub text_is_theirs : TextIsTheirs pass_seen book_seen
  text_is_theirs all memory yard = text_is pass_seen book_seen all.plan all.plan.runs all.before all.last all.text all.result all.runs memory yard

  pub refused_is_told : RefusedIsTold pass_seen book_seen
  refused_is_told all yard = refused_is pass_seen book_seen all.plan all.plan.runs (all_are_runs all.plan all.valid) all.before all.last all.text all.result all.runs yard

  pub none_is_left_out : NoneIsLeftOut pass_seen book_seen
  none_is_left_out all never less = left_out pass_seen book_seen all.plan all.plan.runs all.before all.last all.text all.result all.runs never less

  pub all_sources : SourcesStay pass_seen book_seen
  all_sources all path =
      let arms = runs_counts pass_seen book_seen all.plan all.plan.runs all.before all.last all.text all.result all.runs in
      ap (λ (c : Counts). source_faults c path) arms.1 ∙ sources_stay arms.0 all.before.yard.counts path

  module _ (laws : RunLaws pass_seen book_seen) where
    abbrev StepOf : PlanRuns pass_seen book_seen → Type 0
    StepOf all = Step all.plan all.before.yard.contents (IsTrue all.before.yard.tells.keeps_contents) (made_of pass_seen book_seen all) (is_last all.result ≡ false) all.before all.last

    step_of : (all : PlanRuns pass_seen book_seen) → StepOf all
    step_of all =
        all_steps pass_seen book_seen laws all.plan all.valid all.before.yard.contents (IsTrue all.before.yard.tells.keeps_contents) all.plan.runs (all_are_runs all.plan all.valid) all.before all.last all.text all.result all.runs all.stores
        (record { same = refl; tells = λ k. k })

    pub errors_are : ErrorsAreFindings pass_seen book_seen
    errors_are all = (step_of all).errors

    pub stores_stay : StoresStay pass_seen book_seen
    stores_stay all = (step_of all).stores

    pub contents_stay : ContentsStay pass_seen book_seen
    contents_stay all = ((step_of all).yard.same, all_tells pass_seen book_seen laws all.plan all.valid all.plan.runs all.before all.last all.text all.result all.runs)

    pub others_stay : OtherPathsStay pass_seen book_seen
    others_stay all path apart =
        let stays = (step_of all).others path apart in
        (stays.faults, stays.read, stays.written)

    -- What was done to one store.
    abbrev MovedIn : (all : PlanRuns pass_seen book_seen) → StoreOf pass_seen book_seen all → ℕ → Type 0
    MovedIn all its place =
        Moved all.before.yard.contents (IsTrue all.before.yard.tells.keeps_contents) (is_last all.result ≡ false) its.store (λ number. sum_of number place (made_of pass_seen book_seen all)) all.before.yard.counts all.last.yard.counts its.hand its.back

    moved_of : (all : PlanRuns pass_seen book_seen) (its : StoreOf pass_seen book_seen all) → MovedIn all its its.place
    moved_of all its =
        let Is = HandMoved all.plan all.before.yard.contents (IsTrue all.before.yard.tells.keeps_contents) (is_last all.result ≡ false) (made_of pass_seen book_seen all) all.before.yard.counts all.last.yard.counts in
        let moved = zip_at Is all.before.hands all.last.hands its.place its.hand its.back (step_of all).hands its.went_in its.came_back in
        let at : slice_get (range_with_len 0 (length all.plan.stores)) its.place ≡ Some (place_of its.hand) =
        ap (λ (l : List ℕ). slice_get l its.place) (sym all.stores.places) ∙ get_map place_of all.before.hands its.place its.hand its.went_in in
        let here : place_of its.hand ≡ its.place = omega (arith, range_at 0 (length all.plan.stores) its.place (place_of its.hand) at) in
        subst (λ (n : ℕ). MovedIn all its n) here (moved.moved its.store (ap (λ (n : ℕ). slice_get all.plan.stores n) here ∙ its.its_store))

    pub writes_are : WritesAreEnds pass_seen book_seen
    writes_are all its =
        let moved = moved_of all its in
        (moved.follows, moved.ended)

    pub reads_are : ReadsAreGoodReads pass_seen book_seen
    reads_are all its = (moved_of all its).read

    pub faults_are : FaultsAreArmFaults pass_seen book_seen
    faults_are all its =
        let moved = moved_of all its in
        (moved.failed, moved.none_failed)

    pub good_writes_are : WritesAreGoodWrites pass_seen book_seen
    good_writes_are all its never = (moved_of all its).written never

    pub corrupt_are : CorruptAreBad pass_seen book_seen
    corrupt_are all its never = (moved_of all its).spoilt never

    pub fitting_stays : FittingStaysSo pass_seen book_seen
    fitting_stays all its tells fit =
        let fitted = (moved_of all its).fitted tells fit in
        (subst (λ (k : Kept (List ℕ)). HandFits k its.store its.back) (sym (contents_stay all).0) fitted.0, fitted.1)

    -- One tally and one end for each worker.
    pub one_for_each : OneForEach pass_seen book_seen
    one_for_each all =
        let runs = made_of pass_seen book_seen all in
        all_of_each IsCounted runs (each_from (IsCountedOf all.plan) IsCounted runs (λ one is. is.0) (step_of all).counted)

    none_at : (all : PlanRuns pass_seen book_seen) → IsTrue all.before.yard.tells.keeps_contents → AllFit pass_seen book_seen all → (place : ℕ) → place < length all.plan.stores → sum_of (λ totals. totals.corrupt) place (made_of pass_seen book_seen all) ≡ 0
    none_at all tells fit place below =
        let store = found_at all.plan.stores place below in
        let hand = found_at all.before.hands place (omega (arith, below, as_many all.plan all.before.hands all.stores)) in
        let back = found_at all.last.hands place (omega (arith, below, as_many all.plan all.last.hands (step_of all).stores)) in
        let its : StoreOf pass_seen book_seen all = record { place = place; store = store.0; hand = hand.0; back = back.0; its_store = store.1; went_in = hand.1; came_back = back.1 } in
        (fitting_stays all its tells (fit its)).1

    all_clean : (all : PlanRuns pass_seen book_seen) → IsTrue all.before.yard.tells.keeps_contents → AllFit pass_seen book_seen all → All (λ (one : MadeRun). All (λ (tally : Tallied). tally.numbers.corrupt ≡ 0) one.tallies) (made_of pass_seen book_seen all)
    all_clean all tells fit =
        let runs = made_of pass_seen book_seen all in
        all_from (λ (one : MadeRun). All (λ (tally : Tallied). tally.numbers.corrupt ≡ 0) one.tallies) runs (λ i one at.
        let known = each_at (IsCountedOf all.plan) runs i one (step_of all).counted at in
        clean_run all.plan one known.1 known.0.tally_each (λ place below.
        each_at (λ (o : MadeRun). (totals_in place o).corrupt ≡ 0) runs i one (none_of_total (λ (o : MadeRun). (totals_in place o).corrupt) runs (none_at all tells fit place below)) at))

    pub none_is_corrupt : NoneIsCorrupt pass_seen book_seen
    none_is_corrupt all tells fit =
        let clean = all_clean all tells fit in (
          clean,
          λ corrupt.
              let any = corrupt_is pass_seen book_seen all.plan all.plan.runs all.before all.last all.text all.result all.runs corrupt in
              let none = list_any_none some_corrupt (made_of pass_seen book_seen all) (λ k d within. list_any_none corrupt_tally _ (λ j e inside. ap (nat_lt 0) (clean k d within j e inside))) in
              let so : true ≡ false = sym any ∙ none in cc,
        )

    pub sure_dont_fail : SureArmsDontFail pass_seen book_seen
    sure_dont_fail all sure =
        let runs = made_of pass_seen book_seen all in
        let none = all_sure pass_seen book_seen laws all.plan all.valid all.plan.runs (all_are_runs all.plan all.valid) all.before all.last all.text all.result all.runs all.stores sure in (
          all_of_each NoFaults runs none,
          λ device.
              let found = status_found pass_seen book_seen all.plan all.plan.runs all.before all.last all.text all.result all.runs (ap is_last device) in
              not_device runs none (sym found ∙ device),
        )

    pub findings_told : FindingsAreTold pass_seen book_seen
    findings_told all = all_of_each AreCounted (made_of pass_seen book_seen all) (all_told pass_seen book_seen laws all.plan all.valid all.plan.runs (all_are_runs all.plan all.valid) all.before all.last all.text all.result all.runs all.stores)

    -- The errors before each run.
    below : (plan : Plan) (valid : IsPlan plan) (contents : Kept (List ℕ)) (runs : List RunPlan) → All (IsRunOf plan) runs → (before after : Stage) (text : List ℕ) (result : Status) (them : RunsMade pass_seen book_seen plan runs before after text result) → AreStores plan before.hands → KeepsSame plan contents ⊥ before.yard
        → (i : ℕ) → i < length (all_made pass_seen book_seen plan runs before after text result them) → before.errors + findings_of (take i (all_made pass_seen book_seen plan runs before after text result them)) < plan.data_errors
    below plan valid contents [] are before after text result them stores yard i less = absurd (omega (arith, less))
    below plan valid contents (run ∷ runs) are before after text result (inl limit) stores yard i less = absurd (omega (arith, less))
    below plan valid contents (run ∷ runs) are before after text result (inr (inl (few, says, last))) stores yard zero less = omega (arith, few)
    below plan valid contents (run ∷ runs) are before after text result (inr (inl (few, says, last))) stores yard (suc i) less =
        absurd (omega (arith, less, at_most_one pass_seen book_seen plan run before after text result says.one))
    below plan valid contents (run ∷ runs) are before after text result (inr (inr (few, between, first, rest, one, others, says, last, then, is_text, is))) stores yard zero less = omega (arith, few)
    below plan valid contents (run ∷ runs) are before after text result (inr (inr (few, between, first, rest, one, others, says, last, then, is_text, is))) stores yard (suc i) less =
        let went = went_on pass_seen book_seen plan run before between first one says.one last in
        let now = one_step pass_seen book_seen laws plan valid contents ⊥ run (All-head (IsRunOf plan) run runs are) before between first one says.one stores yard in
        let later = all_made pass_seen book_seen plan runs between after rest others then in
        let less_later : i < length later = omega (arith, less, ap (λ (l : List MadeRun). length (l ++ later)) went.2) in
        let rests = below plan valid contents runs (All-tail (IsRunOf plan) run runs are) between after rest others then now.stores now.yard i less_later in
        let found = ap findings_of went.2 in
        let split = ap (λ (l : List MadeRun). findings_of (take (suc i) (l ++ later))) went.2 in
        omega (arith, rests, now.errors, found, split)

    pub start_below : StartBelowLimit pass_seen book_seen
    start_below all i less =
        below all.plan all.valid all.before.yard.contents all.plan.runs (all_are_runs all.plan all.valid) all.before all.last all.text all.result all.runs all.stores (record { same = refl; tells = λ k. absurd k }) i less
