-- The sentences on whole runs.
use Rattle.std.proofs.Common.{◌≡◌, ℕ, ◌+◌, ◌-◌, ◌%◌, ◌^◌, ◌<◌, ◌≤◌, ◌==◌, min, true, false, All, List, length, map, Option, Some, None, slice_get, slice_index_or, sym, ap, subst, ◌∙◌, inl, inr, arith}
use Rattle.std.specs.Prelude.{IsTrue}
use Rattle.std.specs.List.{list_any, range_with_len}
use Rattle.std.proofs.lemmas.Bool.{eq-eqb}
use Rattle.std.proofs.lemmas.List.Elements.{filter_passes}
use Rattle.std.proofs.lemmas.List.{length-map}
use Rattle.std.proofs.lemmas.Option.{get_or_from_slice_get, same_Some, slice_get_cases}
use Rattle.vd_arm.specs.Arm.{ArmSeen, PassSeen}
use Rattle.vd_yard.specs.Counts.{Counts, arm_faults, good_reads, good_writes, source_faults}
use Rattle.plan_types.specs.Valid.{IsRun}
use Rattle.plan_types.specs.declared.run.WorkerPlan.{WorkerPlan}
use Rattle.plan_types.specs.declared.store.StorePlan.{StorePlan}
use Rattle.key_state.specs.Entries.{entry_at}
use Rattle.key_state.specs.declared.seen.BookSeen.{BookSeen}
use Rattle.claim_table.specs.Openings.{made_with}
use Rattle.claim_table.specs.Passes.{ArePasses, Fitted, ToldFits}
use Rattle.claim_table.specs.Sums.{Each, total}
use Rattle.claim_table.specs.declared.view.Made.{Made}
use Rattle.claim_table.specs.declared.view.View.{View}
use Rattle.worker_tally.specs.Tallies.{Tallied}
use Rattle.error_limit.specs.Rule.{newest}
use Rattle.slave_worker.specs.Sentences.{all_reads}
use Rattle.slave_worker.specs.declared.did.WorkEnd.{WorkEnd}
use Rattle.slave_worker.specs.declared.did.WorkEnd.TheVariants as work_end
use Rattle.slave_worker.specs.declared.hand.StoreHand.{StoreHand}
use Rattle.master_run.specs.Crews.{Beginning, all_labors, arms_of, path_of}
use Rattle.slave_worker.specs.Hands.{IsHandOf, OfStore, stores_in}
use Rattle.master_run.specs.Labors.{DidWork, Labor}
use Rattle.vd_yard.specs.Out.{AtArm}
use Rattle.run_totals.specs.Sentences.{CorruptAreBad, EndsBy, EndsHaveCauses, ErrorsAreFindings, FaultsAreArmFaults, FindingsAreCounted, Fits, FittingStaysSo, OneForEach, OtherPathsStay, PassesComeBack, ReadsAreGoodReads, SourcesStay, StillClocksDontEnd, SureArmsDontFail, WritesAreEnds, WritesAreGoodWrites}
use Rattle.run_totals.specs.Whole.{NoneByBook, StoreOf, WholeRun, is_by_book, totals_of_store}
use Rattle.run_totals.proofs.Counts.{IsCount, at_path, faults_elsewhere, faults_rise, faults_stay, reads_count, sources_stay, sum_rises, sum_stays, writes_count}
use Rattle.run_totals.proofs.Crews.{CrewOf, IsLabor, all_are, as_many_back, crew_at, of_store, their_store}
use Rattle.run_totals.proofs.Lists.{all_at, all_from, each_at, each_both, each_from, each_kept, each_of_all, each_of_map, filter_at, get_map, get_of_map, none_of_total, sum_is_total, total_map, total_none, total_plus, total_same}
use Rattle.run_totals.proofs.Paths.{HasStore, any_kept, arms_apart, store_sum, total_ones}
use Rattle.run_totals.proofs.Rising.{IsRising, range_rises}
use Rattle.run_totals.proofs.Totals.{AreTotals, are_totals, pairs_of, total_held, total_mod}
use Rattle.run_totals.proofs.Works.{AddUp, Laws, adds_up, ends_by, fits_none, none_failed, not_by_time}

module _ {P B : Type 0} (pass_seen : P → PassSeen) (book_seen : B → BookSeen) where
  abbrev pub beginning_of : WholeRun pass_seen book_seen → Beginning
  beginning_of whole = record { start = whole.did.start; clock = whole.clock_after; tells = whole.yard_before.tells }

  abbrev pub all_of : WholeRun pass_seen book_seen → List Labor
  all_of whole = all_labors whole.did.crews

  -- the run's stores are in order
  in_order : (whole : WholeRun pass_seen book_seen) → IsRising 0 (map (λ (hand : StoreHand P B). hand.store) whole.hands)
  in_order whole = subst (λ (l : List ℕ). IsRising 0 l) (sym whole.are_hands.places) (range_rises (λ store. list_any (λ (worker : WorkerPlan). worker.store == store) whole.run.workers) 0 (length whole.plan.stores))

  abbrev pub Crew : (whole : WholeRun pass_seen book_seen) → StoreOf pass_seen book_seen whole → Type 0
  Crew whole its = CrewOf pass_seen book_seen whole.plan whole.run (beginning_of whole) its.hand its.back whole.did.crews

  pub crew_of : (whole : WholeRun pass_seen book_seen) (its : StoreOf pass_seen book_seen whole) → Crew whole its
  crew_of whole its = crew_at pass_seen book_seen whole.plan whole.run (beginning_of whole) 0 whole.hands whole.did.crews whole.answer.hands.items its.at its.hand its.back (in_order whole) whole.did.ran its.went_in its.came_back

  -- each of its labors is one of the run, and adds up
  pub each_is : (whole : WholeRun pass_seen book_seen) → Each (IsLabor whole.plan whole.run (beginning_of whole)) (all_of whole)
  each_is whole = all_are pass_seen book_seen whole.plan whole.run (beginning_of whole) whole.hands whole.did.crews whole.answer.hands.items whole.did.ran

  all_add_up : Laws → (whole : WholeRun pass_seen book_seen) → Each AddUp (all_of whole)
  all_add_up laws whole =
      each_from (IsLabor whole.plan whole.run (beginning_of whole)) AddUp (all_of whole) (λ labor is. adds_up whole.plan whole.run is.store.id whole.did.start whole.clock_after is.made is.sure laws labor is.did) (each_is whole)

  all_have : (whole : WholeRun pass_seen book_seen) → Each (HasStore whole.plan) (all_of whole)
  all_have whole = each_from (IsLabor whole.plan whole.run (beginning_of whole)) (HasStore whole.plan) (all_of whole) (λ labor is. (is.store, is.its_store)) (each_is whole)

  module _ (laws : Laws) (whole : WholeRun pass_seen book_seen) (its : StoreOf pass_seen book_seen whole) where
    add_up : Each AddUp (crew_of whole its).labors
    add_up = subst (λ (l : List Labor). Each AddUp l) (crew_of whole its).own (each_kept AddUp (of_store its.hand.store) (all_of whole) (all_add_up laws whole))

    pub same_store : (crew_of whole its).store ≡ its.store
    same_store = same_Some (crew_of whole its).store its.store (sym (crew_of whole its).its_store ∙ its.its_store)

    pub totals_are : AreTotals (crew_of whole its).labors (totals_of_store pass_seen book_seen whole its)
    totals_are = are_totals its.hand.store (all_of whole) (crew_of whole its).labors whole.run.workers whole.answer.tallies.items whole.did.workers whole.did.tallies (crew_of whole its).own

    -- what the store's arms add to its path
    path_sum : (count : ArmSeen → ℕ) → total (at_path count its.store.path) (arms_of whole.plan (all_of whole)) ≡ total (λ (labor : Labor). count labor.arm) (crew_of whole its).labors
    path_sum count = store_sum whole.plan whole.is_run.valid.paths its.hand.store its.store its.its_store count (all_of whole) (crew_of whole its).labors (all_have whole) (crew_of whole its).own

    some_labor : 0 < length (crew_of whole its).labors
    some_labor =
        let works = λ (store : ℕ). list_any (λ (worker : WorkerPlan). worker.store == store) whole.run.workers in
        let there : slice_get (stores_in whole.plan whole.run) its.at ≡ Some its.hand.store =
        ap (λ (l : List ℕ). slice_get l its.at) (sym whole.are_hands.places) ∙ get_map (λ (hand : StoreHand P B). hand.store) whole.hands its.at its.hand its.went_in in
        let any : works its.hand.store ≡ true = all_at (λ (store : ℕ). works store ≡ true) (stores_in whole.plan whole.run) its.at its.hand.store (filter_passes works (range_with_len 0 (length whole.plan.stores))) there in
        omega (arith, any_kept (λ (worker : WorkerPlan). worker.store == its.hand.store) whole.run.workers any, ap length (crew_of whole its).ran.workers, length-map (crew_of whole its).labors (λ (labor : Labor). labor.worker))

    -- a count of good blocks rose by what the store's labors add
    count_rises : (shows : Counts → List ℕ → ℕ) (count : ArmSeen → ℕ) → IsCount shows count → shows whole.yard_after.counts its.store.path ≡ (shows whole.yard_before.counts its.store.path + total (λ (labor : Labor). count labor.arm) (crew_of whole its).labors) % 2 ^ 64
    count_rises shows count is_count =
        let some : 0 < total (at_path (λ arm. 1) its.store.path) (arms_of whole.plan (all_of whole)) = omega (arith, path_sum (λ arm. 1), total_ones (crew_of whole its).labors, some_labor) in
        ap (λ (c : Counts). shows c its.store.path) whole.did.yard.counts
        ∙ sum_rises shows count is_count (arms_of whole.plan (all_of whole)) whole.yard_before.counts its.store.path some
        ∙ ap (λ (n : ℕ). (shows whole.yard_before.counts its.store.path + n) % 2 ^ 64) (path_sum count)

    -- where none of its workers ended by its book, none of its labors did
    pub none_by_book : NoneByBook pass_seen book_seen whole its → Each (λ (labor : Labor). is_by_book labor.end ≡ false) (crew_of whole its).labors
    none_by_book none =
        let pairs = pairs_of (λ (labor : Labor). labor.end) (all_of whole) whole.run.workers whole.answer.ends.items whole.did.workers whole.did.ends in
        let each : Each (λ (labor : Labor). labor.worker.store ≡ its.hand.store → is_by_book labor.end ≡ false) (all_of whole) =
        each_of_map (λ (one : WorkerPlan × WorkEnd). one.0.store ≡ its.hand.store → is_by_book one.1 ≡ false) (λ (labor : Labor). (labor.worker, labor.end)) (all_of whole)
        (subst (λ (l : List (WorkerPlan × WorkEnd)). All (λ (one : WorkerPlan × WorkEnd). one.0.store ≡ its.hand.store → is_by_book one.1 ≡ false) l) pairs none) in
        let mine : Each (λ (labor : Labor). labor.worker.store ≡ its.hand.store → is_by_book labor.end ≡ false) (crew_of whole its).labors =
        subst (λ (l : List Labor). Each (λ (labor : Labor). labor.worker.store ≡ its.hand.store → is_by_book labor.end ≡ false) l) (crew_of whole its).own
        (each_kept (λ (labor : Labor). labor.worker.store ≡ its.hand.store → is_by_book labor.end ≡ false) (of_store its.hand.store) (all_of whole) each) in
        each_both (λ (labor : Labor). labor.worker.store ≡ its.hand.store) (λ (labor : Labor). labor.worker.store ≡ its.hand.store → is_by_book labor.end ≡ false) (λ (labor : Labor). is_by_book labor.end ≡ false) (crew_of whole its).labors
        (λ labor is then. then is)
        (their_store pass_seen book_seen whole.plan whole.run (beginning_of whole) (crew_of whole its).store its.hand its.back (crew_of whole its).labors (crew_of whole its).ran) mine

    made : Made
    made = made_with pass_seen book_seen (crew_of whole its).store.id (length (crew_of whole its).labors) its.hand.passes.items its.hand.book

    -- what went in were the passes of the store
    went_in_passes : ArePasses (crew_of whole its).store.id (map pass_seen its.hand.passes.items)
    went_in_passes =
        let of : OfStore whole.plan its.hand.store (λ store. IsHandOf pass_seen book_seen store its.hand) = all_at (λ (hand : StoreHand P B). OfStore whole.plan hand.store (λ store. IsHandOf pass_seen book_seen store hand)) whole.hands its.at its.hand whole.are_hands.each its.went_in in
        subst (λ (store : StorePlan). ArePasses store.id (map pass_seen its.hand.passes.items)) (same_Some of.0 (crew_of whole its).store (sym of.1 ∙ (crew_of whole its).its_store)) of.2.are_passes

    -- where the bytes of its passes fitted, the table was made over fitting bytes
    told_at : (block : ℕ) (pass : PassSeen) → slice_get (map pass_seen its.hand.passes.items) block ≡ Some pass → slice_index_or made.told block None ≡ pass.told
    unfolding made
    told_at block pass at =
        let own = get_of_map pass_seen its.hand.passes.items block pass at in
        let told = get_map (λ (p : P). (pass_seen p).told) its.hand.passes.items block own.0 own.1 in
        get_or_from_slice_get made.told block (pass_seen own.0).told None told ∙ ap (λ (p : PassSeen). p.told) own.2

    fitted : Fits pass_seen book_seen (crew_of whole its).store its.hand → Fitted made
    unfolding made
    fitted fits block within = elim ((slice_get_cases (map pass_seen its.hand.passes.items) block).1) [
      | inl found ↦ subst (λ (told : Option (List ℕ)). ToldFits (crew_of whole its).store.id block (entry_at (book_seen its.hand.book).now block) told) (sym (told_at block found.0 found.2)) (fits block found.0 found.2)
      | inr past ↦ absurd (omega (arith, within, past.0, went_in_passes.many))
    ]

-- Each sentence in turn.
pub writes_are_ends : {P B : Type 0} (pass_seen : P → PassSeen) (book_seen : B → BookSeen) → Laws → WritesAreEnds pass_seen book_seen
writes_are_ends pass_seen book_seen laws whole its =
    let crew = crew_of pass_seen book_seen whole its in
    let wrote = total_map (λ (view : View). length view.wrote) (λ (labor : Labor). labor.view) crew.labors in
    let same = total_same (λ (labor : Labor). labor.tally.numbers.writes) (λ (labor : Labor). length labor.view.wrote) crew.labors (each_from AddUp (λ (labor : Labor). labor.tally.numbers.writes ≡ length labor.view.wrote) crew.labors (λ labor adds. adds.writes) (add_up pass_seen book_seen laws whole its)) in
    let all = totals_are pass_seen book_seen laws whole its in
    (crew.ran.returned.follows, omega (arith, crew.ran.returned.ends, wrote, same, all.writes))

pub reads_are_good : {P B : Type 0} (pass_seen : P → PassSeen) (book_seen : B → BookSeen) → Laws → ReadsAreGoodReads pass_seen book_seen
reads_are_good pass_seen book_seen laws whole its =
    let labors : List Labor = (crew_of pass_seen book_seen whole its).labors in
    let rises = count_rises pass_seen book_seen laws whole its good_reads (λ (arm : ArmSeen). arm.good_reads) reads_count in
    let same = total_mod (λ (labor : Labor). labor.arm.good_reads) (λ (labor : Labor). all_reads labor.tally.numbers) labors (each_from AddUp (λ (labor : Labor). labor.arm.good_reads % 2 ^ 64 ≡ all_reads labor.tally.numbers % 2 ^ 64) labors (λ labor adds. adds.reads) (add_up pass_seen book_seen laws whole its)) in
    let two = total_plus (λ (labor : Labor). labor.tally.numbers.reads) (λ (labor : Labor). labor.tally.numbers.prereads) labors in
    let three = total_plus (λ (labor : Labor). labor.tally.numbers.reads + labor.tally.numbers.prereads) (λ (labor : Labor). labor.tally.numbers.rereads) labors in
    let all = totals_are pass_seen book_seen laws whole its in
    omega (arith, rises, same, two, three, all.reads, all.prereads, all.rereads)

pub faults_are_counted : {P B : Type 0} (pass_seen : P → PassSeen) (book_seen : B → BookSeen) → Laws → FaultsAreArmFaults pass_seen book_seen
faults_are_counted pass_seen book_seen laws whole its =
    let labors : List Labor = (crew_of pass_seen book_seen whole its).labors in
    let adds = add_up pass_seen book_seen laws whole its in
    let all = totals_are pass_seen book_seen laws whole its in
    let sum = path_sum pass_seen book_seen laws whole its (λ (arm : ArmSeen). arm.faults) in
    let after = ap (λ (c : Counts). arm_faults c its.store.path) whole.did.yard.counts in
    let arms = arms_of whole.plan (all_labors whole.did.crews) in
    let rise = faults_rise arms whole.yard_before.counts its.store.path in
    let held = total_held (λ (labor : Labor). labor.arm.faults) (λ (labor : Labor). labor.tally.numbers.faults) labors (each_from AddUp (λ (labor : Labor). min labor.tally.numbers.faults (2 ^ 64 - 1) ≤ labor.arm.faults) labors (λ labor one. one.faults) adds) in (
      omega (arith, rise, sum, held, after, all.faults),
      λ none.
          let each = none_of_total (λ (labor : Labor). labor.tally.numbers.faults) labors (omega (arith, none, all.faults)) in
          let no_faults = total_none (λ (labor : Labor). labor.arm.faults) labors (each_both AddUp (λ (labor : Labor). labor.tally.numbers.faults ≡ 0) (λ (labor : Labor). labor.arm.faults ≡ 0) labors (λ labor one no. one.no_fault no) adds each) in
          after ∙ faults_stay arms whole.yard_before.counts its.store.path (omega (arith, sum, no_faults)),
    )

pub writes_are_good : {P B : Type 0} (pass_seen : P → PassSeen) (book_seen : B → BookSeen) → Laws → WritesAreGoodWrites pass_seen book_seen
writes_are_good pass_seen book_seen laws whole its none =
    let labors : List Labor = (crew_of pass_seen book_seen whole its).labors in
    let rises = count_rises pass_seen book_seen laws whole its good_writes (λ (arm : ArmSeen). arm.good_writes) writes_count in
    let by = none_by_book pass_seen book_seen laws whole its none in
    let each = each_both AddUp (λ (labor : Labor). is_by_book labor.end ≡ false) (λ (labor : Labor). labor.arm.good_writes % 2 ^ 64 ≡ labor.tally.numbers.writes % 2 ^ 64) labors (λ labor adds not_by. adds.good_writes not_by) (add_up pass_seen book_seen laws whole its) by in
    let same = total_mod (λ (labor : Labor). labor.arm.good_writes) (λ (labor : Labor). labor.tally.numbers.writes) labors each in
    let all = totals_are pass_seen book_seen laws whole its in
    omega (arith, rises, same, all.writes)

pub corrupt_are_bad : {P B : Type 0} (pass_seen : P → PassSeen) (book_seen : B → BookSeen) → Laws → CorruptAreBad pass_seen book_seen
corrupt_are_bad pass_seen book_seen laws whole its none =
    let crew = crew_of pass_seen book_seen whole its in
    let by = none_by_book pass_seen book_seen laws whole its none in
    let each = each_both AddUp (λ (labor : Labor). is_by_book labor.end ≡ false) (λ (labor : Labor). labor.tally.numbers.corrupt ≡ length labor.view.spoilt) crew.labors (λ labor adds not_by. adds.corrupt not_by) (add_up pass_seen book_seen laws whole its) by in
    let same = total_same (λ (labor : Labor). labor.tally.numbers.corrupt) (λ (labor : Labor). length labor.view.spoilt) crew.labors each in
    let spoilt = total_map (λ (view : View). length view.spoilt) (λ (labor : Labor). labor.view) crew.labors in
    let all = totals_are pass_seen book_seen laws whole its in
    omega (arith, crew.ran.returned.spoilt, spoilt, same, all.corrupt)

pub fitting_stays : {P B : Type 0} (pass_seen : P → PassSeen) (book_seen : B → BookSeen) → Laws → FittingStaysSo pass_seen book_seen
unfolding made
fitting_stays pass_seen book_seen laws whole its fits =
    let crew = crew_of pass_seen book_seen whole its in
    let is = same_store pass_seen book_seen laws whole its in
    let fit : Fitted (made pass_seen book_seen laws whole its) = fitted pass_seen book_seen laws whole its (subst (λ (store : StorePlan). Fits pass_seen book_seen store its.hand) (sym is) fits) in
    let back : Fits pass_seen book_seen crew.store its.back = λ block pass at. (crew.ran.returned.each block pass at).fits fit in
    let none = total_none (λ (labor : Labor). labor.tally.numbers.corrupt) crew.labors
    (each_from (DidWork whole.plan whole.run crew.store.id whole.did.start whole.clock_after (made pass_seen book_seen laws whole its) (whole.yard_before.tells.sure AtArm crew.store.path)) (λ (labor : Labor). labor.tally.numbers.corrupt ≡ 0) crew.labors
    (λ labor did. fits_none whole.plan whole.run crew.store.id whole.did.start whole.clock_after (made pass_seen book_seen laws whole its) (whole.yard_before.tells.sure AtArm crew.store.path) labor did fit)
    (each_of_all (DidWork whole.plan whole.run crew.store.id whole.did.start whole.clock_after (made pass_seen book_seen laws whole its) (whole.yard_before.tells.sure AtArm crew.store.path)) crew.labors crew.ran.each)) in
    let all = totals_are pass_seen book_seen laws whole its in
    (subst (λ (store : StorePlan). Fits pass_seen book_seen store its.back) is back, all.corrupt ∙ none)

pub passes_come_back : {P B : Type 0} (pass_seen : P → PassSeen) (book_seen : B → BookSeen) → Laws → PassesComeBack pass_seen book_seen
passes_come_back pass_seen book_seen laws whole its =
    let crew = crew_of pass_seen book_seen whole its in
    let are : ArePasses crew.store.id (map pass_seen its.back.passes.items) = record {
      many = crew.ran.returned.many;
      each = λ block pass at. ((crew.ran.returned.each block pass at).of, (crew.ran.returned.each block pass at).sized);
    } in
    (crew.ran.same, subst (λ (store : StorePlan). ArePasses store.id (map pass_seen its.back.passes.items)) (same_store pass_seen book_seen laws whole its) are)

-- a labor's worker stands at its place in the run
worker_at : {P B : Type 0} (pass_seen : P → PassSeen) (book_seen : B → BookSeen) (whole : WholeRun pass_seen book_seen) (i : ℕ) (labor : Labor) → slice_get (all_labors whole.did.crews) i ≡ Some labor → slice_get whole.run.workers i ≡ Some labor.worker
worker_at pass_seen book_seen whole i labor at =
    ap (λ (l : List WorkerPlan). slice_get l i) (sym whole.did.workers) ∙ get_map (λ (one : Labor). one.worker) (all_labors whole.did.crews) i labor at

pub other_paths_stay : {P B : Type 0} (pass_seen : P → PassSeen) (book_seen : B → BookSeen) → OtherPathsStay pass_seen book_seen
other_paths_stay pass_seen book_seen whole path never =
    let all = all_labors whole.did.crews in
    let have = all_have pass_seen book_seen whole in
    let apart = each_of_all (λ (labor : Labor). path ≡ path_of (slice_get whole.plan.stores labor.worker.store) → ⊥) all
    (all_from (λ (labor : Labor). path ≡ path_of (slice_get whole.plan.stores labor.worker.store) → ⊥) all (λ i labor at same.
    let has : HasStore whole.plan labor = each_at (HasStore whole.plan) all i labor have at in
    never labor.worker has.0 i (worker_at pass_seen book_seen whole i labor at) has.1 (sym (same ∙ ap path_of has.1)))) in
    let arms = arms_of whole.plan all in
    let elsewhere = arms_apart whole.plan path all apart in
    let after = whole.did.yard.counts in (
      ap (λ (c : Counts). arm_faults c path) after ∙ faults_elsewhere arms whole.yard_before.counts path elsewhere,
      ap (λ (c : Counts). good_reads c path) after ∙ sum_stays good_reads (λ (arm : ArmSeen). arm.good_reads) reads_count arms whole.yard_before.counts path elsewhere,
      ap (λ (c : Counts). good_writes c path) after ∙ sum_stays good_writes (λ (arm : ArmSeen). arm.good_writes) writes_count arms whole.yard_before.counts path elsewhere,
    )

pub all_sources_stay : {P B : Type 0} (pass_seen : P → PassSeen) (book_seen : B → BookSeen) → SourcesStay pass_seen book_seen
all_sources_stay pass_seen book_seen whole path = ap (λ (c : Counts). source_faults c path) whole.did.yard.counts ∙ sources_stay (arms_of whole.plan (all_labors whole.did.crews)) whole.yard_before.counts path

pub errors_are : {P B : Type 0} (pass_seen : P → PassSeen) (book_seen : B → BookSeen) → Laws → ErrorsAreFindings pass_seen book_seen
errors_are pass_seen book_seen laws whole =
    let all = all_labors whole.did.crews in
    let adds = all_add_up pass_seen book_seen laws whole in
    let long = λ (tally : Tallied). length tally.findings in
    let notes = total_same (λ (labor : Labor). labor.notes) (λ (labor : Labor). length labor.tally.findings) all (each_from AddUp (λ (labor : Labor). labor.notes ≡ length labor.tally.findings) all (λ labor one. one.notes) adds) in
    let sum = sum_is_total long whole.answer.tallies.items in
    let tallies = ap (λ (l : List Tallied). total long l) whole.did.tallies in
    let told = total_map long (λ (labor : Labor). labor.tally) all in (
      omega (arith, whole.did.errors, notes, sum, tallies, told),
      all_from FindingsAreCounted whole.answer.tallies.items (λ i tally at.
          let one = get_of_map (λ (labor : Labor). labor.tally) all i tally (ap (λ (l : List Tallied). slice_get l i) (sym whole.did.tallies) ∙ at) in
          subst FindingsAreCounted one.2 (each_at AddUp all i one.0 adds one.1).found),
    )

pub sure_dont_fail : {P B : Type 0} (pass_seen : P → PassSeen) (book_seen : B → BookSeen) → Laws → SureArmsDontFail pass_seen book_seen
sure_dont_fail pass_seen book_seen laws whole sure =
    let all = all_labors whole.did.crews in
    let adds = all_add_up pass_seen book_seen laws whole in
    let each = each_is pass_seen book_seen whole in
    all_from (λ (tally : Tallied). tally.numbers.faults ≡ 0) whole.answer.tallies.items (λ i tally at.
    let one = get_of_map (λ (labor : Labor). labor.tally) all i tally (ap (λ (l : List Tallied). slice_get l i) (sym whole.did.tallies) ∙ at) in
    let is = each_at (IsLabor whole.plan whole.run (beginning_of pass_seen book_seen whole)) all i one.0 each one.1 in
    let its_sure : IsTrue is.sure = subst IsTrue (sym is.is_sure) (sure one.0.worker.store is.store is.its_store) in
    let none = none_failed whole.plan whole.run is.store.id whole.did.start whole.clock_after is.made is.sure one.0 is.did its_sure in
    let held : min one.0.tally.numbers.faults (2 ^ 64 - 1) ≤ one.0.arm.faults = (each_at AddUp all i one.0 adds one.1).faults in
    subst (λ (t : Tallied). t.numbers.faults ≡ 0) one.2 (omega (arith, held, none)))

pub one_for_each : {P B : Type 0} (pass_seen : P → PassSeen) (book_seen : B → BookSeen) → OneForEach pass_seen book_seen
one_for_each pass_seen book_seen whole =
    let all = all_labors whole.did.crews in
    let workers = ap length whole.did.workers in
    let many = length-map all (λ (labor : Labor). labor.worker) in
    let tallies = length-map all (λ (labor : Labor). labor.tally) in
    let ends = length-map all (λ (labor : Labor). labor.end) in
    let back = as_many_back pass_seen book_seen whole.plan whole.run (beginning_of pass_seen book_seen whole) whole.hands whole.did.crews whole.answer.hands.items whole.did.ran in
    (omega (arith, workers, many, tallies, ap length whole.did.tallies), omega (arith, workers, many, ends, ap length whole.did.ends), back)

pub ends_have_causes : {P B : Type 0} (pass_seen : P → PassSeen) (book_seen : B → BookSeen) → Laws → EndsHaveCauses pass_seen book_seen
unfolding made
ends_have_causes pass_seen book_seen laws whole its i worker tally end at of_its at_tally at_end =
    let all = all_labors whole.did.crews in
    let crew = crew_of pass_seen book_seen whole its in
    let one = get_of_map (λ (labor : Labor). labor.worker) all i worker (ap (λ (l : List WorkerPlan). slice_get l i) whole.did.workers ∙ at) in
    let labor : Labor = one.0 in
    let is_tally : labor.tally ≡ tally = same_Some labor.tally tally (sym (get_map (λ (l : Labor). l.tally) all i labor one.1) ∙ ap (λ (l : List Tallied). slice_get l i) (sym whole.did.tallies) ∙ at_tally) in
    let is_end : labor.end ≡ end = same_Some labor.end end (sym (get_map (λ (l : Labor). l.end) all i labor one.1) ∙ ap (λ (l : List WorkEnd). slice_get l i) (sym whole.did.ends) ∙ at_end) in
    let its_own : labor.worker.store ≡ its.hand.store = ap (λ (w : WorkerPlan). w.store) one.2 ∙ of_its in
    let there = filter_at (of_store its.hand.store) all i labor one.1 (eq-eqb labor.worker.store its.hand.store its_own) in
    let at_own : slice_get crew.labors there.0 ≡ Some labor = ap (λ (l : List Labor). slice_get l there.0) (sym crew.own) ∙ there.1 in
    let did : DidWork whole.plan whole.run crew.store.id whole.did.start whole.clock_after (made pass_seen book_seen laws whole its) (whole.yard_before.tells.sure AtArm crew.store.path) labor =
    all_at (DidWork whole.plan whole.run crew.store.id whole.did.start whole.clock_after (made pass_seen book_seen laws whole its) (whole.yard_before.tells.sure AtArm crew.store.path)) crew.labors there.0 labor crew.ran.each at_own in
    let shuts = each_at (λ (view : View). view.shut ≡ true → (book_seen its.back.book).shut ≡ true) (map (λ (l : Labor). l.view) crew.labors) there.0 labor.view crew.ran.returned.shut (get_map (λ (l : Labor). l.view) crew.labors there.0 labor at_own) in
    let under = all_at (λ (l : Labor). newest l.answers ≤ whole.answer.errors) all i labor whole.did.last one.1 in
    let by : EndsBy pass_seen book_seen whole.plan whole.run whole.answer.errors labor.tally (book_seen its.back.book) labor.end =
    ends_by whole.plan whole.run crew.store.id whole.did.start whole.clock_after (made pass_seen book_seen laws whole its) (whole.yard_before.tells.sure AtArm crew.store.path) labor did pass_seen book_seen whole.answer.errors (book_seen its.back.book) under shuts in
    subst (λ (e : WorkEnd). EndsBy pass_seen book_seen whole.plan whole.run whole.answer.errors tally (book_seen its.back.book) e) is_end
    (subst (λ (t : Tallied). EndsBy pass_seen book_seen whole.plan whole.run whole.answer.errors t (book_seen its.back.book) labor.end) is_tally by)

pub still_clocks : {P B : Type 0} (pass_seen : P → PassSeen) (book_seen : B → BookSeen) → StillClocksDontEnd pass_seen book_seen
still_clocks pass_seen book_seen whole still early last =
    let all = all_labors whole.did.crews in
    let looked = whole.did.clock in
    let stays : IsTrue whole.clock_after.still = subst IsTrue (sym looked.still) still in
    let began = looked.same still in
    let run_is = all_at (IsRun whole.plan.stores) whole.plan.runs whole.is_run.number.0 whole.run whole.is_run.valid.runs whole.is_run.number.1 in
    let each = each_is pass_seen book_seen whole in
    all_from (λ (end : WorkEnd). end ≡ work_end.TimeUp last → ⊥) whole.answer.ends.items (λ i end at by_time.
    let one = get_of_map (λ (labor : Labor). labor.end) all i end (ap (λ (l : List WorkEnd). slice_get l i) (sym whole.did.ends) ∙ at) in
    let is = each_at (IsLabor whole.plan whole.run (beginning_of pass_seen book_seen whole)) all i one.0 each one.1 in
    not_by_time whole.plan whole.run is.store.id whole.did.start whole.clock_after is.made is.sure one.0 is.did stays looked.last (omega (arith, began, early)) run_is.elapsed.at_least last (one.2 ∙ by_time))
