-- The sentences on what the workers of whole runs drew.
use Rattle.std.proofs.Common.{◌≡◌, ℕ, ◌*◌, ◌^◌, ◌<◌, ◌≤◌, Bool, All, List, [], ◌∷◌, length, map, slice_get, sum_by, sym, ap, subst, ◌∙◌, arith}
use Rattle.std.specs.Prelude.{IsTrue}
use Rattle.std.specs.List.{flat_map}
use Rattle.std.proofs.lemmas.List.{length-map}
use Rattle.std.proofs.lemmas.Option.{same_Some}
use Rattle.vd_arm.specs.Arm.{PassSeen}
use Rattle.vd_yard.specs.Out.{AtArm}
use Rattle.plan_types.specs.Valid.{IsRun}
use Rattle.plan_types.specs.declared.run.WorkerPlan.{WorkerPlan}
use Rattle.plan_types.specs.declared.store.StorePlan.{StorePlan}
use Rattle.key_state.specs.declared.seen.BookSeen.{BookSeen}
use Rattle.claim_table.specs.Openings.{made_with}
use Rattle.claim_table.specs.Sums.{Each, total}
use Rattle.claim_table.specs.Views.{bad}
use Rattle.claim_table.specs.declared.view.Made.{Made}
use Rattle.worker_tally.specs.Tallies.{Tallied}
use Rattle.workload_gen.specs.declared.turn.Turn.{Turn}
use Rattle.slave_worker.specs.Hands.{IsHandOf, OfStore, workers_in}
use Rattle.slave_worker.specs.declared.hand.StoreHand.{StoreHand}
use Rattle.master_run.specs.Labors.{Labor}
use Rattle.run_totals.specs.Drawn.{AllTurnsAddUp, IsDrawn, IsWholeDraw, OneWorkerDoesItsDraw, StillRunsMakeAllTurns, TotalsAreDrawn, TurnsAreFew, WentWell, first_turns, its_shares, turns_made}
use Rattle.run_totals.specs.Whole.{StoreOf, WholeRun, totals_of_store}
use Rattle.run_totals.proofs.Crews.{IsLabor, their_store}
use Rattle.run_totals.proofs.Draws.{Did, DrawLaws, is_drawn, made_by, still_turns, whole_of}
use Rattle.run_totals.proofs.Lists.{all_at, all_from, each_at, each_from, each_of_all, get_of_map, sum_is_total, total_map}
use Rattle.run_totals.proofs.Totals.{their_tallies}
use Rattle.run_totals.proofs.Wholes.{all_of, beginning_of, crew_of, each_is, none_by_book, same_store, totals_are}
use Rattle.run_totals.proofs.Works.{Laws, few_turns}

-- Numbers that are at most so much each, and as much together as they can be, are each as much.
most_long : {A : Type 0} (f : A → ℕ) (most : ℕ) (xs : List A) → Each (λ x. f x ≤ most) xs → total f xs ≤ length xs * most
most_long f most [] each = omega arith
most_long f most (x ∷ xs) each = omega (arith, each.0, most_long f most xs each.1)

pub all_most : {A : Type 0} (f : A → ℕ) (most : ℕ) (xs : List A) → Each (λ x. f x ≤ most) xs → total f xs ≡ length xs * most → Each (λ x. f x ≡ most) xs
all_most f most [] each sum = tt
all_most f most (x ∷ xs) each sum =
    let rest = most_long f most xs each.1 in
    (omega (arith, each.0, rest, sum), all_most f most xs each.1 (omega (arith, each.0, rest, sum)))

module _ {P B : Type 0} (pass_seen : P → PassSeen) (book_seen : B → BookSeen) (laws : Laws) (draws : DrawLaws) where
  -- each labor's turns are few
  each_few : (whole : WholeRun pass_seen book_seen) → Each (λ (labor : Labor). labor.tally.numbers.turns ≤ whole.run.turns) (all_of pass_seen book_seen whole)
  each_few whole =
      each_from (IsLabor whole.plan whole.run (beginning_of pass_seen book_seen whole)) (λ (labor : Labor). labor.tally.numbers.turns ≤ whole.run.turns) (all_of pass_seen book_seen whole)
      (λ labor is. few_turns whole.plan whole.run is.store.id whole.did.start whole.clock_after is.made is.sure labor is.did) (each_is pass_seen book_seen whole)

  -- what holds of each labor's turns holds of each tally's
  of_labors : (whole : WholeRun pass_seen book_seen) (Holds : ℕ → Type 0) → Each (λ (labor : Labor). Holds labor.tally.numbers.turns) (all_of pass_seen book_seen whole) → All (λ (tally : Tallied). Holds tally.numbers.turns) whole.answer.tallies.items
  of_labors whole Holds each =
      all_from (λ (tally : Tallied). Holds tally.numbers.turns) whole.answer.tallies.items (λ i tally at.
      let one = get_of_map (λ (labor : Labor). labor.tally) (all_of pass_seen book_seen whole) i tally (ap (λ (l : List Tallied). slice_get l i) (sym whole.did.tallies) ∙ at) in
      subst (λ (t : Tallied). Holds t.numbers.turns) one.2 (each_at (λ (labor : Labor). Holds labor.tally.numbers.turns) (all_of pass_seen book_seen whole) i one.0 each one.1))

  pub turns_few : TurnsAreFew pass_seen book_seen
  turns_few whole = of_labors whole (λ n. n ≤ whole.run.turns) (each_few whole)

  pub all_turns : AllTurnsAddUp pass_seen book_seen
  all_turns whole sum =
      let all : List Labor = all_of pass_seen book_seen whole in
      let tallies = ap (sum_by (λ (tally : Tallied). tally.numbers.turns)) whole.did.tallies in
      let totals = sum_is_total (λ (tally : Tallied). tally.numbers.turns) (map (λ (labor : Labor). labor.tally) all) ∙ total_map (λ (tally : Tallied). tally.numbers.turns) (λ (labor : Labor). labor.tally) all in
      let many : length all ≡ length whole.run.workers = sym (length-map all (λ (labor : Labor). labor.worker)) ∙ ap length whole.did.workers in
      let times = ap (λ (n : ℕ). n * whole.run.turns) many in
      of_labors whole (λ n. n ≡ whole.run.turns) (all_most (λ (labor : Labor). labor.tally.numbers.turns) whole.run.turns all (each_few whole) (omega (arith, sum, tallies, totals, times)))

  module _ (whole : WholeRun pass_seen book_seen) (its : StoreOf pass_seen book_seen whole) (went : WentWell pass_seen book_seen whole its) where
    labors : List Labor
    labors = (crew_of pass_seen book_seen whole its).labors

    abbrev made : Made
    made = made_with pass_seen book_seen (crew_of pass_seen book_seen whole its).store.id (length (crew_of pass_seen book_seen whole its).labors) its.hand.passes.items its.hand.book

    abbrev sure : Bool
    sure = whole.yard_before.tells.sure AtArm (crew_of pass_seen book_seen whole its).store.path

    dids : Each (Did whole.plan whole.run whole.did.start whole.clock_after made sure) (crew_of pass_seen book_seen whole its).labors
    dids = each_of_all (Did whole.plan whole.run whole.did.start whole.clock_after made sure) (crew_of pass_seen book_seen whole its).labors (crew_of pass_seen book_seen whole its).ran.each

    theirs : Each (λ labor. labor.worker.store ≡ its.hand.store) (crew_of pass_seen book_seen whole its).labors
    theirs = their_store pass_seen book_seen whole.plan whole.run (beginning_of pass_seen book_seen whole) (crew_of pass_seen book_seen whole its).store its.hand its.back (crew_of pass_seen book_seen whole its).labors (crew_of pass_seen book_seen whole its).ran

    -- its book has an entry for each block
    sized : length made.book.now ≡ made.store.geometry.blocks
    sized =
        let of : OfStore whole.plan its.hand.store (λ store. IsHandOf pass_seen book_seen store its.hand) = all_at (λ (hand : StoreHand P B). OfStore whole.plan hand.store (λ store. IsHandOf pass_seen book_seen store hand)) whole.hands its.at its.hand whole.are_hands.each its.went_in in
        of.2.sized ∙ ap (λ (store : StorePlan). store.id.geometry.blocks) (same_Some of.0 (crew_of pass_seen book_seen whole its).store (sym of.1 ∙ (crew_of pass_seen book_seen whole its).its_store))

    -- the turns that its workers made
    made_same : turns_made whole.run made.store.geometry its.hand.store whole.answer.tallies.items ≡ made_by whole.plan whole.run whole.did.start whole.clock_after made sure (crew_of pass_seen book_seen whole its).labors
    made_same =
        ap (λ (l : List (WorkerPlan × Tallied)). flat_map (λ (one : WorkerPlan × Tallied). first_turns whole.run made.store.geometry one.0 one.1.numbers.turns) l)
        (their_tallies its.hand.store (all_of pass_seen book_seen whole) (crew_of pass_seen book_seen whole its).labors whole.run.workers whole.answer.tallies.items whole.did.workers whole.did.tallies (crew_of pass_seen book_seen whole its).own)

    store_drawn : total bad (book_seen its.hand.book).now ≡ 0 → IsDrawn whole.plan.reread (its_shares whole.run made.store.geometry its.hand.store) (turns_made whole.run made.store.geometry its.hand.store whole.answer.tallies.items) (totals_of_store pass_seen book_seen whole its)
    store_drawn none =
        let crew = crew_of pass_seen book_seen whole its in
        subst (λ (turns : List Turn). IsDrawn whole.plan.reread (its_shares whole.run made.store.geometry its.hand.store) turns (totals_of_store pass_seen book_seen whole its)) (sym made_same)
        (is_drawn whole.plan whole.run whole.did.start whole.clock_after made sure draws its.hand.store crew.labors dids theirs (totals_of_store pass_seen book_seen whole its) (totals_are pass_seen book_seen laws whole its)
        (none_by_book pass_seen book_seen laws whole its went.book) went.faults went.corrupt (map pass_seen its.back.passes.items) (book_seen its.back.book) crew.ran.returned sized none)

    store_skips : total bad (book_seen its.hand.book).now ≡ 0 → (totals_of_store pass_seen book_seen whole its).badskip ≡ 0
    store_skips none = (store_drawn none).badskip

    store_whole : total bad (book_seen its.hand.book).now ≡ 0 → (worker : WorkerPlan) → workers_in whole.run its.hand.store ≡ worker ∷ []
        → IsWholeDraw (first_turns whole.run made.store.geometry worker (totals_of_store pass_seen book_seen whole its).turns) (totals_of_store pass_seen book_seen whole its)
    store_whole none worker only =
        let crew = crew_of pass_seen book_seen whole its in
        let own : map (λ (labor : Labor). labor.worker) crew.labors ≡ worker ∷ [] = crew.ran.workers ∙ only in
        let one : length crew.labors ≡ 1 = sym (length-map crew.labors (λ (labor : Labor). labor.worker)) ∙ ap length own in
        whole_of whole.plan whole.run whole.did.start whole.clock_after made sure draws crew.labors dids (totals_of_store pass_seen book_seen whole its) (totals_are pass_seen book_seen laws whole its)
        (none_by_book pass_seen book_seen laws whole its went.book) went.faults went.corrupt (store_skips none) one worker own

    -- Over a clock that stands still each makes all turns.
    still_each : IsTrue whole.clock_after.still → whole.clock_after.last ≡ whole.did.start → whole.did.start < 2 ^ 63 → 1 ≤ whole.run.elapsed → (totals_of_store pass_seen book_seen whole its).turns ≡ (totals_of_store pass_seen book_seen whole its).workers * whole.run.turns
    still_each still began early some =
        let crew = crew_of pass_seen book_seen whole its in
        still_turns whole.plan whole.run whole.did.start whole.clock_after made sure draws its.hand.store crew.labors dids theirs (totals_of_store pass_seen book_seen whole its) (totals_are pass_seen book_seen laws whole its)
        (none_by_book pass_seen book_seen laws whole its went.book) went.faults went.corrupt still began early some

  pub totals_drawn : TotalsAreDrawn pass_seen book_seen
  totals_drawn whole its was =
      subst (λ (store : StorePlan). IsDrawn whole.plan.reread (its_shares whole.run store.id.geometry its.hand.store) (turns_made whole.run store.id.geometry its.hand.store whole.answer.tallies.items) (totals_of_store pass_seen book_seen whole its))
      (same_store pass_seen book_seen laws whole its) (store_drawn whole its was.went was.none_bad)

  pub one_worker : OneWorkerDoesItsDraw pass_seen book_seen
  one_worker whole its was worker only =
      subst (λ (store : StorePlan). IsWholeDraw (first_turns whole.run store.id.geometry worker (totals_of_store pass_seen book_seen whole its).turns) (totals_of_store pass_seen book_seen whole its))
      (same_store pass_seen book_seen laws whole its) (store_whole whole its was.went was.none_bad worker only)

  pub still_all : StillRunsMakeAllTurns pass_seen book_seen
  still_all whole its went still early =
      let looked = whole.did.clock in
      let stays : IsTrue whole.clock_after.still = subst IsTrue (sym looked.still) still in
      let run_is = all_at (IsRun whole.plan.stores) whole.plan.runs whole.is_run.number.0 whole.run whole.is_run.valid.runs whole.is_run.number.1 in
      still_each whole its went stays looked.last (omega (arith, looked.same still, early)) run_is.elapsed.at_least
