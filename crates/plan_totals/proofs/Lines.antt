-- What the total lines of one run have to do with its workers' draws.
use Rattle.std.proofs.Common.{◌≡◌, ◌∙◌, refl, sym, ap, subst, arith, ℕ, ◌*◌, ◌^◌, ◌<◌, ◌≤◌, ◌==◌, Bool, true, false, IsTrue, List, [], ◌∷◌, length, map, Some, slice_get}
use Rattle.std.specs.List.{filter, list_any, zip}
use Rattle.std.proofs.lemmas.Bool.{eq-eqb}
use Rattle.std.proofs.lemmas.Option.{slice_get_within}
use Rattle.vd_base.specs.Geometry.{Shape}
use Rattle.vd_arm.specs.Arm.{PassSeen}
use Rattle.vd_yard.specs.Yard.{YardSeen}
use Rattle.plan_types.specs.Valid.{IsPlan, IsRun, IsWorker}
use Rattle.plan_types.specs.declared.plan.Plan.{Plan}
use Rattle.plan_types.specs.declared.run.RunPlan.{RunPlan}
use Rattle.plan_types.specs.declared.run.WorkerPlan.{WorkerPlan}
use Rattle.plan_types.specs.declared.store.StorePlan.{StorePlan}
use Rattle.key_state.specs.declared.seen.BookSeen.{BookSeen}
use Rattle.claim_table.specs.Sums.{Each, total}
use Rattle.claim_table.specs.Views.{bad}
use Rattle.worker_tally.specs.Tallies.{Tallied}
use Rattle.slave_worker.specs.Hands.{HandSeen, IsRunOf, hand_seen, workers_in, works_in}
use Rattle.slave_worker.specs.declared.hand.RunAnswer.{RunAnswer}
use Rattle.run_report.specs.Runs.{is_of, totals_of}
use Rattle.run_report.specs.declared.run_sums.Group.TheVariants as group
use Rattle.run_report.specs.declared.status.Status.TheVariants as status
use Rattle.run_totals.specs.Drawn.{AllTurnsAddUp, IsDrawn, IsWholeDraw, OneWorkerDoesItsDraw, StillRunsMakeAllTurns, TotalsAreDrawn, TurnsAreFew, WasWell, WentWell, first_turns, its_shares, turns_made}
use Rattle.run_totals.specs.Whole.{WholeRun}
use Rattle.run_totals.specs.Whole.{StoreOf as RunStore}
use Rattle.run_totals.proofs.Drawn.{all_most}
use Rattle.run_totals.proofs.Lists.{all_at, all_from, each_at, each_kept, each_of_all, filter_at, get_map, get_of_map, sum_is_total}
use Rattle.plan_hands.specs.Openings.{Opened, not_needed, opened, was_open}
use Rattle.plan_hands.specs.Stores.{AreStores, book_of, place_of}
use Rattle.plan_runs.specs.Books.{books_status}
use Rattle.plan_runs.specs.Stages.{RunMade, Stage, is_last, made_status}
use Rattle.plan_runs.specs.Statuses.{tallies_status}
use Rattle.plan_runs.proofs.Parted.{as_many}
use Rattle.plan_totals.specs.Drawn.{AllTurnsMade, LineIsDrawn, TurnsAreTold, all_turns}
use Rattle.plan_totals.specs.Made.{MadeRun, made_run, totals_in}
use Rattle.plan_totals.proofs.Books.{unmet}
use Rattle.plan_totals.proofs.Clean.{zip_get}
use Rattle.plan_totals.proofs.Good.{FoundNothing, found_nothing, good_worse, no_corrupt, no_faults}
use Rattle.plan_totals.proofs.Running.{RunLaws, by_none, its_open, whole}
use Rattle.plan_totals.proofs.Slaves.{Worked, each_second, slaves_add_up}
use Rattle.plan_totals.proofs.Turns.{idle_line, made_all}
use Rattle.plan_totals.proofs.Wholes.{found_at}
use Rattle.plan_totals.proofs.Zips.{range_at, zip_at}

-- what is known of the draws of one run
pub record RunDraws {P B : Type 0} (pass_seen : P → PassSeen) (book_seen : B → BookSeen) : Type 0 where
  pub drawn : TotalsAreDrawn pass_seen book_seen
  pub one_worker : OneWorkerDoesItsDraw pass_seen book_seen
  pub few : TurnsAreFew pass_seen book_seen
  pub all_turns : AllTurnsAddUp pass_seen book_seen
  pub still : StillRunsMakeAllTurns pass_seen book_seen

-- Opening passes leaves a hand's book as it was.
same_book : (plan : Plan) (run : RunPlan) (yard : YardSeen) (x y : HandSeen) → Opened plan run yard x y → book_of y ≡ book_of x
same_book plan run yard x y (opened works closed (store, is, has)) = has.book
same_book plan run yard x y (was_open some is) = ap book_of is
same_book plan run yard x y (not_needed works is) = ap book_of is

-- the place of the hand at a place
pub placed : (plan : Plan) (hands : List HandSeen) (place : ℕ) (hand : HandSeen) → AreStores plan hands → slice_get hands place ≡ Some hand → place_of hand ≡ place
placed plan hands place hand stores at =
    omega (arith, range_at 0 (length plan.stores) place (place_of hand) (ap (λ (l : List ℕ). slice_get l place) (sym stores.places) ∙ get_map place_of hands place hand at))

-- A worker of a list is one of those that a test finds.
some_worker : (place : ℕ) (workers : List WorkerPlan) (i : ℕ) (worker : WorkerPlan) → slice_get workers i ≡ Some worker → (worker.store == place) ≡ true → list_any (λ (w : WorkerPlan). w.store == place) workers ≡ true
some_worker place workers i worker at is = by_test (list_any (λ (w : WorkerPlan). w.store == place) workers) refl
  where
    by_test : (b : Bool) → list_any (λ (w : WorkerPlan). w.store == place) workers ≡ b → list_any (λ (w : WorkerPlan). w.store == place) workers ≡ true
    by_test true any = any
    by_test false none = absurd (let so : true ≡ false = sym is ∙ each_at (λ (w : WorkerPlan). (w.store == place) ≡ false) workers i worker (unmet (λ (w : WorkerPlan). w.store == place) workers none) at in cc)

-- the turns of workers, each of whom made so many
total_all : {A : Type 0} (f : A → ℕ) (most : ℕ) (xs : List A) → Each (λ x. f x ≡ most) xs → total f xs ≡ length xs * most
total_all f most [] each = omega arith
total_all f most (x ∷ xs) each = omega (arith, each.0, total_all f most xs each.1)

all_turns_of : (worked : List Worked) (most : ℕ) → (totals_of worked).turns ≡ (totals_of worked).workers * most → total (λ (w : Worked). w.1.numbers.turns) worked ≡ length worked * most
unfolding totals_of
all_turns_of worked most all = sym (sum_is_total (λ (w : Worked). w.1.numbers.turns) worked) ∙ all

-- No block of the store at a place is bad.
abbrev pub NoneBad : ℕ → List HandSeen → Type 0
NoneBad place hands = (hand : HandSeen) → slice_get hands place ≡ Some hand → total bad (book_of hand).now ≡ 0

module _ {P B : Type 0} (pass_seen : P → PassSeen) (book_seen : B → BookSeen) (laws : RunLaws pass_seen book_seen) (draws : RunDraws pass_seen book_seen) (plan : Plan) (valid : IsPlan plan) (run : RunPlan) (is_run : IsRunOf plan run) (before after : Stage) (answer : RunAnswer P B)
    (m : RunMade pass_seen book_seen plan run before after answer) (stores : AreStores plan before.hands)
  where
    abbrev one : MadeRun
    one = made_run pass_seen book_seen run answer

    abbrev GoesOn : Type 0
    GoesOn = is_last (made_status pass_seen book_seen run answer) ≡ false

    abbrev whole_run : WholeRun pass_seen book_seen
    whole_run = whole pass_seen book_seen laws plan valid before.yard.contents ⊥ run is_run before after answer m stores (record { same = refl; tells = λ k. absurd k }) GoesOn (λ is. is)

    many : length one.tallies ≡ length run.workers
    many = (laws.one_each whole_run).0

    -- the turns of its workers
    pub turns_told : TurnsAreTold one
    turns_told = record {
      few = draws.few whole_run;
      all = λ all. draws.all_turns whole_run (sym (slaves_add_up plan one is_run many) ∙ all);
    }

    all_lines : (shape : Shape) (place : ℕ) → AllTurnsMade one → turns_made run shape place one.tallies ≡ all_turns run shape place
    all_lines shape place all = made_all run shape place run.workers one.tallies many (each_of_all (λ (tally : Tallied). tally.numbers.turns ≡ run.turns) one.tallies (turns_told.all all))

    -- A store at a place that works: its hand in the run, with the book that it had before.
    record Working (place : ℕ) (store : StorePlan) : Type 0 where
      pub its : RunStore pass_seen book_seen whole_run
      pub here : its.hand.store ≡ place
      pub same : its.store ≡ store
      pub hand : HandSeen
      pub had : slice_get before.hands place ≡ Some hand
      pub book : book_seen its.hand.book ≡ book_of hand

    working : (place : ℕ) (store : StorePlan) → slice_get plan.stores place ≡ Some store → works_in run place ≡ true → Working place store
    working place store at works =
        let are = its_open pass_seen book_seen laws plan valid before.yard.contents ⊥ run is_run before after answer m stores (record { same = refl; tells = λ k. absurd k }) GoesOn (λ is. is) in
        let below = slice_get_within plan.stores place store at in
        let old = found_at before.hands place (omega (arith, below, as_many plan before.hands stores)) in
        let ready = found_at m.ready.hands place (omega (arith, below, as_many plan m.ready.hands are.stores)) in
        let its_place = placed plan m.ready.hands place ready.0 are.stores ready.1 in
        let book = same_book plan run before.yard old.0 ready.0 (zip_at (Opened plan run before.yard) before.hands m.ready.hands place old.0 ready.0 m.is_ready.opened old.1 ready.1) in
        let chosen = filter_at (λ (hand : HandSeen). works_in run (place_of hand)) m.ready.hands place ready.0 ready.1 (ap (works_in run) its_place ∙ works) in
        let went = get_of_map (hand_seen pass_seen book_seen) m.hands chosen.0 ready.0 (ap (λ (l : List HandSeen). slice_get l chosen.0) m.its ∙ chosen.1) in
        let back = found_at answer.hands.items chosen.0 (omega (arith, slice_get_within m.hands chosen.0 went.0 went.1, (laws.one_each whole_run).2)) in
        let here : went.0.store ≡ place = ap place_of went.2 ∙ its_place in
        record {
          its = record { at = chosen.0; hand = went.0; back = back.0; store = store; went_in = went.1; came_back = back.1; its_store = ap (λ (n : ℕ). slice_get plan.stores n) here ∙ at };
          here = here;
          same = refl;
          hand = old.0;
          had = old.1;
          book = ap book_of went.2 ∙ book;
        }

    module _ (good : made_status pass_seen book_seen run answer ≡ status.Good) where
      pub nothing_found : Each FoundNothing one.tallies
      nothing_found = found_nothing one.tallies (good_worse (books_status run answer.ends.items (map (hand_seen pass_seen book_seen) answer.hands.items)) (tallies_status one.tallies) good).1

      went_well : (its : RunStore pass_seen book_seen whole_run) → WentWell pass_seen book_seen whole_run its
      went_well its = record {
        faults = no_faults its.hand.store one nothing_found;
        corrupt = no_corrupt its.hand.store one nothing_found;
        book = by_none pass_seen book_seen laws plan valid before.yard.contents ⊥ run is_run before after answer m stores (record { same = refl; tells = λ k. absurd k }) GoesOn (λ is. is) its (ap is_last good);
      }

      -- the line of a store that works
      busy_line : (place : ℕ) (store : StorePlan) → Working place store → NoneBad place before.hands → LineIsDrawn plan.reread store.id.geometry place one
      busy_line place store work none =
          let was : WasWell pass_seen book_seen whole_run work.its = record { went = went_well work.its; none_bad = ap (λ (b : BookSeen). total bad b.now) work.book ∙ none work.hand work.had } in
          record {
            drawn =
                subst (λ (s : StorePlan). IsDrawn plan.reread (its_shares run s.id.geometry place) (turns_made run s.id.geometry place one.tallies) (totals_in place one)) work.same
                (subst (λ (n : ℕ). IsDrawn plan.reread (its_shares run work.its.store.id.geometry n) (turns_made run work.its.store.id.geometry n one.tallies) (totals_in n one)) work.here
                (draws.drawn whole_run work.its was));
            all_made = all_lines store.id.geometry place;
            alone = λ worker only.
                subst (λ (s : StorePlan). IsWholeDraw (first_turns run s.id.geometry worker (totals_in place one).turns) (totals_in place one)) work.same
                (subst (λ (n : ℕ). IsWholeDraw (first_turns run work.its.store.id.geometry worker (totals_in n one).turns) (totals_in n one)) work.here
                (draws.one_worker whole_run work.its was worker (ap (workers_in run) work.here ∙ only)));
          }

      pub line_drawn : (place : ℕ) (store : StorePlan) → slice_get plan.stores place ≡ Some store → NoneBad place before.hands → LineIsDrawn plan.reread store.id.geometry place one
      line_drawn place store at none = by_work (works_in run place) refl
        where
          by_work : (b : Bool) → works_in run place ≡ b → LineIsDrawn plan.reread store.id.geometry place one
          by_work true works = busy_line place store (working place store at works) none
          by_work false rests = idle_line plan.reread store.id.geometry place one rests (all_lines store.id.geometry place)

      -- Over a clock that stands still each worker makes all turns of the run.
      module _ (still : IsTrue before.clock.still) (early : before.clock.last < 2 ^ 63) where
        full_at : (i : ℕ) (worker : WorkerPlan) (tally : Tallied) → slice_get run.workers i ≡ Some worker → slice_get one.tallies i ≡ Some tally → tally.numbers.turns ≡ run.turns
        full_at i worker tally at_worker at_tally =
            let run_is = all_at (IsRun plan.stores) plan.runs is_run.number.0 run is_run.valid.runs is_run.number.1 in
            let store = found_at plan.stores worker.store (all_at (IsWorker plan.stores run.slaves) run.workers i worker run_is.workers at_worker).store in
            let work = working worker.store store.0 store.1 (some_worker worker.store run.workers i worker at_worker (eq-eqb worker.store worker.store refl)) in
            let all = subst (λ (n : ℕ). (totals_in n one).turns ≡ (totals_in n one).workers * run.turns) work.here (draws.still whole_run work.its (went_well work.its) still early) in
            let kept = filter (λ (w : Worked). is_of (group.Store worker.store) w.0) (zip run.workers one.tallies) in
            let few = each_kept (λ (w : Worked). w.1.numbers.turns ≤ run.turns) (λ (w : Worked). is_of (group.Store worker.store) w.0) (zip run.workers one.tallies)
            (each_second (λ (t : Tallied). t.numbers.turns ≤ run.turns) run.workers one.tallies (each_of_all (λ (t : Tallied). t.numbers.turns ≤ run.turns) one.tallies turns_told.few)) in
            let each = all_most (λ (w : Worked). w.1.numbers.turns) run.turns kept few (all_turns_of kept run.turns all) in
            let mine = filter_at (λ (w : Worked). is_of (group.Store worker.store) w.0) (zip run.workers one.tallies) i (worker, tally) (zip_get run.workers one.tallies i worker tally at_worker at_tally) (eq-eqb worker.store worker.store refl) in
            each_at (λ (w : Worked). w.1.numbers.turns ≡ run.turns) kept mine.0 (worker, tally) each mine.1

        full : Each (λ (tally : Tallied). tally.numbers.turns ≡ run.turns) one.tallies
        full = each_of_all (λ (tally : Tallied). tally.numbers.turns ≡ run.turns) one.tallies
            (all_from (λ (tally : Tallied). tally.numbers.turns ≡ run.turns) one.tallies (λ i tally at.
            let worker = found_at run.workers i (omega (arith, many, slice_get_within one.tallies i tally at)) in
            full_at i worker.0 tally worker.1 at))

        pub turns_full : AllTurnsMade one
        turns_full = slaves_add_up plan one is_run many ∙ sum_is_total (λ (tally : Tallied). tally.numbers.turns) one.tallies ∙ total_all (λ (tally : Tallied). tally.numbers.turns) run.turns one.tallies full ∙ ap (λ (n : ℕ). n * run.turns) many
