-- What one run did to a plan's stage.
use Rattle.std.proofs.Common.{◌≡◌, ◌∙◌, refl, sym, ap, subst, arith, ℕ, ◌+◌, ◌-◌, ◌%◌, ◌^◌, ◌≤◌, ◌==◌, ◌||◌, min, cond, Bool, true, false, List, [], ◌∷◌, length, map, Option, Some, None, slice_get}
use Rattle.std.specs.List.{AllZip, filter, list_any, zip}
use Rattle.std.proofs.lemmas.Bool.{eq-eqb}
use Rattle.std.proofs.lemmas.Option.{same_Some}
use Rattle.vd_base.specs.declared.geometry.StoreId.{StoreId}
use Rattle.vd_arm.specs.Arm.{PassSeen}
use Rattle.vd_yard.specs.Counts.{Counts, arm_faults, good_reads, good_writes}
use Rattle.vd_yard.specs.Kept.{Kept}
use Rattle.plan_types.specs.Valid.{IsPlan}
use Rattle.plan_types.specs.declared.plan.Plan.{Plan}
use Rattle.plan_types.specs.declared.run.RunPlan.{RunPlan}
use Rattle.plan_types.specs.declared.run.WorkerPlan.{WorkerPlan}
use Rattle.plan_types.specs.declared.store.StorePlan.{StorePlan}
use Rattle.key_state.specs.Entries.{entry_at}
use Rattle.key_state.specs.declared.entry.Entry.{Entry}
use Rattle.key_state.specs.declared.seen.BookSeen.{BookSeen}
use Rattle.claim_table.specs.Passes.{ToldFits}
use Rattle.worker_tally.specs.Tallies.{Tallied}
use Rattle.slave_worker.specs.Hands.{AreHands, HandSeen, IsHandOf, IsRunOf, OfStore, hand_seen, works_in}
use Rattle.slave_worker.specs.declared.hand.RunAnswer.{RunAnswer}
use Rattle.slave_worker.specs.declared.hand.StoreHand.{StoreHand}
use Rattle.master_run.specs.Crews.{Beginning}
use Rattle.run_report.specs.Runs.{is_of, totals_of}
use Rattle.run_report.specs.declared.run_sums.Group.TheVariants as group
use Rattle.run_report.specs.declared.run_sums.Totals.{Totals}
use Rattle.run_totals.specs.Sentences.{CorruptAreBad, ErrorsAreFindings, FaultsAreArmFaults, FittingStaysSo, OneForEach, OtherPathsStay, PassesComeBack, ReadsAreGoodReads, SureArmsDontFail, WritesAreEnds, WritesAreGoodWrites}
use Rattle.run_totals.specs.Whole.{NoneByBook, WholeRun, totals_of_store}
use Rattle.run_totals.specs.Whole.{StoreOf as RunStore}
use Rattle.run_totals.proofs.Lists.{all_at, each_at, each_of_all, get_map, get_of_map}
use Rattle.run_totals.proofs.Stores.{one_path}
use Rattle.plan_hands.specs.Stores.{AreStores, of_run, place_of}
use Rattle.plan_runs.specs.Books.{books_status, met_end}
use Rattle.plan_runs.specs.Ready.{AreOpen, CameBack}
use Rattle.plan_runs.specs.Stages.{RunMade, Stage, is_last, made_status}
use Rattle.plan_runs.specs.Statuses.{tallies_status}
use Rattle.plan_runs.proofs.Opened.{are_open, some_blocks}
use Rattle.plan_runs.proofs.Parted.{are_hands}
use Rattle.plan_runs.proofs.Returned.{all_back, joined_back, stores_back}
use Rattle.plan_totals.specs.Made.{MadeRun, made_run, sum_of}
use Rattle.plan_totals.specs.Sentences.{OpenFit, TellsFit}
use Rattle.plan_totals.proofs.Books.{last_worse, none_by_book, unmet, well_at}
use Rattle.plan_totals.proofs.Moves.{AreNone, HandMoved, Moved, PathStays, moved_none, rose_as, rose_of, rose_same, stays_same, stays_then}
use Rattle.plan_totals.proofs.Opening.{opened_all}
use Rattle.plan_totals.proofs.Steps.{HandsMoved, KeepsSame, Step, hands_then, keeps_still}
use Rattle.plan_totals.proofs.Zips.{in_step, zip_from}

-- what is known of one run
pub record RunLaws {P B : Type 0} (pass_seen : P → PassSeen) (book_seen : B → BookSeen) : Type 0 where
  pub writes : WritesAreEnds pass_seen book_seen
  pub reads : ReadsAreGoodReads pass_seen book_seen
  pub faults : FaultsAreArmFaults pass_seen book_seen
  pub good_writes : WritesAreGoodWrites pass_seen book_seen
  pub corrupt : CorruptAreBad pass_seen book_seen
  pub fits : FittingStaysSo pass_seen book_seen
  pub passes : PassesComeBack pass_seen book_seen
  pub others : OtherPathsStay pass_seen book_seen
  pub errors : ErrorsAreFindings pass_seen book_seen
  pub one_each : OneForEach pass_seen book_seen
  pub sure : SureArmsDontFail pass_seen book_seen
  pub sizes : (pass : P) (bytes : List ℕ) → (pass_seen pass).told ≡ Some bytes → length bytes ≡ (pass_seen pass).size

-- What tells bytes of a whole block that fit, tells such that fit, and the other way round where it tells no others.
told_fits : (store : StoreId) (block : ℕ) (entry : Entry) (told : Option (List ℕ)) → TellsFit store block entry told → ToldFits store block entry told
told_fits store block entry None fits = absurd fits
told_fits store block entry (Some bytes) fits = fits.1

tells_fit : (store : StoreId) (block : ℕ) (entry : Entry) (told : Option (List ℕ)) → ((bytes : List ℕ) → told ≡ Some bytes → length bytes ≡ store.geometry.block_size) → ToldFits store block entry told → TellsFit store block entry told
tells_fit store block entry None long fits = absurd fits
tells_fit store block entry (Some bytes) long fits = (long bytes refl, fits)

-- A store without a worker has no totals.
pub none_here : (place : ℕ) (workers : List WorkerPlan) (tallies : List Tallied) → list_any (λ (worker : WorkerPlan). worker.store == place) workers ≡ false → filter (λ (one : WorkerPlan × Tallied). is_of (group.Store place) one.0) (zip workers tallies) ≡ []
none_here place [] [] none = refl
none_here place [] (tally ∷ tallies) none = refl
none_here place (worker ∷ workers) [] none = refl
none_here place (worker ∷ workers) (tally ∷ tallies) none = first (worker.store == place) refl (none_here place workers tallies)
  where
    first : (b : Bool) → (worker.store == place) ≡ b → (list_any (λ (w : WorkerPlan). w.store == place) workers ≡ false → filter (λ (one : WorkerPlan × Tallied). is_of (group.Store place) one.0) (zip workers tallies) ≡ [])
        → filter (λ (one : WorkerPlan × Tallied). is_of (group.Store place) one.0) (zip (worker ∷ workers) (tally ∷ tallies)) ≡ []
    first true is rest = absurd (let so : true ≡ false = sym (ap (λ (b : Bool). b || list_any (λ (w : WorkerPlan). w.store == place) workers) is) ∙ none in cc)
    first false is rest =
        ap (λ (b : Bool). cond b ((worker, tally) ∷ filter (λ (one : WorkerPlan × Tallied). is_of (group.Store place) one.0) (zip workers tallies)) (filter (λ (one : WorkerPlan × Tallied). is_of (group.Store place) one.0) (zip workers tallies))) is
        ∙ rest (sym (ap (λ (b : Bool). b || list_any (λ (w : WorkerPlan). w.store == place) workers) is) ∙ none)

nothing : (number : Totals → ℕ) (worked : List (WorkerPlan × Tallied)) → worked ≡ [] → number (totals_of []) ≡ 0 → number (totals_of worked) + 0 ≡ 0
nothing number worked is none = omega (arith, none, ap (λ (l : List (WorkerPlan × Tallied)). number (totals_of l)) is)

no_totals : AreNone (λ number. number (totals_of []))
unfolding totals_of
no_totals = record { writes = refl; reads = refl; faults = refl; corrupt = refl }

are_none : (place : ℕ) (one : MadeRun) → works_in one.run place ≡ false → AreNone (λ number. sum_of number place (one ∷ []))
are_none place one none =
    let is = none_here place one.run.workers one.tallies none in
    let kept = filter (λ (w : WorkerPlan × Tallied). is_of (group.Store place) w.0) (zip one.run.workers one.tallies) in
    record {
      writes = nothing (λ totals. totals.writes) kept is no_totals.writes;
      reads = nothing (λ totals. totals.reads + totals.prereads + totals.rereads) kept is no_totals.reads;
      faults = nothing (λ totals. totals.faults) kept is no_totals.faults;
      corrupt = nothing (λ totals. totals.corrupt) kept is no_totals.corrupt;
    }

-- The worker at a place of the list isn't one of a store that has none.
not_among : (place : ℕ) (workers : List WorkerPlan) (i : ℕ) (worker : WorkerPlan) → list_any (λ (w : WorkerPlan). w.store == place) workers ≡ false → slice_get workers i ≡ Some worker → worker.store ≡ place → ⊥
not_among place workers i worker none at is =
    let never = each_at (λ (w : WorkerPlan). (w.store == place) ≡ false) workers i worker (unmet (λ (w : WorkerPlan). w.store == place) workers none) at in
    let so : true ≡ false = sym (eq-eqb worker.store place is) ∙ never in cc

module _ {P B : Type 0} (pass_seen : P → PassSeen) (book_seen : B → BookSeen) (laws : RunLaws pass_seen book_seen) (plan : Plan) (valid : IsPlan plan) (contents : Kept (List ℕ)) (keeps : Type 0) (run : RunPlan) (is_run : IsRunOf plan run) (before after : Stage) (answer : RunAnswer P B)
    (m : RunMade pass_seen book_seen plan run before after answer) (stores : AreStores plan before.hands) (yard : KeepsSame plan contents keeps before.yard) (well : Type 0) (is_well : well → is_last (made_status pass_seen book_seen run answer) ≡ false)
  where
    abbrev seen : StoreHand P B → HandSeen
    seen hand = hand_seen pass_seen book_seen hand

    abbrev one : MadeRun
    one = made_run pass_seen book_seen run answer

    pub its_open : AreOpen plan run m.ready.hands
    its_open = are_open plan valid run before.yard before.hands m.ready.hands stores m.is_ready.opened

    pub its_hands : AreHands pass_seen book_seen plan run m.hands
    its_hands = are_hands pass_seen book_seen plan run m.hands m.ready.hands its_open m.its

    abbrev pub whole : WholeRun pass_seen book_seen
    whole = record {
      plan = plan;
      run = run;
      errors_before = before.errors;
      yard_before = m.ready.yard;
      yard_after = after.yard;
      clock_before = before.clock;
      clock_after = after.clock;
      hands = m.hands;
      answer = answer;
      is_run = is_run;
      are_hands = its_hands;
      did = m.did;
    }

    abbrev Its : Type 0
    Its = RunStore pass_seen book_seen whole

    -- A store that works: its hand as the law of one run says.
    pub by_none : (its : Its) → well → NoneByBook pass_seen book_seen whole its
    by_none its is =
        let hands = map (hand_seen pass_seen book_seen) answer.hands.items in
        let not_last = (last_worse (books_status run answer.ends.items hands) (tallies_status answer.tallies.items) (is_well is)).0 in
        let at = well_at run answer.ends.items hands its.at (seen its.back) not_last (get_map (hand_seen pass_seen book_seen) answer.hands.items its.at its.back its.came_back) in
        none_by_book pass_seen book_seen whole its at.0 (ap (λ (n : ℕ). met_end n run.workers answer.ends.items) (sym (laws.passes whole its).0) ∙ at.1)

    moved_run : (its : Its) → Moved contents keeps well its.store (λ number. sum_of number its.hand.store (one ∷ [])) m.ready.yard.counts after.yard.counts (seen its.hand) (seen its.back)
    moved_run its =
        let old : Counts = m.ready.yard.counts in
        let new : Counts = after.yard.counts in
        let path : List ℕ = its.store.path in
        let ends : ℕ = (book_seen its.hand.book).ends in
        let totals : Totals = totals_of_store pass_seen book_seen whole its in
        let writes = laws.writes whole its in
        let read_is : good_reads new path ≡ (good_reads old path + totals.reads + totals.prereads + totals.rereads) % 2 ^ 64 = laws.reads whole its in
        let faults : (min (arm_faults old path + totals.faults) (2 ^ 64 - 1) ≤ arm_faults new path) × (totals.faults ≡ 0 → arm_faults new path ≡ arm_faults old path) = laws.faults whole its in
        record {
          follows = writes.0;
          ended = rose_of totals.writes (totals.writes + 0) ends (book_seen its.back.book).ends (omega arith) (rose_as totals.writes ends (book_seen its.back.book).ends writes.1);
          read =
              rose_of (totals.reads + totals.prereads + totals.rereads) (totals.reads + totals.prereads + totals.rereads + 0) (good_reads old path) (good_reads new path) (omega arith)
              (rose_as (totals.reads + totals.prereads + totals.rereads) (good_reads old path) (good_reads new path) (omega (arith, read_is)));
          failed = omega (arith, faults.0);
          none_failed = λ none. faults.1 (omega (arith, none));
          written = λ is. rose_of totals.writes (totals.writes + 0) (good_writes old path) (good_writes new path) (omega arith) (rose_as totals.writes (good_writes old path) (good_writes new path) (laws.good_writes whole its (by_none its is)));
          spoilt = λ is. omega (arith, laws.corrupt whole its (by_none its is));
          fitted = λ tells fit.
              let told = λ (block : ℕ) (pass : PassSeen) (at : slice_get (map pass_seen its.hand.passes.items) block ≡ Some pass). told_fits its.store.id block (entry_at (book_seen its.hand.book).now block) pass.told (fit.0 block pass at) in
              let fits = laws.fits whole its told in
              let passes = laws.passes whole its in
              let tell : OpenFit its.store (seen its.back) = λ block pass at.
              tells_fit its.store.id block (entry_at (book_seen its.back.book).now block) pass.told (λ bytes is.
              let own = get_of_map pass_seen its.back.passes.items block pass at in
              laws.sizes own.0 bytes (ap (λ (p : PassSeen). p.told) own.2 ∙ is) ∙ ap (λ (p : PassSeen). p.size) own.2 ∙ (passes.1.each block pass at).1) (fits.0 block pass at) in
              ((tell, λ none. absurd (omega (arith, ap length none, passes.1.many, some_blocks plan valid its.hand.store its.store its.its_store))), omega (arith, fits.1));
        }

    worked : (i : ℕ) (hand back : StoreHand P B) → slice_get m.hands i ≡ Some hand → slice_get answer.hands.items i ≡ Some back → HandMoved plan contents keeps well (one ∷ []) m.ready.yard.counts after.yard.counts (seen hand) (seen back)
    worked i hand back at_hand at_back =
        let of : OfStore plan hand.store (λ (store : StorePlan). IsHandOf pass_seen book_seen store hand) =
        all_at (λ (h : StoreHand P B). OfStore plan h.store (λ (store : StorePlan). IsHandOf pass_seen book_seen store h)) m.hands i hand its_hands.each at_hand in
        let its : Its = record { at = i; hand = hand; back = back; store = of.0; went_in = at_hand; came_back = at_back; its_store = of.1 } in
        record {
          place = (laws.passes whole its).0;
          moved = λ store at.
              subst (λ (s : StorePlan). Moved contents keeps well s (λ number. sum_of number hand.store (one ∷ [])) m.ready.yard.counts after.yard.counts (seen hand) (seen back)) (same_Some of.0 store (sym of.1 ∙ at)) (moved_run its);
        }

    -- The counts of a path that is no store's of the run.
    elsewhere : (path : List ℕ) → ((i : ℕ) (worker : WorkerPlan) (store : StorePlan) → slice_get run.workers i ≡ Some worker → slice_get plan.stores worker.store ≡ Some store → store.path ≡ path → ⊥) → PathStays m.ready.yard.counts after.yard.counts path
    elsewhere path never =
        let stays = laws.others whole path (λ worker store i at_worker at_store same. never i worker store at_worker at_store same) in
        record {
          faults = stays.0;
          read = rose_same 0 (good_reads m.ready.yard.counts path) (good_reads after.yard.counts path) refl stays.1;
          written = rose_same 0 (good_writes m.ready.yard.counts path) (good_writes after.yard.counts path) refl stays.2;
        }

    -- A store that doesn't.
    rested : (hand : HandSeen) → works_in run (place_of hand) ≡ false → HandMoved plan contents keeps well (one ∷ []) m.ready.yard.counts after.yard.counts hand hand
    rested hand rests = record {
      place = refl;
      moved = λ store at.
          moved_none contents keeps store well (λ number. sum_of number (place_of hand) (one ∷ [])) m.ready.yard.counts after.yard.counts hand hand (are_none (place_of hand) one rests)
          (elsewhere store.path (λ i worker other at_worker at_other same.
          not_among (place_of hand) run.workers i worker rests at_worker (one_path plan.stores valid.paths worker.store (place_of hand) other store at_other at same)))
          refl (λ tells fit. fit);
    }

    hands_ran : HandsMoved plan contents keeps well (one ∷ []) m.ready.yard.counts after.yard.counts m.ready.hands after.hands
    hands_ran =
        let Is = HandMoved plan contents keeps well (one ∷ []) m.ready.yard.counts after.yard.counts in
        let zipped = zip_from Is (hand_seen pass_seen book_seen) (hand_seen pass_seen book_seen) m.hands answer.hands.items (laws.one_each whole).2 worked in
        let chosen : AllZip Is (of_run run m.ready.hands) (of_run run after.hands) =
        subst (λ (l : List HandSeen). AllZip Is l (of_run run after.hands)) m.its (subst (λ (l : List HandSeen). AllZip Is (map (hand_seen pass_seen book_seen) m.hands) l) (sym m.joins.its) zipped) in
        in_step (works_in run) Is rested m.ready.hands after.hands (its_open.stores.places ∙ sym m.joins.in_order) chosen (sym m.joins.others)

    stores_after : AreStores plan after.hands
    stores_after =
        let start : Beginning = record { start = m.did.start; clock = after.clock; tells = m.ready.yard.tells } in
        let back : CameBack plan (map (hand_seen pass_seen book_seen) m.hands) (map (hand_seen pass_seen book_seen) answer.hands.items) =
        all_back pass_seen book_seen plan run valid start m.hands m.did.crews answer.hands.items m.did.ran
        (each_of_all (λ (hand : StoreHand P B). OfStore plan hand.store (λ (store : StorePlan). IsHandOf pass_seen book_seen store hand)) m.hands its_hands.each) in
        let joined = joined_back plan run (length plan.stores) (map (hand_seen pass_seen book_seen) m.hands) (map (hand_seen pass_seen book_seen) answer.hands.items) m.ready.hands after.hands m.its (m.joins.in_order ∙ sym its_open.stores.places) m.joins back in
        stores_back plan m.ready.hands after.hands joined its_open.stores

    pub ran_step : Step plan contents keeps (one ∷ []) well before after
    ran_step =
        let opens = m.is_ready.opens in
        let same = λ (path : List ℕ). stays_same before.yard.counts m.ready.yard.counts path opens.counts in
        record {
          stores = stores_after;
          yard = keeps_still plan contents keeps before.yard after.yard (m.did.yard.same.contents ∙ opens.contents) (m.did.yard.same.tells ∙ opens.tells) yard;
          counted = ((record { tally_each = (laws.one_each whole).0; end_each = (laws.one_each whole).1 }, is_run), tt);
          errors = omega (arith, m.errors, (laws.errors whole).0);
          hands =
              hands_then plan contents keeps well well well [] (one ∷ []) before.yard.counts m.ready.yard.counts after.yard.counts before.hands m.ready.hands after.hands (λ is. is) (λ is. is)
              (opened_all plan valid contents keeps run before.yard yard well before.yard.counts m.ready.yard.counts same before.hands m.ready.hands m.is_ready.opened) hands_ran;
          others = λ path apart.
              stays_then before.yard.counts m.ready.yard.counts after.yard.counts path (same path)
              (elsewhere path (λ i worker store at_worker at_store is. apart worker.store store at_store is));
        }
