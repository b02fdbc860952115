-- Runs over recovered journals, whose stores were verified.
use Rattle.std.proofs.Common.{◌≡◌, ◌∙◌, refl, sym, ap, subst, arith, inl, inr, ◌⊎◌, ℕ, suc, ◌+◌, IsTrue, List, [], ◌∷◌, length, map}
use Rattle.std.specs.Prelude.{◌≢◌, Some, count_by, slice_get}
use Rattle.vd_outside.specs.Clocks.{ClockSeen}
use Rattle.vd_arm.specs.Arm.{PassSeen}
use Rattle.vd_disk.specs.Disk.{DiskSeen}
use Rattle.vd_yard.specs.Kept.{Kept, kept_at}
use Rattle.vd_yard.specs.Out.{AtArm}
use Rattle.vd_yard.specs.Yard.{Tells, YardSeen}
use Rattle.plan_types.specs.Valid.{IsPlan}
use Rattle.plan_types.specs.declared.plan.Plan.{Plan}
use Rattle.plan_types.specs.declared.store.StorePlan.{StorePlan}
use Rattle.key_state.specs.Entries.{entry_at}
use Rattle.key_state.specs.declared.entry.Entry.{Entry}
use Rattle.key_state.specs.declared.seen.BookSeen.{BookSeen}
use Rattle.slave_worker.specs.Hands.{HandSeen}
use Rattle.journal_recover.specs.declared.found.Recovered.{Recovered}
use Rattle.recover_run.specs.Looks.{is_corrupt}
use Rattle.recover_run.specs.declared.look.Look.{Look}
use Rattle.run_report.specs.Says.{Printing}
use Rattle.run_report.specs.declared.status.Status.{Status}
use Rattle.run_report.specs.declared.status.Status.TheVariants as status
use Rattle.run_totals.proofs.Lists.{get_map}
use Rattle.still_plan.specs.Journals.{RecoversTo}
use Rattle.still_plan.specs.Stores.{all_looks, looks_status}
use Rattle.plan_hands.specs.Stores.{AreStores}
use Rattle.plan_journals.specs.Closing.{WentWell}
use Rattle.plan_journals.specs.Open.{AreFrom, AreOpenedNow, AreStartsOf, Start}
use Rattle.plan_journals.proofs.Books.{opened_from, paths_apart}
use Rattle.plan_reopened.specs.Recovering.{AreRecovered}
use Rattle.plan_reopened.specs.Reopening.{AllReopened, next_starts}
use Rattle.plan_runs.specs.Stages.{Stage, stage}
use Rattle.plan_runs.proofs.Opened.{some_blocks}
use Rattle.plan_verified.specs.Laws.{FitAsBefore, FitWhereAllRead}
use Rattle.plan_verified.specs.Stores.{LeaveStores, StoreSeen, is_stop, settled_of}
use Rattle.plan_verified.specs.Stores as verified_store
use Rattle.plan_journaled.specs.Laws.{ClosedRecovers}
use Rattle.plan_journaled.specs.Over.{RunsClosed}
use Rattle.plan_resumed.specs.Going.{GoesOn}
use Rattle.plan_resumed.specs.Going as going
use Rattle.plan_resumed.specs.Resumed.{HaveRecovered, HaveVerified, RunsResumed}
use Rattle.plan_resumed.specs.Resumed as resumed
use Rattle.plan_resumed.specs.Seating.{with_passes}
use Rattle.plan_totals.specs.Made.{PlanRuns}
use Rattle.plan_totals.specs.Sentences.{AllFit, DataFits, HandFits, TellsFit}
use Rattle.plan_kept.specs.Clean.{GoingFindsNone, ResumedFindsNone}
use Rattle.plan_kept.specs.Fits.{FitsItsJournal, KeptFits}
use Rattle.plan_kept.specs.Laws.{OldDataFits, OldIsSound}
use Rattle.plan_kept.proofs.Fitting.{Laws, closing_not, kept_fits, memory_not, refusal_not, refusal_unwell, seat_there, told_on}
use Rattle.plan_kept.proofs.Looks.{AllFound, looks_clean, none_of_all, verify_as}
use Rattle.plan_kept.proofs.Seats.{SeatAt, are_starts, left_at, long_left, now_at, recovered_at, seat_at, seated_books}
use Rattle.plan_kept.proofs.Settled.{settled_fit}
use Rattle.plan_kept.proofs.Unwell.{journals_unwell, reopen_unwell, stop_unwell, unwell_not, well_after, worse_not}
use Rattle.plan_kept.proofs.Clean.{stores_clean}

-- ---- what verification found and left
found_by : (yard : YardSeen) (stores : List StorePlan) (disks : List DiskSeen) (found : List Recovered) → AreRecovered yard stores disks found
    → ((place : ℕ) (store : StorePlan) → slice_get stores place ≡ Some store → FitsItsJournal yard store) → AllFound yard stores found
found_by yard [] [] [] all fit = tt
found_by yard (store ∷ stores) (disk ∷ disks) (here ∷ found) all fit =
    (all.0.recovers, fit 0 store refl here all.0.recovers, found_by yard stores disks found all.1 (λ place other at. fit (suc place) other at))
found_by yard [] [] (here ∷ found) all fit = absurd all
found_by yard [] (disk ∷ disks) found all fit = absurd all
found_by yard (store ∷ stores) [] found all fit = absurd all
found_by yard (store ∷ stores) (disk ∷ disks) [] all fit = absurd all

pub moved_one : (a b : YardSeen) (store : StorePlan) (here : Recovered) → b.disks ≡ a.disks → b.tells ≡ a.tells → RecoversTo a store here → RecoversTo b store here
moved_one a b store here disks tells it = record {
  gives = λ disk kept. it.gives disk (ap (λ (k : Kept DiskSeen). kept_at k store.journal) (sym disks) ∙ kept);
  there = λ keeps none. it.there (subst (λ (t : Tells). IsTrue t.keeps_disks) tells keeps) (ap (λ (k : Kept DiskSeen). kept_at k store.journal) (sym disks) ∙ none);
  usable = it.usable;
  fit = it.fit;
}

-- The same over a yard that keeps the same and tells the same.
moved : (a b : YardSeen) (stores : List StorePlan) (found : List Recovered) → b.contents ≡ a.contents → b.disks ≡ a.disks → b.tells ≡ a.tells → AllFound a stores found → AllFound b stores found
moved a b [] [] contents disks tells all = tt
moved a b (store ∷ stores) (here ∷ found) contents disks tells all =
    (moved_one a b store here disks tells all.0, subst (λ (k : Kept (List ℕ)). DataFits k store here.entries.items) (sym contents) all.1, moved a b stores found contents disks tells all.2)
moved a b [] (here ∷ found) contents disks tells all = absurd all
moved a b (store ∷ stores) [] contents disks tells all = absurd all

-- Going on ends by no status of 0, 1 and 2 by which the runs don't.
module _ {P B : Type 0} (pass_seen : P → PassSeen) (book_seen : B → BookSeen) (plan : Plan) (disks : List DiskSeen) (starts : List Start) (left : List StoreSeen) (verified : YardSeen) (told : Printing) (clock : ClockSeen) (after : Stage) (text : List ℕ) (result : Status) where
  pub goes_not : (this : Status) → WentWell this
      → ((books : List BookSeen) (printed : Printing) → AllReopened verified verified starts [] books told printed → AreStores plan (with_passes left books) → (rest : List ℕ)
      → (closed : RunsClosed pass_seen book_seen plan (stage (with_passes left books) verified clock 0 printed) after rest result) → closed.work ≢ this)
      → GoesOn pass_seen book_seen plan disks starts left (stage [] verified clock 0 told) after text result → result ≢ this
  goes_not this well runs (going.went_on books printed opens on stores rest closed texts) =
      subst (λ (s : Status). s ≢ this) (sym closed.is) (closing_not this closed.work closed.closing well closed.answers (runs books printed opens stores rest closed))
  goes_not this well runs (going.unseated books printed opens on unused clock_is texts memory) = memory_not this result well memory
  goes_not this well runs (going.stopped books opened printed why stops on leaves same unused clock_is texts ends) =
      subst (λ (s : Status). s ≢ this) (sym ends) (refusal_not this why unused.closing well unused.answers (unwell_not this why well (reopen_unwell _ _ _ _ _ why stops.stop)))
  goes_not this well runs (going.not_begun given clock_is texts memory) = memory_not this result well memory

module _ {P B : Type 0} (pass_seen : P → PassSeen) (book_seen : B → BookSeen) (laws : Laws pass_seen book_seen) (readable : FitWhereAllRead) (before_law : FitAsBefore) (plan : Plan) (valid : IsPlan plan) (before : Stage) (found : List Recovered) (recovered : YardSeen) (said : Printing) (have : HaveRecovered plan before found recovered said)
    (seen : List (List Look)) (left : List StoreSeen) (verified : YardSeen) (told : Printing) (looked : HaveVerified plan found seen left recovered said verified told) (tells : IsTrue before.yard.tells.keeps_contents)
  where
    tells_recovered : IsTrue recovered.tells.keeps_contents
    tells_recovered = told_on before.yard.tells recovered.tells have.leaves.tells tells

    -- What a store's passes tell fits its book as the journal is opened again.
    again_fits : (starts : List Start) (books : List BookSeen) → starts ≡ next_starts plan.stores found (map settled_of left) → AreOpenedNow verified starts books
        → (place : ℕ) (store : StorePlan) (hand : HandSeen) → slice_get plan.stores place ≡ Some store → slice_get (with_passes left books) place ≡ Some hand
        → FitsItsJournal before.yard store ⊎ IsTrue (before.yard.tells.sure AtArm store.path) → HandFits verified.contents store hand
    again_fits starts books is opened place store hand at went fit =
        let seat : SeatAt left books place (0 + place) hand = seat_at 0 left books place hand went in
        let own = left_at recovered verified plan.stores found seen left looked.each place store seat.one at seat.its_store in
        let gives : RecoversTo before.yard store own.here = recovered_at before.yard plan.stores have.disks found have.each place store own.here at own.its_own in
        let gives_still : RecoversTo recovered store own.here = moved_one before.yard recovered store own.here have.same have.leaves.tells gives in
        let now : seat.book.now ≡ settled_of seat.one =
        now_at verified plan.stores found (map settled_of left) books (subst (λ (l : List Start). AreOpenedNow verified l books) is opened) place (settled_of seat.one) seat.book (get_map settled_of left place seat.one seat.its_store) seat.its_book in
        let fits : (RecoversTo recovered store own.here × DataFits recovered.contents store own.here.entries.items) ⊎ IsTrue (recovered.tells.sure AtArm store.path) = elim fit [
          | inl its ↦ inl (gives_still, subst (λ (k : Kept (List ℕ)). DataFits k store own.here.entries.items) (sym have.leaves.contents) (its own.here gives))
          | inr sure ↦ inr (subst (λ (t : Tells). IsTrue (t.sure AtArm store.path)) (sym have.leaves.tells) sure)
        ] in
        let tell = settled_fit recovered verified store own.here own.looks seat.one own.leaves tells_recovered readable before_law fits in
        let one : HandSeen = (0 + place, verified_store.passes_of seat.one, seat.book) in
        let here : HandFits verified.contents store one = (
          λ block pass there. subst (λ (l : List Entry). TellsFit store.id block (entry_at l block) pass.told) (sym now) (tell block pass there),
          λ none. absurd (omega (arith, ap length none, own.leaves.theirs.blocks.as_many, some_blocks plan valid place store at)),
        ) in
        subst (λ (h : HandSeen). HandFits verified.contents store h) (sym seat.is) here

    looks_none : ((place : ℕ) (store : StorePlan) → slice_get plan.stores place ≡ Some store → FitsItsJournal before.yard store) → count_by is_corrupt (all_looks seen) ≡ 0
    looks_none fit =
        let all = found_by before.yard plan.stores have.disks found have.each fit in
        none_of_all recovered verified plan.stores found seen tells_recovered (verify_as recovered verified plan.stores found seen left looked.each) (moved before.yard recovered plan.stores found have.leaves.contents have.same have.leaves.tells all)

    module _ (starts : List Start) (is : starts ≡ next_starts plan.stores found (map settled_of left)) (clock : ClockSeen) (after : Stage) (text : List ℕ) (result : Status) where
      abbrev pub Went : Type 0
      Went = GoesOn pass_seen book_seen plan have.disks starts left (stage [] verified clock 0 told) after text result

      opened_now : (books : List BookSeen) (printed : Printing) → AllReopened verified verified starts [] books told printed → AreOpenedNow verified starts books
      opened_now books printed opens = subst (AreOpenedNow verified starts) (sym opens.books) opens.opened

      tells_verified : IsTrue verified.tells.keeps_contents
      tells_verified = told_on recovered.tells verified.tells looked.stays.tells tells_recovered

      goes_clean : ((place : ℕ) (store : StorePlan) → slice_get plan.stores place ≡ Some store → FitsItsJournal before.yard store) → Went → result ≢ status.Corrupt
      goes_clean fit = goes_not pass_seen book_seen plan have.disks starts left verified told clock after text result status.Corrupt tt (λ books printed opens stores rest closed.
          let all : PlanRuns pass_seen book_seen = record { plan = plan; before = stage (with_passes left books) verified clock 0 printed; last = closed.last; text = closed.runs_text; result = closed.work; valid = valid; stores = stores; runs = closed.made } in
          let fits : AllFit pass_seen book_seen all = λ its. again_fits starts books is (opened_now books printed opens) its.place its.store its.hand its.its_store its.went_in (inl (fit its.place its.store its.its_store)) in
          (laws.clean all tells_verified fits).1)

      goes_none : ((place : ℕ) (store : StorePlan) → slice_get plan.stores place ≡ Some store → FitsItsJournal before.yard store)
          → (went : Went) → GoingFindsNone pass_seen book_seen plan have.disks starts left (stage [] verified clock 0 told) after text result went
      goes_none fit (going.went_on books printed opens on stores rest closed texts) =
          let all : PlanRuns pass_seen book_seen = record { plan = plan; before = stage (with_passes left books) verified clock 0 printed; last = closed.last; text = closed.runs_text; result = closed.work; valid = valid; stores = stores; runs = closed.made } in
          let fits : AllFit pass_seen book_seen all = λ its. again_fits starts books is (opened_now books printed opens) its.place its.store its.hand its.its_store its.went_in (inl (fit its.place its.store its.its_store)) in
          (laws.clean all tells_verified fits).0
      goes_none fit (going.unseated books printed opens on unused clock_is texts memory) = tt
      goes_none fit (going.stopped books opened printed why stops on leaves same unused clock_is texts ends) = tt
      goes_none fit (going.not_begun given clock_is texts memory) = tt

      goes_fits : ClosedRecovers → Went → WentWell result → IsTrue before.yard.tells.keeps_disks → (place : ℕ) (store : StorePlan) → slice_get plan.stores place ≡ Some store
          → FitsItsJournal before.yard store ⊎ IsTrue (before.yard.tells.sure AtArm store.path) → KeptFits after.yard store
      goes_fits recovers (going.went_on books printed opens on stores rest closed texts) well disks place store at fit =
          let opened = opened_now books printed opens in
          let are : AreStartsOf plan.stores starts = subst (AreStartsOf plan.stores) (sym is) (are_starts plan.stores found (map settled_of left) recovered verified seen left looked.each refl) in
          let still : IsTrue verified.tells.keeps_disks = subst (λ (t : Tells). IsTrue t.keeps_disks) (sym (looked.stays.tells ∙ have.leaves.tells)) disks in
          let books_are = seated_books 0 left books (long_left recovered verified plan.stores found seen left starts books looked.each is (ap length opens.books ∙ opens.one_each)) in
          let from = subst (AreFrom verified.disks plan.stores starts) (sym books_are) (opened_from verified plan.stores starts books are opened still) in
          let stand = closed.whole starts verified.disks well still (paths_apart plan.stores valid.paths) from in
          let hand = seat_there plan (with_passes left books) stores place store at in
          kept_fits pass_seen book_seen laws recovers plan valid (stage (with_passes left books) verified clock 0 printed) after rest result closed stores tells_verified place store hand.0 at hand.1
          (again_fits starts books is opened place store hand.0 at hand.1 fit) starts verified.disks are stand
      goes_fits recovers (going.unseated books printed opens on unused clock_is texts memory) well disks place store at fit = absurd (subst WentWell memory well)
      goes_fits recovers (going.stopped books opened printed why stops on leaves same unused clock_is texts ends) well disks place store at fit =
          absurd (refusal_unwell why unused.closing unused.answers (reopen_unwell _ _ _ _ _ why stops.stop) (subst WentWell ends well))
      goes_fits recovers (going.not_begun given clock_is texts memory) well disks place store at fit = absurd (subst WentWell memory well)

module _ {P B : Type 0} (pass_seen : P → PassSeen) (book_seen : B → BookSeen) (laws : Laws pass_seen book_seen) (readable : FitWhereAllRead) (before_law : FitAsBefore) where
  sound_by : (plan : Plan) (before after : Stage) (starts : List Start) (text : List ℕ) (result : Status) → IsPlan plan → IsTrue before.yard.tells.keeps_contents
      → ((place : ℕ) (store : StorePlan) → slice_get plan.stores place ≡ Some store → FitsItsJournal before.yard store)
      → (does : RunsResumed pass_seen book_seen plan before after starts text result) → ResumedFindsNone pass_seen book_seen plan before after starts text result does × (result ≢ status.Corrupt)
  sound_by plan before after starts text result valid tells fit (resumed.not_recovered stop leaves stay clock none) = (tt, unwell_not status.Corrupt result tt (journals_unwell before.yard after.yard plan.stores text result stop))
  sound_by plan before after starts text result valid tells fit (resumed.not_verified found recovered said have verified rest ends stop blocks same leaves disks clock none texts) =
      let all = moved before.yard recovered plan.stores found have.leaves.contents have.same have.leaves.tells (found_by before.yard plan.stores have.disks found have.each fit) in
      stores_clean recovered verified (told_on before.yard.tells recovered.tells have.leaves.tells tells) plan.stores found rest result all ends
  sound_by plan before after starts text result valid tells fit (resumed.resumed found recovered said have unfailed seen left verified told looked from rest after_that goes texts is) =
      let none = looks_none pass_seen book_seen laws readable before_law plan valid before found recovered said have seen left verified told looked tells fit in
      let runs = goes_clean pass_seen book_seen laws readable before_law plan valid before found recovered said have seen left verified told looked tells starts from before.clock after rest after_that fit goes in
      let in_runs = goes_none pass_seen book_seen laws readable before_law plan valid before found recovered said have seen left verified told looked tells starts from before.clock after rest after_that fit goes in
      ((none, in_runs), subst (λ (s : Status). s ≢ status.Corrupt) (sym is) (worse_not status.Corrupt (looks_status (all_looks seen)) after_that (looks_clean (all_looks seen) none) runs))

  pub old_is_sound : OldIsSound pass_seen book_seen
  old_is_sound plan before after result valid tells fit went = sound_by plan before after went.starts went.text result valid tells fit went.does

  fits_by : ClosedRecovers → (plan : Plan) (before after : Stage) (starts : List Start) (text : List ℕ) (result : Status) → IsPlan plan → RunsResumed pass_seen book_seen plan before after starts text result → WentWell result
      → IsTrue before.yard.tells.keeps_disks → IsTrue before.yard.tells.keeps_contents → (place : ℕ) (store : StorePlan) → slice_get plan.stores place ≡ Some store
      → FitsItsJournal before.yard store ⊎ IsTrue (before.yard.tells.sure AtArm store.path) → KeptFits after.yard store
  fits_by recovers plan before after starts text result valid (resumed.not_recovered stop leaves stay clock none) well disks tells place store at fit =
      absurd (journals_unwell before.yard after.yard plan.stores text result stop well)
  fits_by recovers plan before after starts text result valid (resumed.not_verified found recovered said have verified rest ends stop blocks same leaves disks_stay clock none texts) well disks tells place store at fit =
      absurd (stop_unwell result stop well)
  fits_by recovers plan before after starts text result valid (resumed.resumed found recovered said have unfailed seen left verified told looked from rest after_that goes texts is) well disks tells place store at fit =
      goes_fits pass_seen book_seen laws readable before_law plan valid before found recovered said have seen left verified told looked tells starts from before.clock after rest after_that recovers goes
      (well_after (looks_status (all_looks seen)) after_that (subst WentWell is well)) disks place store at fit

  pub old_data_fits : ClosedRecovers → OldDataFits pass_seen book_seen
  old_data_fits recovers plan before after result valid went well disks tells place store at fit = fits_by recovers plan before after went.starts went.text result valid went.does well disks tells place store at fit
