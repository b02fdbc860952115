-- Where no book failed or came to its end, no worker's work ended by its book.
use Rattle.std.proofs.Common.{◌≡◌, ◌∙◌, refl, sym, ap, subst, arith, ℕ, zero, suc, ◌≤◌, ◌==◌, ◌||◌, ◌&&◌, Bool, true, false, List, [], ◌∷◌, ◌++◌, length, map, Option, Some, None, slice_get}
use Rattle.std.specs.Prelude.{IsSome, nat_lt, if◌then◌else◌}
use Rattle.std.specs.List.{list_any, zip}
use Rattle.std.proofs.lemmas.Bool.{eq-eqb, ltb-false, ltb-true}
use Rattle.std.proofs.lemmas.Option.{none-some, same_Some}
use Rattle.vd_outside.specs.Clocks.{ClockSeen}
use Rattle.vd_arm.specs.Arm.{PassSeen}
use Rattle.vd_yard.specs.Out.{AtArm}
use Rattle.plan_types.specs.declared.run.RunPlan.{RunPlan}
use Rattle.plan_types.specs.declared.run.WorkerPlan.{WorkerPlan}
use Rattle.error_limit.specs.Rule.{newest}
use Rattle.key_state.specs.Books.{Follows}
use Rattle.key_state.specs.declared.fault.BookFault.TheVariants.{EpochEnd, Failed, Stopped}
use Rattle.key_state.specs.declared.seen.BookSeen.{BookSeen}
use Rattle.claim_table.specs.Openings.{made_with}
use Rattle.claim_table.specs.Sums.{Each}
use Rattle.claim_table.specs.Views.{gave_by}
use Rattle.claim_table.specs.declared.view.Made.{Made}
use Rattle.claim_table.specs.declared.view.View.{View}
use Rattle.slave_worker.specs.Ends.{Finished, rules_of}
use Rattle.slave_worker.specs.Hands.{HandSeen}
use Rattle.slave_worker.specs.declared.did.Did.{Did}
use Rattle.slave_worker.specs.declared.did.Rules.{Rules}
use Rattle.slave_worker.specs.declared.did.WorkEnd.{WorkEnd}
use Rattle.slave_worker.specs.declared.did.WorkEnd.TheVariants as work_end
use Rattle.slave_worker.specs.declared.hand.StoreHand.{StoreHand}
use Rattle.master_run.specs.Crews.{Beginning, all_labors}
use Rattle.master_run.specs.Labors.{DidWork, Labor}
use Rattle.run_report.specs.declared.status.Status.{Status}
use Rattle.run_totals.specs.Whole.{NoneByBook, StoreOf, WholeRun, is_by_book}
use Rattle.run_totals.proofs.Crews.{CrewOf, crew_at, of_store}
use Rattle.run_totals.proofs.Lists.{all_at, all_from, each_at, filter_at, get_of_map}
use Rattle.run_totals.proofs.Rising.{IsRising, range_rises}
use Rattle.run_totals.proofs.Totals.{pairs_of}
use Rattle.plan_runs.specs.Books.{book_end_of, book_status, books_status, is_epoch_end, met_end, stands}
use Rattle.plan_runs.specs.Stages.{is_last}
use Rattle.plan_runs.specs.Statuses.{weight_of, worse}
use Rattle.plan_runs.specs.declared.books.BookEnd.{BookEnd}
use Rattle.plan_runs.specs.declared.books.BookEnd.TheVariants as book_end
use Rattle.plan_runs.proofs.Chosen.{each_unmapped}

-- Where others follow the worse of two, they follow both.
not_above : (n : ℕ) → n ≤ 2 → (b : Bool) → nat_lt 2 n ≡ b → nat_lt 2 n ≡ false
not_above n under true is = absurd (omega (arith, under, ltb-true 2 n is))
not_above n under false is = is

pub last_worse : (first rest : Status) → is_last (worse first rest) ≡ false → (is_last first ≡ false) × (is_last rest ≡ false)
last_worse first rest not_last = by_order (nat_lt (weight_of first) (weight_of rest)) refl
  where
    by_order : (b : Bool) → nat_lt (weight_of first) (weight_of rest) ≡ b → (is_last first ≡ false) × (is_last rest ≡ false)
    by_order true is =
        let wins : is_last rest ≡ false = sym (ap (λ (b : Bool). is_last (if b then rest else first)) is) ∙ not_last in
        let low = ltb-false 2 (weight_of rest) wins in
        let less = ltb-true (weight_of first) (weight_of rest) is in
        (not_above (weight_of first) (omega (arith, low, less)) (nat_lt 2 (weight_of first)) refl, wins)
    by_order false is =
        let wins : is_last first ≡ false = sym (ap (λ (b : Bool). is_last (if b then rest else first)) is) ∙ not_last in
        let low = ltb-false 2 (weight_of first) wins in
        let order = ltb-false (weight_of first) (weight_of rest) is in
        (wins, not_above (weight_of rest) (omega (arith, low, order)) (nat_lt 2 (weight_of rest)) refl)

-- Then all books are well.
well_end : (how : BookEnd) → is_last (book_status how) ≡ false → how ≡ book_end.Well
well_end book_end.Well is = refl
well_end (book_end.Failed records) is = absurd (let so : true ≡ false = is in cc)
well_end book_end.EpochOver is = absurd (let so : true ≡ false = is in cc)

stands_well : (stopped : Option ℕ) (met : Bool) → stands stopped met ≡ book_end.Well → (stopped ≡ None) × (met ≡ false)
stands_well (Some records) met is = absurd (let so : book_end.Failed records ≡ book_end.Well = is in cc)
stands_well None true is = absurd (let so : book_end.EpochOver ≡ book_end.Well = is in cc)
stands_well None false is = (refl, refl)

all_well : (run : RunPlan) (ends : List WorkEnd) (hands : List HandSeen) → is_last (books_status run ends hands) ≡ false → Each (λ (hand : HandSeen). book_end_of run ends hand ≡ book_end.Well) hands
all_well run ends [] is = tt
all_well run ends (hand ∷ hands) is =
    let both = last_worse (book_status (book_end_of run ends hand)) (books_status run ends hands) is in
    (well_end (book_end_of run ends hand) both.0, all_well run ends hands both.1)

-- The book of a hand isn't stopped then, and no worker met the end of its last epoch.
pub well_at : (run : RunPlan) (ends : List WorkEnd) (hands : List HandSeen) (i : ℕ) (hand : HandSeen) → is_last (books_status run ends hands) ≡ false → slice_get hands i ≡ Some hand → (hand.2.stopped ≡ None) × (met_end hand.0 run.workers ends ≡ false)
well_at run ends hands i hand is at =
    stands_well hand.2.stopped (met_end hand.0 run.workers ends) (each_at (λ (h : HandSeen). book_end_of run ends h ≡ book_end.Well) hands i hand (all_well run ends hands is) at)

pub unmet : {A : Type 0} (p : A → Bool) (xs : List A) → list_any p xs ≡ false → Each (λ x. p x ≡ false) xs
unmet p [] none = tt
unmet {A} p (x ∷ xs) none = first (p x) refl (unmet p xs)
  where
    first : (b : Bool) → p x ≡ b → (list_any p xs ≡ false → Each (λ y. p y ≡ false) xs) → Each (λ y. p y ≡ false) (x ∷ xs)
    first true is rest = absurd (let so : true ≡ false = sym (ap (λ (b : Bool). b || list_any p xs) is) ∙ none in cc)
    first false is rest = (is, rest (sym (ap (λ (b : Bool). b || list_any p xs) is) ∙ none))

some_of : (o : Option ℕ) → IsSome o → (n : ℕ) × (o ≡ Some n)
some_of (Some n) is = (n, refl)
some_of None is = absurd (let so : false ≡ true = is in cc)

never_both : (o : Option ℕ) (n : ℕ) → o ≡ None → o ≡ Some n → ⊥
never_both o n none some = none-some n (sym none ∙ some)

-- Work that its book ended stopped it, or met the end of its last epoch.
not_by_book : (rules : Rules) (turns : ℕ) (dids : List Did) (view : View) (last : ℕ) (clock : ClockSeen) (end : WorkEnd) (back : BookSeen) → Finished rules turns dids view last clock end → Each (λ old. Follows old back) view.gave → back.stopped ≡ None → is_epoch_end end ≡ false → is_by_book end ≡ false
not_by_book rules turns dids view last clock work_end.TurnsMade back finished gave open_still met = refl
not_by_book rules turns dids view last clock (work_end.TimeUp time) back finished gave open_still met = refl
not_by_book rules turns dids view last clock (work_end.ErrorLimit seen) back finished gave open_still met = refl
not_by_book rules turns dids view last clock (work_end.Book (EpochEnd epoch)) back finished gave open_still met = absurd (let so : true ≡ false = met in cc)
not_by_book rules turns dids view last clock (work_end.Book Failed) back finished gave open_still met =
    let shut = finished.2.0 in
    let follows = (subst (Each (λ old. Follows old back)) shut.2 gave).0 in
    let records = some_of shut.0.stopped shut.4 in
    absurd (never_both back.stopped records.0 open_still (follows.stopped records.0 records.1))
not_by_book rules turns dids view last clock (work_end.Book (Stopped records)) back finished gave open_still met =
    let shut = finished.2.0 in
    let follows = (subst (Each (λ old. Follows old back)) shut.2 gave).0 in
    absurd (never_both back.stopped records open_still (follows.stopped records shut.4))

each_first : {A : Type 0} (P : A → Type 0) (xs ys : List A) → Each P (xs ++ ys) → Each P xs × Each P ys
each_first P [] ys each = (tt, each)
each_first P (x ∷ xs) ys each =
    let rest = each_first P xs ys each.1 in
    ((each.0, rest.0), rest.1)

gave_at : (P : BookSeen → Type 0) (labors : List Labor) (i : ℕ) (labor : Labor) → Each P (gave_by (map (λ (l : Labor). l.view) labors)) → slice_get labors i ≡ Some labor → Each P labor.view.gave
gave_at P [] i labor each at = absurd (none-some labor at)
gave_at P (first ∷ labors) zero labor each at = subst (λ (l : Labor). Each P l.view.gave) (same_Some first labor at) (each_first P first.view.gave (gave_by (map (λ (l : Labor). l.view) labors)) each).0
gave_at P (first ∷ labors) (suc i) labor each at = gave_at P labors i labor (each_first P first.view.gave (gave_by (map (λ (l : Labor). l.view) labors)) each).1 at

is_met : (b c : Bool) → b ≡ true → (b && c) ≡ false → c ≡ false
is_met true c is none = none
is_met false c is none = absurd cc

module _ {P B : Type 0} (pass_seen : P → PassSeen) (book_seen : B → BookSeen) (whole : WholeRun pass_seen book_seen) (its : StoreOf pass_seen book_seen whole) where
  abbrev beginning : Beginning
  beginning = record { start = whole.did.start; clock = whole.clock_after; tells = whole.yard_before.tells }

  crew : CrewOf pass_seen book_seen whole.plan whole.run beginning its.hand its.back whole.did.crews
  crew =
      let rising : IsRising 0 (map (λ (hand : StoreHand P B). hand.store) whole.hands) =
      subst (λ (l : List ℕ). IsRising 0 l) (sym whole.are_hands.places) (range_rises (λ store. list_any (λ (worker : WorkerPlan). worker.store == store) whole.run.workers) 0 (length whole.plan.stores)) in
      crew_at pass_seen book_seen whole.plan whole.run beginning 0 whole.hands whole.did.crews whole.answer.hands.items its.at its.hand its.back rising whole.did.ran its.went_in its.came_back

  -- No worker of a store ended by a book that isn't stopped and whose end none of them met.
  pub none_by_book : (book_seen its.back.book).stopped ≡ None → met_end its.hand.store whole.run.workers whole.answer.ends.items ≡ false → NoneByBook pass_seen book_seen whole its
  none_by_book open_still none =
      let all = all_labors whole.did.crews in
      let pairs : zip whole.run.workers whole.answer.ends.items ≡ map (λ (labor : Labor). (labor.worker, labor.end)) all = pairs_of (λ (labor : Labor). labor.end) all whole.run.workers whole.answer.ends.items whole.did.workers whole.did.ends in
      let unmet_all : Each (λ (labor : Labor). (labor.worker.store == its.hand.store && is_epoch_end labor.end) ≡ false) all =
      each_unmapped (λ (one : WorkerPlan × WorkEnd). (one.0.store == its.hand.store && is_epoch_end one.1) ≡ false) (λ (labor : Labor). (labor.worker, labor.end)) all
      (subst (Each (λ (one : WorkerPlan × WorkEnd). (one.0.store == its.hand.store && is_epoch_end one.1) ≡ false)) pairs (unmet (λ (one : WorkerPlan × WorkEnd). one.0.store == its.hand.store && is_epoch_end one.1) (zip whole.run.workers whole.answer.ends.items) none)) in
      all_from (λ (one : WorkerPlan × WorkEnd). one.0.store ≡ its.hand.store → is_by_book one.1 ≡ false) (zip whole.run.workers whole.answer.ends.items) (λ i one at of_its.
      let found = get_of_map (λ (labor : Labor). (labor.worker, labor.end)) all i one (ap (λ (l : List (WorkerPlan × WorkEnd)). slice_get l i) (sym pairs) ∙ at) in
      let labor : Labor = found.0 in
      let its_own : labor.worker.store ≡ its.hand.store = ap (λ (p : WorkerPlan × WorkEnd). p.0.store) found.2 ∙ of_its in
      let there = filter_at (of_store its.hand.store) all i labor found.1 (eq-eqb labor.worker.store its.hand.store its_own) in
      let at_own : slice_get crew.labors there.0 ≡ Some labor = ap (λ (l : List Labor). slice_get l there.0) (sym crew.own) ∙ there.1 in
      let made : Made = made_with pass_seen book_seen crew.store.id (length crew.labors) its.hand.passes.items its.hand.book in
      let did : DidWork whole.plan whole.run crew.store.id whole.did.start whole.clock_after made (whole.yard_before.tells.sure AtArm crew.store.path) labor =
      all_at (DidWork whole.plan whole.run crew.store.id whole.did.start whole.clock_after made (whole.yard_before.tells.sure AtArm crew.store.path)) crew.labors there.0 labor crew.ran.each at_own in
      let gave = gave_at (λ old. Follows old (book_seen its.back.book)) crew.labors there.0 labor crew.ran.returned.after at_own in
      let unmet_here = is_met (labor.worker.store == its.hand.store) (is_epoch_end labor.end) (eq-eqb labor.worker.store its.hand.store its_own)
      (each_at (λ (l : Labor). (l.worker.store == its.hand.store && is_epoch_end l.end) ≡ false) all i labor unmet_all found.1) in
      subst (λ (p : WorkerPlan × WorkEnd). is_by_book p.1 ≡ false) found.2
      (not_by_book (rules_of whole.plan whole.run labor.worker whole.did.start) whole.run.turns did.worked.0 labor.view (newest labor.answers) labor.clock labor.end (book_seen its.back.book) did.worked.4 gave open_still unmet_here))
