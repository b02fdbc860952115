-- Runs without journals.
use Rattle.std.proofs.Common.{◌≡◌, ◌∙◌, refl, sym, ap, subst, arith, inl, inr, ℕ, suc, ◌+◌, ◌==◌, Bool, true, false, ◌&&◌, List, [], ◌∷◌, length, map, Some, None, slice_get}
use Rattle.std.specs.Prelude.{All, ◌||◌}
use Rattle.std.specs.List.{list_any, range_with_len, zip}
use Rattle.std.proofs.lemmas.List.{length-replicate}
use Rattle.vd_outside.specs.Clocks.{ClockSeen}
use Rattle.vd_arm.specs.Arm.{PassSeen}
use Rattle.vd_yard.specs.Out.{Out}
use Rattle.plan_types.specs.Valid.{IsPlan}
use Rattle.plan_types.specs.declared.plan.Plan.{Plan}
use Rattle.plan_types.specs.declared.run.RunPlan.{RunPlan}
use Rattle.plan_types.specs.declared.run.WorkerPlan.{WorkerPlan}
use Rattle.plan_types.specs.declared.store.StorePlan.{StorePlan}
use Rattle.key_state.specs.Quiet.{quiet_seen}
use Rattle.key_state.specs.declared.entry.Entry.TheVariants.{Settled}
use Rattle.key_state.specs.declared.quiet.QuietBook.{QuietBook}
use Rattle.key_state.specs.declared.seen.BookSeen.{BookSeen}
use Rattle.claim_table.specs.Openings.{made_with}
use Rattle.claim_table.specs.Sums.{Each}
use Rattle.claim_table.specs.declared.view.View.{View}
use Rattle.error_limit.specs.Rule.{newest}
use Rattle.slave_worker.specs.Ends.{Finished, rules_of}
use Rattle.slave_worker.specs.Hands.{HandSeen, IsRunOf, hand_seen}
use Rattle.slave_worker.specs.declared.did.Did.{Did}
use Rattle.slave_worker.specs.declared.did.Rules.{Rules}
use Rattle.slave_worker.specs.declared.did.WorkEnd.{WorkEnd}
use Rattle.slave_worker.specs.declared.did.WorkEnd.TheVariants as work_end
use Rattle.slave_worker.specs.declared.hand.RunAnswer.{RunAnswer}
use Rattle.slave_worker.specs.declared.hand.StoreHand.{StoreHand}
use Rattle.master_run.specs.Crews.{Beginning, Ran, RanAll, all_labors}
use Rattle.master_run.specs.Labors.{DidWork, Labor}
use Rattle.vd_yard.specs.Out.{AtArm}
use Rattle.run_report.specs.declared.status.Status.{Status}
use Rattle.run_report.specs.declared.status.Status.TheVariants as status
use Rattle.plan_hands.specs.Openings.{passes_out}
use Rattle.plan_hands.specs.Stores.{AreStores, IsHandAt, place_of, with_books}
use Rattle.run_totals.proofs.Lists.{all_from, each_append, each_both, each_of_all}
use Rattle.run_totals.proofs.Totals.{pairs_of}
use Rattle.plan_runs.specs.Books.{book_status, books_status, is_epoch_end, met_end, stands}
use Rattle.plan_runs.specs.Quiet.{CanEndRun, unwritten}
use Rattle.plan_runs.specs.Stages.{RunMade, RunsMade, Stage, made_status, stage}
use Rattle.plan_runs.specs.Statuses.{tallies_status, worse}
use Rattle.plan_runs.proofs.Chosen.{all_of_each, each_unmapped}
use Rattle.plan_runs.proofs.Devices.{one_has}
use Rattle.plan_runs.proofs.Ended.{of_quiet_runs, tallies_has, worse_has}

module _ (plan : Plan) where
  abbrev seated : ℕ → List StorePlan → List HandSeen
  seated a stores = map (λ (one : ℕ × BookSeen). (one.0, [], one.1)) (zip (range_with_len a (length (map unwritten stores))) (map unwritten stores))

  numbered : (a : ℕ) (stores : List StorePlan) → ((i : ℕ) (store : StorePlan) → slice_get stores i ≡ Some store → slice_get plan.stores (a + i) ≡ Some store) → (map place_of (seated a stores) ≡ range_with_len a (length stores)) × Each (IsHandAt plan) (seated a stores)
  numbered a [] at = (refl, tt)
  numbered a (store ∷ stores) at =
      let same : a ≡ a + 0 = omega arith in
      let first : slice_get plan.stores a ≡ Some store = ap (λ (n : ℕ). slice_get plan.stores n) same ∙ at 0 store refl in
      let rest = numbered (a + 1) stores (λ i other is. let next : a + 1 + i ≡ a + suc i = omega arith in ap (λ (n : ℕ). slice_get plan.stores n) next ∙ at (suc i) other is) in
      (ap (λ (l : List ℕ). a ∷ l) rest.0, (record { its = (store, first, (inl refl, length-replicate store.id.geometry.blocks (Settled 0))) }, rest.1))

  -- Books of blocks that were never written, in their hands.
  pub are_seated : AreStores plan (with_books (map unwritten plan.stores))
  are_seated =
      let all = numbered 0 plan.stores (λ i store is. let same : 0 + i ≡ i = omega arith in ap (λ (n : ℕ). slice_get plan.stores n) same ∙ is) in
      record { places = all.0; each = all_of_each (IsHandAt plan) (seated 0 plan.stores) all.1 }

  none_out : (l : List (ℕ × BookSeen)) (out : Out) → passes_out plan (map (λ (one : ℕ × BookSeen). (one.0, [], one.1)) l) out ≡ out
  none_out [] out = refl
  none_out (one ∷ l) out = none_out l out

  -- None of their passes is out.
  pub nothing_out : (books : List BookSeen) (out : Out) → passes_out plan (with_books books) out ≡ out
  nothing_out books out = none_out (zip (range_with_len 0 (length books)) books) out

  pub runs_of : IsPlan plan → All (IsRunOf plan) plan.runs
  runs_of valid = all_from (IsRunOf plan) plan.runs (λ i run at. record { valid = valid; number = (i, at) })

-- Work over a book that isn't shut isn't ended by it.
no_book_end : (rules : Rules) (turns : ℕ) (dids : List Did) (view : View) (last : ℕ) (clock : ClockSeen) (end : WorkEnd) → Finished rules turns dids view last clock end → (view.shut ≡ true → ⊥) → is_epoch_end end ≡ false
no_book_end rules turns dids view last clock work_end.TurnsMade finished never = refl
no_book_end rules turns dids view last clock (work_end.TimeUp time) finished never = refl
no_book_end rules turns dids view last clock (work_end.ErrorLimit seen) finished never = refl
no_book_end rules turns dids view last clock (work_end.Book fault) finished never = absurd (never finished.2.1)

and_false : (a b : Bool) → b ≡ false → (a && b) ≡ false
and_false true b is = is
and_false false b is = refl

met_none : (place : ℕ) (labors : List Labor) → Each (λ (labor : Labor). is_epoch_end labor.end ≡ false) labors → list_any (λ (one : WorkerPlan × WorkEnd). one.0.store == place && is_epoch_end one.1) (map (λ (labor : Labor). (labor.worker, labor.end)) labors) ≡ false
met_none place [] each = refl
met_none place (labor ∷ labors) each =
    ap (λ (b : Bool). b || list_any (λ (one : WorkerPlan × WorkEnd). one.0.store == place && is_epoch_end one.1) (map (λ (l : Labor). (l.worker, l.end)) labors)) (and_false (labor.worker.store == place) (is_epoch_end labor.end) each.0)
    ∙ met_none place labors each.1

module _ {P : Type 0} (pass_seen : P → PassSeen) (plan : Plan) (run : RunPlan) where
  module _ (beginning : Beginning) where
    crew_quiet : (store : StorePlan) (hand back : StoreHand P QuietBook) (labors : List Labor) → Ran pass_seen quiet_seen plan run beginning store hand labors back → Each (λ (labor : Labor). is_epoch_end labor.end ≡ false) labors
    crew_quiet store hand back labors ran =
        each_both (DidWork plan run store.id beginning.start beginning.clock (made_with pass_seen quiet_seen store.id (length labors) hand.passes.items hand.book) (beginning.tells.sure AtArm store.path))
        (λ (labor : Labor). labor.view.shut ≡ true → false ≡ true) (λ (labor : Labor). is_epoch_end labor.end ≡ false) labors
        (λ labor did shuts. no_book_end (rules_of plan run labor.worker beginning.start) run.turns did.worked.0 labor.view (newest labor.answers) labor.clock labor.end did.worked.4 (λ shut. let so : false ≡ true = shuts shut in cc))
        (each_of_all (DidWork plan run store.id beginning.start beginning.clock (made_with pass_seen quiet_seen store.id (length labors) hand.passes.items hand.book) (beginning.tells.sure AtArm store.path)) labors ran.each)
        (each_unmapped (λ (view : View). view.shut ≡ true → (quiet_seen back.book).shut ≡ true) (λ (labor : Labor). labor.view) labors ran.returned.shut)

    all_quiet : (hands : List (StoreHand P QuietBook)) (crews : List (List Labor)) (backs : List (StoreHand P QuietBook)) → RanAll pass_seen quiet_seen plan run beginning hands crews backs → Each (λ (labor : Labor). is_epoch_end labor.end ≡ false) (all_labors crews)
    all_quiet [] [] [] ran = tt
    all_quiet [] [] (back ∷ backs) ran = absurd ran
    all_quiet [] (labors ∷ crews) backs ran = absurd ran
    all_quiet (hand ∷ hands) [] backs ran = absurd ran
    all_quiet (hand ∷ hands) (labors ∷ crews) [] ran = absurd ran
    all_quiet (hand ∷ hands) (labors ∷ crews) (back ∷ backs) ran =
        each_append (λ (labor : Labor). is_epoch_end labor.end ≡ false) labors (all_labors crews) (crew_quiet ran.0.0 hand back labors ran.0.2) (all_quiet hands crews backs ran.1)

  books_good : (ends : List WorkEnd) → ((place : ℕ) → met_end place run.workers ends ≡ false) → (hands : List (StoreHand P QuietBook)) → books_status run ends (map (hand_seen pass_seen quiet_seen) hands) ≡ status.Good
  books_good ends none [] = refl
  books_good ends none (hand ∷ hands) =
      ap (λ (b : Bool). worse (book_status (stands None b)) (books_status run ends (map (hand_seen pass_seen quiet_seen) hands))) (none hand.store)
      ∙ ap (λ (s : Status). worse status.Good s) (books_good ends none hands)

  quiet_made : (before after : Stage) (answer : RunAnswer P QuietBook) → RunMade pass_seen quiet_seen plan run before after answer → of_quiet_runs (made_status pass_seen quiet_seen run answer) ≡ true
  quiet_made before after answer m =
      let beginning : Beginning = record { start = m.did.start; clock = after.clock; tells = m.ready.yard.tells } in
      let labors = all_labors m.did.crews in
      let none : (place : ℕ) → met_end place run.workers answer.ends.items ≡ false = λ place.
      ap (list_any (λ (one : WorkerPlan × WorkEnd). one.0.store == place && is_epoch_end one.1)) (pairs_of (λ (labor : Labor). labor.end) labors run.workers answer.ends.items m.did.workers m.did.ends)
      ∙ met_none place labors (all_quiet beginning m.hands m.did.crews answer.hands.items m.did.ran) in
      let books = books_good answer.ends.items none answer.hands.items in
      worse_has of_quiet_runs (books_status run answer.ends.items (map (hand_seen pass_seen quiet_seen) answer.hands.items)) (tallies_status answer.tallies.items) (ap of_quiet_runs books) (tallies_has of_quiet_runs answer.tallies.items refl refl refl)

module _ {P : Type 0} (pass_seen : P → PassSeen) (plan : Plan) where
  quiet_runs : (runs : List RunPlan) (before after : Stage) (text : List ℕ) (result : Status) → RunsMade pass_seen quiet_seen plan runs before after text result → of_quiet_runs result ≡ true
  quiet_runs [] before after text result (same, is_text, is) = ap of_quiet_runs is
  quiet_runs (run ∷ runs) before after text result (inl (limit, same, is_text, is)) = ap of_quiet_runs is
  quiet_runs (run ∷ runs) before after text result (inr (inl (few, says, last))) =
      one_has pass_seen quiet_seen plan run of_quiet_runs before after text result (quiet_made pass_seen plan run before after) refl refl says.one
  quiet_runs (run ∷ runs) before after text result (inr (inr (few, between, first, rest, one, others, says, last, made, is_text, is))) =
      ap of_quiet_runs is
      ∙ worse_has of_quiet_runs one others (one_has pass_seen quiet_seen plan run of_quiet_runs before between first one (quiet_made pass_seen plan run before between) refl refl says.one) (quiet_runs runs between after rest others made)

  -- How runs without journals end.
  pub can_end : (runs : List RunPlan) (before after : Stage) (text : List ℕ) (result : Status) → RunsMade pass_seen quiet_seen plan runs before after text result → CanEndRun result
  can_end runs before after text result made =
      let known = quiet_runs runs before after text result made in
      record {
        no_usage = λ is. let so : false ≡ true = sym (ap of_quiet_runs is) ∙ known in cc;
        no_output = λ is. let so : false ≡ true = sym (ap of_quiet_runs is) ∙ known in cc;
        no_journal_failed = λ is. let so : false ≡ true = sym (ap of_quiet_runs is) ∙ known in cc;
        none_missing = λ is. let so : false ≡ true = sym (ap of_quiet_runs is) ∙ known in cc;
        none_damaged = λ is. let so : false ≡ true = sym (ap of_quiet_runs is) ∙ known in cc;
        none_mismatched = λ is. let so : false ≡ true = sym (ap of_quiet_runs is) ∙ known in cc;
        no_epoch_over = λ is. let so : false ≡ true = sym (ap of_quiet_runs is) ∙ known in cc;
      }

  -- The same of the plan's own runs, from books in their hands.
  pub runs_from : (runs : List RunPlan) (hands : List HandSeen) (before after : Stage) (result : Status) → runs ≡ plan.runs → hands ≡ before.hands
      → (text : List ℕ) × RunsMade pass_seen quiet_seen plan runs (stage hands before.yard before.clock before.errors before.printing) after text result → (text : List ℕ) × RunsMade pass_seen quiet_seen plan plan.runs before after text result
  runs_from runs hands before after result all its (text, made) = (
    text,
    subst (λ (l : List HandSeen). RunsMade pass_seen quiet_seen plan plan.runs (stage l before.yard before.clock before.errors before.printing) after text result) its
        (subst (λ (l : List RunPlan). RunsMade pass_seen quiet_seen plan l (stage hands before.yard before.clock before.errors before.printing) after text result) all made),
  )
