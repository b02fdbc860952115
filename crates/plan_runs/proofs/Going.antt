-- A run that goes on: what its parts need of each other.
use Rattle.std.proofs.Common.{◌≡◌, ◌∙◌, refl, sym, ap, subst, arith, inr, ℕ, ◌<◌, ◌==◌, Bool, true, false, List, [], ◌∷◌, ◌++◌, length, map, Result, Ok, Err, OnOk, OnErr}
use Rattle.std.specs.Prelude.{All, IfSome, ◌||◌, Option}
use Rattle.std.specs.List.{list_any}
use Rattle.std.proofs.lemmas.Bool.{eqb-true}
use Rattle.std.proofs.lemmas.List.{length-map}
use Rattle.std.proofs.lemmas.List.Elements.{All-nil}
use Rattle.std.proofs.lemmas.Option.{slice_get_within}
use Rattle.vd_outside.specs.Clocks.{ClockSeen}
use Rattle.vd_arm.specs.Arm.{PassSeen}
use Rattle.vd_yard.specs.Yard.{YardSeen}
use Rattle.block_verdict.specs.declared.finding.Finding.{Finding}
use Rattle.plan_types.specs.Valid.{IsPlan, IsRun, IsWorker}
use Rattle.plan_types.specs.declared.plan.Plan.{Plan}
use Rattle.plan_types.specs.declared.run.RunPlan.{RunPlan}
use Rattle.plan_types.specs.declared.run.WorkerPlan.{WorkerPlan}
use Rattle.plan_types.specs.declared.store.StorePlan.{StorePlan}
use Rattle.key_state.specs.declared.seen.BookSeen.{BookSeen}
use Rattle.claim_table.specs.Sums.{Each}
use Rattle.worker_tally.specs.Tallies.{Tallied}
use Rattle.slave_worker.specs.Ends.{rules_of}
use Rattle.slave_worker.specs.Hands.{AreHands, HandSeen, IsHandOf, IsRunOf, OfStore, hand_seen, works_in}
use Rattle.slave_worker.specs.declared.hand.RunAnswer.{RunAnswer}
use Rattle.slave_worker.specs.declared.hand.RunFault.{RunFault}
use Rattle.slave_worker.specs.declared.hand.StoreHand.{StoreHand}
use Rattle.master_run.specs.Crews.{Beginning, DidNotRun, DidRun, all_labors}
use Rattle.master_run.specs.Labors.{Labor}
use Rattle.run_report.specs.Findings.{IsPrintable}
use Rattle.run_report.specs.Runs.{PrintsFindings, PrintsRun}
use Rattle.plan_hands.specs.Stores.{IsHandAt, Joins}
use Rattle.run_totals.proofs.Crews.{IsLabor, all_are}
use Rattle.run_totals.proofs.Lists.{all_at, each_from, each_of_all}
use Rattle.run_totals.proofs.Totals.{pairs_of}
use Rattle.plan_runs.specs.Printing.{FindingsHaveLines}
use Rattle.plan_runs.specs.Ready.{CameBack}
use Rattle.plan_runs.proofs.Chosen.{all_of_each, each_unmapped}
use Rattle.plan_runs.proofs.Returned.{all_back, all_same_back, each_back}

pub on_ok : {T E : Type 0} (A B : Type 0) (r : Result T E) → (A → B) → OnOk r A → OnOk r B
on_ok A B (Ok x) more is = more is
on_ok A B (Err e) more is = tt

each_mapped : {A B : Type 0} (P : B → Type 0) (f : A → B) (xs : List A) → Each (λ x. P (f x)) xs → Each P (map f xs)
each_mapped P f [] each = tt
each_mapped P f (x ∷ xs) each = (each.0, each_mapped P f xs each.1)

-- A worker's store is there.
there : (stores : List StorePlan) (slaves store : ℕ) (workers : List WorkerPlan) → Each (IsWorker stores slaves) workers → list_any (λ (worker : WorkerPlan). worker.store == store) workers ≡ true → store < length stores
there stores slaves store [] each any = absurd (let so : false ≡ true = any in cc)
there stores slaves store (worker ∷ workers) each any = by_first (worker.store == store) refl (there stores slaves store workers each.1)
  where
    by_first : (b : Bool) → (worker.store == store) ≡ b → (list_any (λ (w : WorkerPlan). w.store == store) workers ≡ true → store < length stores) → store < length stores
    by_first true is rest = omega (arith, eqb-true worker.store store is, each.0.store)
    by_first false is rest = rest (sym (ap (λ (b : Bool). b || list_any (λ (w : WorkerPlan). w.store == store) workers) is) ∙ any)

pub works_there : (plan : Plan) (run : RunPlan) → IsRunOf plan run → (store : ℕ) → works_in run store ≡ true → store < length plan.stores
works_there plan run is store works =
    let valid = all_at (IsRun plan.stores) plan.runs is.number.0 run is.valid.runs is.number.1 in
    there plan.stores run.slaves store run.workers (each_of_all (IsWorker plan.stores run.slaves) run.workers valid.workers) works

-- Lists that are moved whole.
pub moved_whole : {A B : Type 0} (f : A → B) (old new : List A) (more : List B) → old ≡ [] → map f new ≡ map f old ++ more → map f new ≡ more
moved_whole f old new more none is = is ∙ ap (λ (l : List _). map f l ++ more) none

pub joined_whole : (run : RunPlan) (places many : ℕ) (active rested resting old new all : List HandSeen) → places ≡ many → old ≡ [] → rested ≡ resting → new ≡ old ++ all → Joins run places active rested all → Joins run many active resting new
joined_whole run places many active rested resting old new all same none others is joins =
    subst (λ (n : ℕ). Joins run n active resting new) same
    (subst (λ (l : List HandSeen). Joins run places active l new) others
    (subst (λ (l : List HandSeen). Joins run places active rested l) (sym (is ∙ ap (λ (l : List HandSeen). l ++ all) none)) joins))

module _ {P B : Type 0} (pass_seen : P → PassSeen) (book_seen : B → BookSeen) (plan : Plan) (run : RunPlan) (errors : ℕ) (old new : YardSeen) (clock_before clock_after : ClockSeen) (hands : List (StoreHand P B)) (answer : RunAnswer P B) where
  module _ (did : DidRun pass_seen book_seen plan run errors old new clock_before clock_after hands answer) where
    abbrev its_beginning : Beginning
    its_beginning = record { start = did.start; clock = clock_after; tells = old.tells }

    prints : FindingsHaveLines → (labor : Labor) → IsLabor plan run its_beginning labor → PrintsFindings plan.stores (labor.worker, labor.tally)
    prints lines labor is = record {
      known = slice_get_within plan.stores labor.worker.store is.store is.its_store;
      printable = subst (λ (o : Option StorePlan). IfSome o (λ (store : StorePlan). All (IsPrintable store.id) labor.tally.findings)) (sym is.its_store)
          (lines (rules_of plan run labor.worker did.start) is.store.id run.turns _ _ _ labor.answers labor.end is.did.worked
          (subst (λ (l : List Finding). All (IsPrintable is.store.id) l) (sym is.did.is_empty.findings) (All-nil (IsPrintable is.store.id))));
    }

    prints_run : FindingsHaveLines → PrintsRun plan.stores run answer.tallies.items
    prints_run lines =
        let all = all_labors did.crews in
        let told : Labor → WorkerPlan × Tallied = λ labor. (labor.worker, labor.tally) in
        record {
          many = inr (omega (arith, ap length did.workers, ap length did.tallies, length-map all (λ (labor : Labor). labor.worker), length-map all (λ (labor : Labor). labor.tally)));
          each = subst (λ (l : List (WorkerPlan × Tallied)). All (PrintsFindings plan.stores) l) (sym (pairs_of (λ (labor : Labor). labor.tally) all run.workers answer.tallies.items did.workers did.tallies))
              (all_of_each (PrintsFindings plan.stores) (map told all)
              (each_mapped (PrintsFindings plan.stores) told all
              (each_from (IsLabor plan run its_beginning) (λ (labor : Labor). PrintsFindings plan.stores (labor.worker, labor.tally)) all (prints lines)
              (all_are pass_seen book_seen plan run its_beginning hands did.crews answer.hands.items did.ran))));
        }

    came : IsPlan plan → AreHands pass_seen book_seen plan run hands → CameBack plan (map (hand_seen pass_seen book_seen) hands) (map (hand_seen pass_seen book_seen) answer.hands.items)
    came valid are = all_back pass_seen book_seen plan run valid its_beginning hands did.crews answer.hands.items did.ran (each_of_all (λ (hand : StoreHand P B). OfStore plan hand.store (λ (store : StorePlan). IsHandOf pass_seen book_seen store hand)) hands are.each)

  pub can_print : FindingsHaveLines → (why : Result (Unit {0}) RunFault) → OnOk why (DidRun pass_seen book_seen plan run errors old new clock_before clock_after hands answer) → OnOk why (PrintsRun plan.stores run answer.tallies.items)
  can_print lines why did = on_ok (DidRun pass_seen book_seen plan run errors old new clock_before clock_after hands answer) (PrintsRun plan.stores run answer.tallies.items) why (λ d. prints_run d lines) did

  pub came_back : IsPlan plan → AreHands pass_seen book_seen plan run hands → (why : Result (Unit {0}) RunFault) → OnOk why (DidRun pass_seen book_seen plan run errors old new clock_before clock_after hands answer)
      → OnErr why (DidNotRun pass_seen book_seen errors old new clock_before clock_after hands answer) → CameBack plan (map (hand_seen pass_seen book_seen) hands) (map (hand_seen pass_seen book_seen) answer.hands.items)
  came_back valid are (Ok u) did not_did = came did valid are
  came_back valid are (Err why) did not_did =
      subst (CameBack plan (map (hand_seen pass_seen book_seen) hands)) (sym not_did.same) (all_same_back plan (map (hand_seen pass_seen book_seen) hands))

-- Each that came back is of a store that is there.
pub stores_there : {P B : Type 0} (pass_seen : P → PassSeen) (book_seen : B → BookSeen) (plan : Plan) (run : RunPlan) (hands backs : List (StoreHand P B)) → AreHands pass_seen book_seen plan run hands → CameBack plan (map (hand_seen pass_seen book_seen) hands) (map (hand_seen pass_seen book_seen) backs) → All (λ (hand : StoreHand P B). hand.store < length plan.stores) backs
stores_there {P} {B} pass_seen book_seen plan run hands backs are back =
    let went = each_mapped (IsHandAt plan) (hand_seen pass_seen book_seen) hands
    (each_from (λ (hand : StoreHand P B). OfStore plan hand.store (λ (store : StorePlan). IsHandOf pass_seen book_seen store hand)) (λ (hand : StoreHand P B). IsHandAt plan (hand_seen pass_seen book_seen hand)) hands
    (λ hand has. record { its = (has.0, has.1, (inr has.2.are_passes, has.2.sized)) })
    (each_of_all (λ (hand : StoreHand P B). OfStore plan hand.store (λ (store : StorePlan). IsHandOf pass_seen book_seen store hand)) hands are.each)) in
    all_of_each (λ (hand : StoreHand P B). hand.store < length plan.stores) backs
    (each_from (λ (hand : StoreHand P B). IsHandAt plan (hand_seen pass_seen book_seen hand)) (λ (hand : StoreHand P B). hand.store < length plan.stores) backs
    (λ hand is. slice_get_within plan.stores hand.store is.its.0 is.its.1)
    (each_unmapped (IsHandAt plan) (hand_seen pass_seen book_seen) backs
    (each_back plan (map (hand_seen pass_seen book_seen) hands) (map (hand_seen pass_seen book_seen) backs) back went)))
