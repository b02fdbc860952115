-- From the crews of a run to the labors of one store.
use Rattle.std.proofs.Common.{◌≡◌, ℕ, zero, suc, ◌+◌, ◌<◌, ◌==◌, Bool, true, false, All, List, [], ◌∷◌, ◌++◌, length, append-nil, map, Some, slice_get, refl, sym, ap, subst, ◌∙◌, arith}
use Rattle.std.specs.List.{filter}
use Rattle.std.proofs.lemmas.Bool.{eq-eqb, eqb-true, ne_eqb}
use Rattle.std.proofs.lemmas.List.Elements.{All-same, filter-append, filter_passes}
use Rattle.std.proofs.lemmas.Option.{none-some, same_Some}
use Rattle.vd_arm.specs.Arm.{PassSeen}
use Rattle.plan_types.specs.declared.plan.Plan.{Plan}
use Rattle.plan_types.specs.declared.run.RunPlan.{RunPlan}
use Rattle.plan_types.specs.declared.run.WorkerPlan.{WorkerPlan}
use Rattle.plan_types.specs.declared.store.StorePlan.{StorePlan}
use Rattle.key_state.specs.declared.seen.BookSeen.{BookSeen}
use Rattle.claim_table.specs.Openings.{made_with}
use Rattle.claim_table.specs.Sums.{Each}
use Rattle.claim_table.specs.declared.view.Made.{Made}
use Rattle.slave_worker.specs.declared.hand.StoreHand.{StoreHand}
use Rattle.master_run.specs.Crews.{Beginning, Ran, RanAll, all_labors}
use Rattle.master_run.specs.Labors.{DidWork, Labor}
use Rattle.vd_yard.specs.Out.{AtArm}
use Rattle.run_totals.proofs.Lists.{each_append, each_from, each_of_all, each_of_map, filter_all, filter_no, get_map}
use Rattle.run_totals.proofs.Rising.{IsRising, rising_at}

-- whether a labor is of the store at this place
abbrev pub of_store : ℕ → Labor → Bool
of_store place labor = labor.worker.store == place

-- A labor of the run, with its store and the table that it worked over.
pub record IsLabor (plan : Plan) (run : RunPlan) (beginning : Beginning) (labor : Labor) : Type 0 where
  pub store : StorePlan
  pub its_store : slice_get plan.stores labor.worker.store ≡ Some store
  pub made : Made
  pub sure : Bool
  pub did : DidWork plan run store.id beginning.start beginning.clock made sure labor
  pub is_sure : sure ≡ beginning.tells.sure AtArm store.path

module _ {P B : Type 0} (pass_seen : P → PassSeen) (book_seen : B → BookSeen) (plan : Plan) (run : RunPlan) (beginning : Beginning) where
  -- The labors of one store, which are those of all crews that are of it.
  pub record CrewOf (hand back : StoreHand P B) (crews : List (List Labor)) : Type 0 where
    pub store : StorePlan
    pub its_store : slice_get plan.stores hand.store ≡ Some store
    pub labors : List Labor
    pub ran : Ran pass_seen book_seen plan run beginning store hand labors back
    pub own : filter (of_store hand.store) (all_labors crews) ≡ labors

  pub their_store : (store : StorePlan) (hand back : StoreHand P B) (labors : List Labor) → Ran pass_seen book_seen plan run beginning store hand labors back → Each (λ labor. labor.worker.store ≡ hand.store) labors
  their_store store hand back labors ran =
      let passes : All (λ (w : WorkerPlan). (w.store == hand.store) ≡ true) (map (λ (labor : Labor). labor.worker) labors) =
      All-same (λ (w : WorkerPlan). (w.store == hand.store) ≡ true) (map (λ (labor : Labor). labor.worker) labors) (filter (λ (w : WorkerPlan). w.store == hand.store) run.workers) ran.workers (filter_passes (λ (w : WorkerPlan). w.store == hand.store) run.workers) in
      each_from (λ (labor : Labor). (labor.worker.store == hand.store) ≡ true) (λ (labor : Labor). labor.worker.store ≡ hand.store) labors (λ labor is. eqb-true labor.worker.store hand.store is)
      (each_of_map (λ (w : WorkerPlan). (w.store == hand.store) ≡ true) (λ (labor : Labor). labor.worker) labors passes)

  not_theirs : (place : ℕ) (hand : StoreHand P B) (labors : List Labor) → (hand.store ≡ place → ⊥) → Each (λ labor. labor.worker.store ≡ hand.store) labors → filter (of_store place) labors ≡ []
  not_theirs place hand labors apart theirs =
      filter_no (of_store place) labors (each_from (λ (labor : Labor). labor.worker.store ≡ hand.store) (λ (labor : Labor). of_store place labor ≡ false) labors (λ labor is. ne_eqb labor.worker.store place (λ same. apart (sym is ∙ same))) theirs)

  -- no crew of hands whose stores are above has a labor of the store
  none_of : (low place : ℕ) (hands : List (StoreHand P B)) (crews : List (List Labor)) (backs : List (StoreHand P B)) → place < low → IsRising low (map (λ hand. hand.store) hands) → RanAll pass_seen book_seen plan run beginning hands crews backs → filter (of_store place) (all_labors crews) ≡ []
  none_of low place [] [] [] below rising ran = refl
  none_of low place [] [] (back ∷ backs) below rising ran = absurd ran
  none_of low place [] (labors ∷ crews) backs below rising ran = absurd ran
  none_of low place (hand ∷ hands) [] backs below rising ran = absurd ran
  none_of low place (hand ∷ hands) (labors ∷ crews) [] below rising ran = absurd ran
  none_of low place (hand ∷ hands) (labors ∷ crews) (back ∷ backs) below rising ran =
      let first = not_theirs place hand labors (λ same. absurd (omega (arith, same, below, rising.0))) (their_store ran.0.0 hand back labors ran.0.2) in
      filter-append (of_store place) labors (all_labors crews)
      ∙ ap (λ l. l ++ filter (of_store place) (all_labors crews)) first
      ∙ none_of (hand.store + 1) place hands crews backs (omega (arith, below, rising.0)) rising.1 ran.1

  -- the crew of a hand, by its place
  pub crew_at : (low : ℕ) (hands : List (StoreHand P B)) (crews : List (List Labor)) (backs : List (StoreHand P B)) (i : ℕ) (hand back : StoreHand P B) → IsRising low (map (λ hand. hand.store) hands) → RanAll pass_seen book_seen plan run beginning hands crews backs → slice_get hands i ≡ Some hand → slice_get backs i ≡ Some back → CrewOf hand back crews
  crew_at low [] crews backs i hand back rising ran at came = absurd (none-some hand at)
  crew_at low (first ∷ hands) [] backs i hand back rising ran at came = absurd ran
  crew_at low (first ∷ hands) (labors ∷ crews) [] i hand back rising ran at came = absurd ran
  crew_at low (first ∷ hands) (labors ∷ crews) (last ∷ backs) zero hand back rising ran at came =
      let theirs = their_store ran.0.0 first last labors ran.0.2 in
      let all = filter_all (of_store first.store) labors (each_from (λ (labor : Labor). labor.worker.store ≡ first.store) (λ (labor : Labor). of_store first.store labor ≡ true) labors (λ labor is. eq-eqb labor.worker.store first.store is) theirs) in
      let none = none_of (first.store + 1) first.store hands crews backs (omega arith) rising.1 ran.1 in
      let mine : CrewOf first last (labors ∷ crews) = record {
        store = ran.0.0;
        its_store = ran.0.1;
        labors = labors;
        ran = ran.0.2;
        own = filter-append (of_store first.store) labors (all_labors crews) ∙ ap (λ l. l ++ filter (of_store first.store) (all_labors crews)) all ∙ ap (λ l. labors ++ l) none ∙ append-nil labors;
      } in
      let for_hand : CrewOf hand last (labors ∷ crews) = subst (λ (h : StoreHand P B). CrewOf h last (labors ∷ crews)) (same_Some first hand at) mine in
      subst (λ (b : StoreHand P B). CrewOf hand b (labors ∷ crews)) (same_Some last back came) for_hand
  crew_at low (first ∷ hands) (labors ∷ crews) (last ∷ backs) (suc i) hand back rising ran at came =
      let rest = crew_at (first.store + 1) hands crews backs i hand back rising.1 ran.1 at came in
      let above = rising_at (first.store + 1) (map (λ (h : StoreHand P B). h.store) hands) i hand.store rising.1 (get_map (λ (h : StoreHand P B). h.store) hands i hand at) in
      let none = not_theirs hand.store first labors (λ same. absurd (omega (arith, same, above))) (their_store ran.0.0 first last labors ran.0.2) in
      record {
        store = rest.store;
        its_store = rest.its_store;
        labors = rest.labors;
        ran = rest.ran;
        own = filter-append (of_store hand.store) labors (all_labors crews) ∙ ap (λ l. l ++ filter (of_store hand.store) (all_labors crews)) none ∙ rest.own;
      }

  is_labor : (store : StorePlan) (hand : StoreHand P B) (made : Made) (sure : Bool) → sure ≡ beginning.tells.sure AtArm store.path → slice_get plan.stores hand.store ≡ Some store → (labors : List Labor) → Each (λ labor. labor.worker.store ≡ hand.store) labors → Each (DidWork plan run store.id beginning.start beginning.clock made sure) labors → Each (IsLabor plan run beginning) labors
  is_labor store hand made sure is its [] theirs each = tt
  is_labor store hand made sure is its (labor ∷ labors) theirs each = (
    record { store = store; its_store = ap (λ (n : ℕ). slice_get plan.stores n) theirs.0 ∙ its; made = made; sure = sure; did = each.0; is_sure = is },
    is_labor store hand made sure is its labors theirs.1 each.1,
  )

  -- each labor is one of the run
  pub all_are : (hands : List (StoreHand P B)) (crews : List (List Labor)) (backs : List (StoreHand P B)) → RanAll pass_seen book_seen plan run beginning hands crews backs → Each (IsLabor plan run beginning) (all_labors crews)
  all_are [] [] [] ran = tt
  all_are [] [] (back ∷ backs) ran = absurd ran
  all_are [] (labors ∷ crews) backs ran = absurd ran
  all_are (hand ∷ hands) [] backs ran = absurd ran
  all_are (hand ∷ hands) (labors ∷ crews) [] ran = absurd ran
  all_are (hand ∷ hands) (labors ∷ crews) (back ∷ backs) ran =
      let its = ran.0.2 in
      let made : Made = made_with pass_seen book_seen ran.0.0.id (length labors) hand.passes.items hand.book in
      let sure : Bool = beginning.tells.sure AtArm ran.0.0.path in
      each_append (IsLabor plan run beginning) labors (all_labors crews)
      (is_labor ran.0.0 hand made sure refl ran.0.1 labors (their_store ran.0.0 hand back labors its) (each_of_all (DidWork plan run ran.0.0.id beginning.start beginning.clock made sure) labors its.each))
      (all_are hands crews backs ran.1)

  -- a hand came back for each
  pub as_many_back : (hands : List (StoreHand P B)) (crews : List (List Labor)) (backs : List (StoreHand P B)) → RanAll pass_seen book_seen plan run beginning hands crews backs → length backs ≡ length hands
  as_many_back [] [] [] ran = refl
  as_many_back [] [] (back ∷ backs) ran = absurd ran
  as_many_back [] (labors ∷ crews) backs ran = absurd ran
  as_many_back (hand ∷ hands) [] backs ran = absurd ran
  as_many_back (hand ∷ hands) (labors ∷ crews) [] ran = absurd ran
  as_many_back (hand ∷ hands) (labors ∷ crews) (back ∷ backs) ran = omega (arith, as_many_back hands crews backs ran.1)
