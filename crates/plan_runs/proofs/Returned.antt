-- The hands of a run's stores, as they come back.
use Rattle.std.proofs.Common.{◌≡◌, ◌∙◌, refl, sym, ap, subst, arith, inr, ℕ, ◌<◌, List, [], ◌∷◌, length, map, Some, slice_get}
use Rattle.std.proofs.lemmas.Option.{same_Some}
use Rattle.vd_arm.specs.Arm.{PassSeen}
use Rattle.vd_yard.specs.Out.{Out}
use Rattle.plan_types.specs.Valid.{IsPlan}
use Rattle.plan_types.specs.declared.plan.Plan.{Plan}
use Rattle.plan_types.specs.declared.run.RunPlan.{RunPlan}
use Rattle.plan_types.specs.declared.store.StorePlan.{StorePlan}
use Rattle.key_state.specs.declared.seen.BookSeen.{BookSeen}
use Rattle.claim_table.specs.Passes.{ArePasses}
use Rattle.claim_table.specs.Sums.{Each}
use Rattle.slave_worker.specs.Hands.{HandSeen, IsHandOf, OfStore, hand_seen, works_in}
use Rattle.slave_worker.specs.declared.hand.StoreHand.{StoreHand}
use Rattle.master_run.specs.Crews.{Beginning, Ran, RanAll}
use Rattle.master_run.specs.Labors.{Labor}
use Rattle.plan_hands.specs.Openings.{data_path, one_out, passes_out}
use Rattle.plan_hands.specs.Stores.{AreStores, IsHandAt, Joins, not_of_run, of_run, passes_of, place_of}
use Rattle.run_totals.proofs.Lists.{each_of_all}
use Rattle.plan_runs.specs.Ready.{CameBack, OneBack}
use Rattle.plan_runs.proofs.Chosen.{all_of_each, equal_in_step, in_step, zip_same}
use Rattle.plan_runs.proofs.Opened.{some_blocks}

-- Open passes are out once, however many they are.
out_once : (path : List ℕ) (xs ys : List PassSeen) (out : Out) → 0 < length xs → 0 < length ys → one_out path xs out ≡ one_out path ys out
out_once path [] ys out some some_too = absurd (omega (arith, some))
out_once path (x ∷ xs) [] out some some_too = absurd (omega (arith, some_too))
out_once path (x ∷ xs) (y ∷ ys) out some some_too = refl

pub same_back : (plan : Plan) (hand : HandSeen) → OneBack plan hand hand
same_back plan hand = record { place = refl; hand = λ is. is; passes = λ path out. refl }

pub all_same_back : (plan : Plan) (hands : List HandSeen) → CameBack plan hands hands
all_same_back plan [] = tt
all_same_back plan (hand ∷ hands) = (same_back plan hand, all_same_back plan hands)

module _ {P B : Type 0} (pass_seen : P → PassSeen) (book_seen : B → BookSeen) (plan : Plan) (run : RunPlan) (valid : IsPlan plan) (beginning : Beginning) where
  one_back : (store : StorePlan) (hand back : StoreHand P B) (labors : List Labor) → slice_get plan.stores hand.store ≡ Some store → Ran pass_seen book_seen plan run beginning store hand labors back → OfStore plan hand.store (λ (s : StorePlan). IsHandOf pass_seen book_seen s hand)
      → OneBack plan (hand_seen pass_seen book_seen hand) (hand_seen pass_seen book_seen back)
  one_back store hand back labors at ran was =
      let some = some_blocks plan valid hand.store store at in
      let same : was.0 ≡ store = same_Some was.0 store (sym was.1 ∙ at) in
      let passes : ArePasses store.id (map pass_seen back.passes.items) = record {
        many = ran.returned.many;
        each = λ block pass is. ((ran.returned.each block pass is).of, (ran.returned.each block pass is).sized);
      } in
      let long : length (book_seen back.book).now ≡ store.id.geometry.blocks =
      ran.returned.follows.sized ∙ was.2.sized ∙ ap (λ (s : StorePlan). s.id.geometry.blocks) same in
      let there : slice_get plan.stores back.store ≡ Some store = ap (λ (n : ℕ). slice_get plan.stores n) ran.same ∙ at in
      let went : length (map pass_seen hand.passes.items) ≡ store.id.geometry.blocks = was.2.are_passes.many ∙ ap (λ (s : StorePlan). s.id.geometry.blocks) same in
      record {
        place = ran.same;
        hand = λ is. record { its = (store, there, (inr passes, long)) };
        passes = λ path out. out_once path (map pass_seen back.passes.items) (map pass_seen hand.passes.items) out (omega (arith, some, passes.many)) (omega (arith, some, went));
      }

  pub all_back : (hands : List (StoreHand P B)) (crews : List (List Labor)) (backs : List (StoreHand P B)) → RanAll pass_seen book_seen plan run beginning hands crews backs → Each (λ (hand : StoreHand P B). OfStore plan hand.store (λ (store : StorePlan). IsHandOf pass_seen book_seen store hand)) hands
      → CameBack plan (map (hand_seen pass_seen book_seen) hands) (map (hand_seen pass_seen book_seen) backs)
  all_back [] [] [] ran each = tt
  all_back [] [] (back ∷ backs) ran each = absurd ran
  all_back [] (labors ∷ crews) backs ran each = absurd ran
  all_back (hand ∷ hands) [] backs ran each = absurd ran
  all_back (hand ∷ hands) (labors ∷ crews) [] ran each = absurd ran
  all_back (hand ∷ hands) (labors ∷ crews) (back ∷ backs) ran each =
      (one_back ran.0.0 hand back labors ran.0.1 ran.0.2 each.0, all_back hands crews backs ran.1 each.1)

module _ (plan : Plan) where
  pub places_back : (before after : List HandSeen) → CameBack plan before after → map place_of after ≡ map place_of before
  places_back [] [] back = refl
  places_back [] (y ∷ after) back = absurd back
  places_back (x ∷ before) [] back = absurd back
  places_back (x ∷ before) (y ∷ after) back =
      ap (λ (n : ℕ). n ∷ map place_of after) back.0.place ∙ ap (λ (l : List ℕ). place_of x ∷ l) (places_back before after back.1)

  pub each_back : (before after : List HandSeen) → CameBack plan before after → Each (IsHandAt plan) before → Each (IsHandAt plan) after
  each_back [] [] back each = tt
  each_back [] (y ∷ after) back each = absurd back
  each_back (x ∷ before) [] back each = absurd back
  each_back (x ∷ before) (y ∷ after) back each = (back.0.hand each.0, each_back before after back.1 each.1)

  pub stores_back : (before after : List HandSeen) → CameBack plan before after → AreStores plan before → AreStores plan after
  stores_back before after back stores = record {
    places = places_back before after back ∙ stores.places;
    each = all_of_each (IsHandAt plan) after (each_back before after back (each_of_all (IsHandAt plan) before stores.each));
  }

  pub out_back : (before after : List HandSeen) (out : Out) → CameBack plan before after → passes_out plan after out ≡ passes_out plan before out
  out_back [] [] out back = refl
  out_back [] (y ∷ after) out back = absurd back
  out_back (x ∷ before) [] out back = absurd back
  out_back (x ∷ before) (y ∷ after) out back =
      ap (one_out (data_path (slice_get plan.stores (place_of y))) (passes_of y)) (out_back before after out back.1)
      ∙ back.0.passes (data_path (slice_get plan.stores (place_of y))) (passes_out plan before out)
      ∙ ap (λ (n : ℕ). one_out (data_path (slice_get plan.stores n)) (passes_of x) (passes_out plan before out)) back.0.place

  -- Those of the run's stores came back among the others.
  module _ (run : RunPlan) (places : ℕ) (went came ready after : List HandSeen) (its : went ≡ of_run run ready) (same : map place_of after ≡ map place_of ready) (joins : Joins run places came (not_of_run run ready) after) where
    pub joined_back : CameBack plan went came → CameBack plan ready after
    joined_back back =
        in_step (works_in run) (OneBack plan) (same_back plan) ready after (sym same)
        (subst (λ (l : List HandSeen). CameBack plan l (of_run run after)) its (subst (λ (l : List HandSeen). CameBack plan went l) (sym joins.its) back)) (sym joins.others)

    pub joined_same : came ≡ went → after ≡ ready
    joined_same is =
        sym (equal_in_step ready after
        (in_step (works_in run) (λ (x : HandSeen) (y : HandSeen). x ≡ y) (λ hand. refl) ready after (sym same) (zip_same (of_run run ready) (of_run run after) (sym its ∙ sym is ∙ sym joins.its)) (sym joins.others)))
