-- The hands of a plan's stores once passes were opened.
use Rattle.std.proofs.Common.{◌≡◌, ◌∙◌, refl, sym, ap, subst, arith, inr, ℕ, ◌<◌, true, false, List, [], ◌∷◌, ◌++◌, length, map, Some, slice_get}
use Rattle.std.specs.Prelude.{◌≢◌, All}
use Rattle.std.specs.List.{AllZip}
use Rattle.std.proofs.lemmas.List.{map-append}
use Rattle.std.proofs.lemmas.Option.{same_Some, slice_get_within}
use Rattle.vd_arm.specs.Arm.{PassSeen}
use Rattle.vd_yard.specs.Yard.{YardSeen}
use Rattle.plan_types.specs.Valid.{IsPlan, IsStore}
use Rattle.plan_types.specs.declared.plan.Plan.{Plan}
use Rattle.plan_types.specs.declared.run.RunPlan.{RunPlan}
use Rattle.plan_types.specs.declared.store.StorePlan.{StorePlan}
use Rattle.key_state.specs.declared.seen.BookSeen.{BookSeen}
use Rattle.claim_table.specs.Passes.{ArePasses}
use Rattle.claim_table.specs.Sums.{Each}
use Rattle.slave_worker.specs.Hands.{HandSeen, hand_seen, works_in}
use Rattle.slave_worker.specs.declared.hand.RunFault.{RunFault}
use Rattle.slave_worker.specs.declared.hand.RunFault.TheVariants as refusal
use Rattle.slave_worker.specs.declared.hand.StoreHand.{StoreHand}
use Rattle.plan_hands.specs.Openings.{Opened, StopsOpening, not_needed, opened, was_open}
use Rattle.plan_hands.specs.Stores.{AreStores, IsHandAt, book_of, passes_of, place_of}
use Rattle.run_totals.proofs.Lists.{all_at, each_append, each_from, each_of_all}
use Rattle.plan_runs.specs.Ready.{AreOpen}
use Rattle.plan_runs.proofs.Chosen.{all_of_each, each_middle, each_unmapped}

module _ (plan : Plan) (valid : IsPlan plan) where
  pub some_blocks : (place : ℕ) (store : StorePlan) → slice_get plan.stores place ≡ Some store → 0 < store.id.geometry.blocks
  some_blocks place store at = (all_at IsStore plan.stores place store valid.stores at).geometry.some_blocks

  module _ (run : RunPlan) (yard : YardSeen) where
    abbrev IsOpen : HandSeen → Type 0
    IsOpen hand = works_in run (place_of hand) ≡ true → passes_of hand ≢ []

    opened_one : (a b : HandSeen) → Opened plan run yard a b → IsHandAt plan a → (place_of b ≡ place_of a) × IsHandAt plan b × IsOpen b
    opened_one a b (opened works none (store, is, has)) hand =
        let same : hand.its.0 ≡ store = same_Some hand.its.0 store (sym hand.its.1 ∙ is) in
        let long : length (book_of b).now ≡ store.id.geometry.blocks =
        ap (λ (k : BookSeen). length k.now) has.book ∙ hand.its.2.1 ∙ ap (λ (s : StorePlan). s.id.geometry.blocks) same in
        let passes : ArePasses store.id (passes_of b) = record {
          many = has.blocks.as_many;
          each = λ block pass at. (has.blocks.blocks block pass at, has.blocks.sizes block pass at);
        } in
        let there : slice_get plan.stores (place_of b) ≡ Some store = ap (λ (n : ℕ). slice_get plan.stores n) has.place ∙ is in
        (has.place, record { its = (store, there, (inr passes, long)) }, λ needed closed. omega (arith, has.blocks.as_many, some_blocks (place_of a) store is, ap length closed))
    opened_one a b (was_open some is) hand =
        (ap place_of is, subst (IsHandAt plan) (sym is) hand, λ needed closed. some (sym (ap passes_of is) ∙ closed))
    opened_one a b (not_needed works is) hand =
        (ap place_of is, subst (IsHandAt plan) (sym is) hand, λ needed closed. let so : true ≡ false = sym needed ∙ ap (λ (h : HandSeen). works_in run (place_of h)) is ∙ works in cc)

    opened_all : (before after : List HandSeen) → AllZip (Opened plan run yard) before after → Each (IsHandAt plan) before → (map place_of after ≡ map place_of before) × Each (IsHandAt plan) after × Each IsOpen after
    opened_all [] [] all each = (refl, tt, tt)
    opened_all [] (b ∷ after) all each = absurd all
    opened_all (a ∷ before) [] all each = absurd all
    opened_all (a ∷ before) (b ∷ after) all each =
        let one = opened_one a b all.0 each.0 in
        let rest = opened_all before after all.1 each.1 in
        (ap (λ (n : ℕ). n ∷ map place_of after) one.0 ∙ ap (λ (l : List ℕ). place_of a ∷ l) rest.0, (one.1, rest.1), (one.2, rest.2))

    -- All that the run needs are open.
    pub are_open : (before after : List HandSeen) → AreStores plan before → AllZip (Opened plan run yard) before after → AreOpen plan run after
    are_open before after stores all =
        let now = opened_all before after all (each_of_all (IsHandAt plan) before stores.each) in
        record {
          stores = record { places = now.0 ∙ stores.places; each = all_of_each (IsHandAt plan) after now.1 };
          are_open = all_of_each IsOpen after now.2;
        }

    -- Some are, and the one that isn't is named by its place.
    pub stores_still : (before after : List HandSeen) (why : RunFault) → AreStores plan before → StopsOpening plan run yard before after why → AreStores plan after
    stores_still before after why stores stops =
        let split = each_middle (IsHandAt plan) stops.front stops.stops stops.back (subst (Each (IsHandAt plan)) stops.is_before (each_of_all (IsHandAt plan) before stores.each)) in
        let now = opened_all stops.front stops.now_open stops.each split.0 in
        let places : map place_of after ≡ map place_of before =
        ap (map place_of) stops.is_after ∙ map-append place_of stops.now_open (stops.stops ∷ stops.back)
        ∙ ap (λ (l : List ℕ). l ++ map place_of (stops.stops ∷ stops.back)) now.0
        ∙ sym (map-append place_of stops.front (stops.stops ∷ stops.back)) ∙ sym (ap (map place_of) stops.is_before) in
        record {
          places = places ∙ stores.places;
          each = all_of_each (IsHandAt plan) after (subst (Each (IsHandAt plan)) (sym stops.is_after) (each_append (IsHandAt plan) stops.now_open (stops.stops ∷ stops.back) now.1 (split.1, split.2)));
        }

    pub stops_named : (before after : List HandSeen) (why : RunFault) → AreStores plan before → StopsOpening plan run yard before after why → (store : ℕ) → why ≡ refusal.Yard store → store < length plan.stores
    stops_named before after why stores stops store is =
        let split = each_middle (IsHandAt plan) stops.front stops.stops stops.back (subst (Each (IsHandAt plan)) stops.is_before (each_of_all (IsHandAt plan) before stores.each)) in
        let its = split.1.its in
        omega (arith, stops.refused.named store is, slice_get_within plan.stores (place_of stops.stops) its.0 its.1)

-- Each hand's store is there.
pub all_there : {P B : Type 0} (pass_seen : P → PassSeen) (book_seen : B → BookSeen) (plan : Plan) (hands : List (StoreHand P B)) → AreStores plan (map (hand_seen pass_seen book_seen) hands) → All (λ (hand : StoreHand P B). hand.store < length plan.stores) hands
all_there {P} {B} pass_seen book_seen plan hands stores =
    all_of_each (λ (hand : StoreHand P B). hand.store < length plan.stores) hands
    (each_from (λ (hand : StoreHand P B). IsHandAt plan (hand_seen pass_seen book_seen hand)) (λ (hand : StoreHand P B). hand.store < length plan.stores) hands
    (λ hand is. slice_get_within plan.stores hand.store is.its.0 is.its.1)
    (each_unmapped (IsHandAt plan) (hand_seen pass_seen book_seen) hands (each_of_all (IsHandAt plan) (map (hand_seen pass_seen book_seen) hands) stores.each)))
