-- The hands of a run's stores, as they go in.
use Rattle.std.proofs.Common.{◌≡◌, ◌∙◌, sym, ap, subst, inl, inr, ℕ, true, not, List, [], filter, length, map}
use Rattle.std.specs.Prelude.{◌≢◌}
use Rattle.std.specs.List.{range_with_len}
use Rattle.std.proofs.lemmas.List.{length-map}
use Rattle.std.proofs.lemmas.List.FromFn.{length-range_with_len}
use Rattle.std.proofs.lemmas.Simd.{map-map}
use Rattle.vd_arm.specs.Arm.{PassSeen}
use Rattle.plan_types.specs.declared.plan.Plan.{Plan}
use Rattle.plan_types.specs.declared.run.RunPlan.{RunPlan}
use Rattle.plan_types.specs.declared.store.StorePlan.{StorePlan}
use Rattle.key_state.specs.declared.seen.BookSeen.{BookSeen}
use Rattle.claim_table.specs.Passes.{ArePasses}
use Rattle.claim_table.specs.Sums.{Each}
use Rattle.slave_worker.specs.Hands.{AreHands, HandSeen, IsHandOf, OfStore, hand_seen, stores_in, works_in}
use Rattle.slave_worker.specs.declared.hand.StoreHand.{StoreHand}
use Rattle.plan_hands.specs.Stores.{AreStores, IsHandAt, book_of, not_of_run, of_run, passes_of, place_of}
use Rattle.run_totals.proofs.Lists.{each_both, each_from, each_of_all, filter_of_map}
use Rattle.plan_runs.specs.Ready.{AreOpen}
use Rattle.plan_runs.proofs.Chosen.{all_of_each, each_chosen, each_unmapped}

module _ {P B : Type 0} (pass_seen : P → PassSeen) (book_seen : B → BookSeen) (plan : Plan) (run : RunPlan) where
  abbrev seen : StoreHand P B → HandSeen
  seen hand = hand_seen pass_seen book_seen hand

  abbrev HasPasses : HandSeen → Type 0
  HasPasses hand = OfStore plan (place_of hand) (λ (store : StorePlan). ArePasses store.id (passes_of hand) × (length (book_of hand).now ≡ store.id.geometry.blocks))

  has_passes : (hand : HandSeen) → IsHandAt plan hand → (works_in run (place_of hand) ≡ true → passes_of hand ≢ []) → works_in run (place_of hand) ≡ true → HasPasses hand
  has_passes hand is may works = elim (is.its.2.0) [
    | inl none ↦ absurd (may works none)
    | inr passes ↦ (is.its.0, is.its.1, (passes, is.its.2.1))
  ]

  module _ (hands : List (StoreHand P B)) (ready : List HandSeen) (are : AreOpen plan run ready) (its : map (hand_seen pass_seen book_seen) hands ≡ of_run run ready) where
    pub its_places : map place_of (map (hand_seen pass_seen book_seen) hands) ≡ stores_in plan run
    its_places = ap (map place_of) its ∙ sym (filter_of_map place_of (works_in run) ready) ∙ ap (filter (works_in run)) are.stores.places

    each_has : Each (λ (hand : StoreHand P B). HasPasses (hand_seen pass_seen book_seen hand)) hands
    each_has =
        each_unmapped HasPasses (hand_seen pass_seen book_seen) hands
        (subst (Each HasPasses) (sym its)
        (each_chosen HasPasses (λ (hand : HandSeen). works_in run (place_of hand)) ready
        (each_both (IsHandAt plan) (λ (hand : HandSeen). works_in run (place_of hand) ≡ true → passes_of hand ≢ []) (λ (hand : HandSeen). works_in run (place_of hand) ≡ true → HasPasses hand) ready has_passes
        (each_of_all (IsHandAt plan) ready are.stores.each)
        (each_of_all (λ (hand : HandSeen). works_in run (place_of hand) ≡ true → passes_of hand ≢ []) ready are.are_open))))

    pub are_hands : AreHands pass_seen book_seen plan run hands
    are_hands = record {
      places = sym (map-map place_of (hand_seen pass_seen book_seen) hands) ∙ its_places;
      each = all_of_each (λ (hand : StoreHand P B). OfStore plan hand.store (λ (store : StorePlan). IsHandOf pass_seen book_seen store hand)) hands
          (each_from (λ (hand : StoreHand P B). HasPasses (hand_seen pass_seen book_seen hand)) (λ (hand : StoreHand P B). OfStore plan hand.store (λ (store : StorePlan). IsHandOf pass_seen book_seen store hand)) hands
          (λ hand has. (has.0, has.1, record { are_passes = has.2.0; sized = has.2.1 })) each_has);
    }

  -- the places of the others
  pub resting_places : (ready : List HandSeen) → AreStores plan ready → map place_of (not_of_run run ready) ≡ filter (λ (place : ℕ). not (works_in run place)) (range_with_len 0 (length plan.stores))
  resting_places ready stores =
      sym (filter_of_map place_of (λ (place : ℕ). not (works_in run place)) ready) ∙ ap (filter (λ (place : ℕ). not (works_in run place))) stores.places

-- There are as many hands as stores.
pub as_many : (plan : Plan) (hands : List HandSeen) → AreStores plan hands → length hands ≡ length plan.stores
as_many plan hands stores = sym (length-map hands place_of) ∙ ap length stores.places ∙ length-range_with_len 0 (length plan.stores)
