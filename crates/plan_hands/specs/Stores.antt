-- The stores of a plan between its runs: each with its book, and with its passes once a run has needed them.
use Rattle.std.specs.Prelude.{◌≡◌, ◌⊎◌, ℕ, not, List, [], All, filter, length, map}
use Rattle.std.specs.List.{range_with_len, zip}
use Rattle.vd_arm.specs.Arm.{PassSeen}
use Rattle.plan_types.specs.declared.plan.Plan.{Plan}
use Rattle.plan_types.specs.declared.run.RunPlan.{RunPlan}
use Rattle.key_state.specs.declared.seen.BookSeen.{BookSeen}
use Rattle.claim_table.specs.Passes.{ArePasses}
use Rattle.slave_worker.specs.Hands.{HandSeen, OfStore, works_in}
use Rattle.slave_worker.specs.declared.hand.StoreHand.{StoreHand}

-- a hand's store, by its place in the plan; its passes, none where they aren't open; and its book
abbrev pub place_of : HandSeen → ℕ
place_of hand = hand.0

abbrev pub passes_of : HandSeen → List PassSeen
passes_of hand = hand.1

abbrev pub book_of : HandSeen → BookSeen
book_of hand = hand.2

-- hands of these books, store by store, none with open passes
abbrev pub with_books : List BookSeen → List HandSeen
with_books books = map (λ (one : ℕ × BookSeen). (one.0, [], one.1)) (zip (range_with_len 0 (length books)) books)

-- The hand of a store of the plan: its passes are open or not, and its book has an entry of each block.
pub record IsHandAt (plan : Plan) (hand : HandSeen) : Type 0 where
  pub its : OfStore plan (place_of hand) (λ store. ((passes_of hand ≡ []) ⊎ ArePasses store.id (passes_of hand)) × (length (book_of hand).now ≡ store.id.geometry.blocks))

-- one hand for each store of the plan, in order
pub record AreStores (plan : Plan) (hands : List HandSeen) : Type 0 where
  pub places : map place_of hands ≡ range_with_len 0 (length plan.stores)
  pub each : All (IsHandAt plan) hands

-- the hands of the stores of a run, and the others
abbrev pub of_run : RunPlan → List HandSeen → List HandSeen
of_run run hands = filter (λ hand. works_in run (place_of hand)) hands

abbrev pub not_of_run : RunPlan → List HandSeen → List HandSeen
not_of_run run hands = filter (λ hand. not (works_in run (place_of hand))) hands

-- These are the hands of so many stores, in order, of which the run's are these and the others those.
pub record Joins (run : RunPlan) (places : ℕ) (active resting all : List HandSeen) : Type 0 where
  pub in_order : map place_of all ≡ range_with_len 0 places
  pub its : of_run run all ≡ active
  pub others : not_of_run run all ≡ resting

-- A hand keeps its store, its book, and its passes where they are open.
pub record KeepsHand {P B : Type 0} (before after : StoreHand P B) : Type 0 where
  pub place : after.store ≡ before.store
  pub same_book : after.book ≡ before.book
  pub open_passes : (before.passes.items ≡ [] → ⊥) → after.passes.items ≡ before.passes.items
