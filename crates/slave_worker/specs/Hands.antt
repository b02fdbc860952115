-- What goes into a run.
use Rattle.std.specs.Prelude.{◌≡◌, ℕ, ◌<◌, ◌==◌, Bool, List, All, filter, length, map, Some, slice_get}
use Rattle.std.specs.List.{list_any, range_with_len}
use Rattle.vd_arm.specs.Arm.{PassSeen}
use Rattle.plan_types.specs.Valid.{IsPlan}
use Rattle.plan_types.specs.declared.plan.Plan.{Plan}
use Rattle.plan_types.specs.declared.run.RunPlan.{RunPlan}
use Rattle.plan_types.specs.declared.run.WorkerPlan.{WorkerPlan}
use Rattle.plan_types.specs.declared.store.StorePlan.{StorePlan}
use Rattle.key_state.specs.declared.seen.BookSeen.{BookSeen}
use Rattle.claim_table.specs.Passes.{ArePasses}
use Rattle.slave_worker.specs.declared.hand.StoreHand.{StoreHand}

-- the workers of a store among these, and in a run, in the plan's order
abbrev pub workers_at : ℕ → List WorkerPlan → List WorkerPlan
workers_at store workers = filter (λ worker. worker.store == store) workers

abbrev pub workers_in : RunPlan → ℕ → List WorkerPlan
workers_in run store = workers_at store run.workers

-- whether the store at a place has a worker in a run
abbrev pub works_in : RunPlan → ℕ → Bool
works_in run store = list_any (λ worker. worker.store == store) run.workers

-- the stores of a run, in order of definition
abbrev pub stores_in : Plan → RunPlan → List ℕ
stores_in plan run = filter (works_in run) (range_with_len 0 (length plan.stores))

-- all that contracts see of a hand: its store's place, its passes, and its book
abbrev pub HandSeen : Type 0
HandSeen = ℕ × List PassSeen × BookSeen

abbrev pub hand_seen : {P B : Type 0} → (P → PassSeen) → (B → BookSeen) → StoreHand P B → HandSeen
hand_seen pass_seen book_seen hand = (hand.store, map pass_seen hand.passes.items, book_seen hand.book)

-- A store's passes, one for each block in block order, and a book with one entry for each.
pub record IsHandOf {P B : Type 0} (pass_seen : P → PassSeen) (book_seen : B → BookSeen) (store : StorePlan) (hand : StoreHand P B) : Type 0 where
  pub are_passes : ArePasses store.id (map pass_seen hand.passes.items)
  pub sized : length (book_seen hand.book).now ≡ store.id.geometry.blocks

-- The store at this place of the plan has this.
abbrev pub OfStore : Plan → ℕ → (StorePlan → Type 0) → Type 0
OfStore plan place Has = (store : StorePlan) × (slice_get plan.stores place ≡ Some store) × Has store

-- The hand of a store that has workers in the run.
pub record IsHandIn {P B : Type 0} (pass_seen : P → PassSeen) (book_seen : B → BookSeen) (plan : Plan) (run : RunPlan) (hand : StoreHand P B) : Type 0 where
  pub its : OfStore plan hand.store (λ store. IsHandOf pass_seen book_seen store hand)
  pub some : 0 < length (workers_in run hand.store)

-- The hands of the stores of a run, in order of definition.
pub record AreHands {P B : Type 0} (pass_seen : P → PassSeen) (book_seen : B → BookSeen) (plan : Plan) (run : RunPlan) (hands : List (StoreHand P B)) : Type 0 where
  pub places : map (λ hand. hand.store) hands ≡ stores_in plan run
  pub each : All (λ hand. OfStore plan hand.store (λ store. IsHandOf pass_seen book_seen store hand)) hands

-- a run of a valid plan
pub record IsRunOf (plan : Plan) (run : RunPlan) : Type 0 where
  pub valid : IsPlan plan
  pub number : (i : ℕ) × (slice_get plan.runs i ≡ Some run)
