-- What the workers of a run did, store by store, and what came back.
use Rattle.std.specs.Prelude.{⊤, ◌≡◌, ℕ, ◌+◌, ◌≤◌, All, List, [], ◌∷◌, length, map, Option, Some, None, slice_get}
use Rattle.std.specs.List.{flat_map}
use Rattle.vd_outside.specs.Clocks.{ClockSeen, Looked}
use Rattle.vd_arm.specs.Arm.{ArmSeen, PassSeen}
use Rattle.plan_types.specs.declared.plan.Plan.{Plan}
use Rattle.plan_types.specs.declared.run.RunPlan.{RunPlan}
use Rattle.plan_types.specs.declared.store.StorePlan.{StorePlan}
use Rattle.vd_yard.specs.Out.{AtArm}
use Rattle.vd_yard.specs.Yard.{Tells, YardSeen}
use Rattle.key_state.specs.declared.seen.BookSeen.{BookSeen}
use Rattle.claim_table.specs.Closings.{Returned}
use Rattle.claim_table.specs.Openings.{made_with}
use Rattle.claim_table.specs.Sums.{total}
use Rattle.error_limit.specs.Rule.{newest}
use Rattle.slave_worker.specs.declared.hand.RunAnswer.{RunAnswer}
use Rattle.slave_worker.specs.declared.hand.StoreHand.{StoreHand}
use Rattle.slave_worker.specs.Hands.{OfStore, hand_seen, workers_in}
use Rattle.master_run.specs.Labors.{DidWork, Labor}
use Rattle.master_run.specs.Yards.{TookArms, WereUsed}

-- when the run began, the clock as it was then, and what the yard tells
pub record Beginning : Type 0 where
  pub start : ℕ
  pub clock : ClockSeen
  pub tells : Tells

module _ {P B : Type 0} (pass_seen : P → PassSeen) (book_seen : B → BookSeen) (plan : Plan) (run : RunPlan) (beginning : Beginning) where
  -- The workers of a store did this with what went in, and that came back.
  pub record Ran (store : StorePlan) (hand : StoreHand P B) (labors : List Labor) (back : StoreHand P B) : Type 0 where
    pub same : back.store ≡ hand.store
    pub workers : map (λ (labor : Labor). labor.worker) labors ≡ workers_in run hand.store
    pub each : All (DidWork plan run store.id beginning.start beginning.clock (made_with pass_seen book_seen store.id (length labors) hand.passes.items hand.book) (beginning.tells.sure AtArm store.path)) labors
    pub returned : Returned (made_with pass_seen book_seen store.id (length labors) hand.passes.items hand.book) (map (λ (labor : Labor). labor.view) labors) (map pass_seen back.passes.items) (book_seen back.book)

  -- So did those of each store of the run.
  abbrev pub RanAll : List (StoreHand P B) → List (List Labor) → List (StoreHand P B) → Type 0
  RanAll [] [] [] = ⊤
  RanAll (hand ∷ hands) (labors ∷ crews) (back ∷ backs) = OfStore plan hand.store (λ store. Ran store hand labors back) × RanAll hands crews backs
  RanAll _ _ _ = ⊥

-- a store's path
abbrev pub path_of : Option StorePlan → List ℕ
path_of None = []
path_of (Some store) = store.path

-- the arms of workers, each with the path of its store
abbrev pub arms_of : Plan → List Labor → List (List ℕ × ArmSeen)
arms_of plan labors = map (λ (labor : Labor). (path_of (slice_get plan.stores labor.worker.store), labor.arm)) labors

-- the labors of crews, crew by crew
abbrev pub all_labors : List (List Labor) → List Labor
all_labors crews = flat_map (λ (labors : List Labor). labors) crews

-- What a run did whose workers started: the labors of each store's workers, and what came of all of them.
pub record DidRun {P B : Type 0} (pass_seen : P → PassSeen) (book_seen : B → BookSeen) (plan : Plan) (run : RunPlan) (errors_before : ℕ) (yard_before yard_after : YardSeen) (clock_before clock_after : ClockSeen) (hands : List (StoreHand P B)) (answer : RunAnswer P B) : Type 0 where
  pub start : ℕ
  pub crews : List (List Labor)
  -- the clock is read once
  pub clock : Looked clock_before clock_after start
  pub ran : RanAll pass_seen book_seen plan run (record { start = start; clock = clock_after; tells = yard_before.tells }) hands crews answer.hands.items
  -- one worker's labor for each worker, in the plan's order
  pub workers : map (λ (labor : Labor). labor.worker) (all_labors crews) ≡ run.workers
  pub tallies : answer.tallies.items ≡ map (λ (labor : Labor). labor.tally) (all_labors crews)
  pub ends : answer.ends.items ≡ map (λ (labor : Labor). labor.end) (all_labors crews)
  -- the errors are those from before and all notes, of which none was answered more
  pub errors : answer.errors ≡ errors_before + total (λ (labor : Labor). labor.notes) (all_labors crews)
  pub last : All (λ (labor : Labor). newest labor.answers ≤ answer.errors) (all_labors crews)
  pub yard : WereUsed (arms_of plan (all_labors crews)) yard_before yard_after

-- The hands came back as they were: each has the same book, and passes that tell what they told.
abbrev pub AreSameHands : {P B : Type 0} → (P → PassSeen) → (B → BookSeen) → List (StoreHand P B) → List (StoreHand P B) → Type 0
AreSameHands pass_seen book_seen hands backs = map (hand_seen pass_seen book_seen) backs ≡ map (hand_seen pass_seen book_seen) hands

-- What a run did whose workers didn't start: nothing, but that arms may have been opened and given back unused. By that the yard's count of
-- faults may have risen, and files may have come.
pub record DidNotRun {P B : Type 0} (pass_seen : P → PassSeen) (book_seen : B → BookSeen) (errors_before : ℕ) (yard_before yard_after : YardSeen) (clock_before clock_after : ClockSeen) (hands : List (StoreHand P B)) (answer : RunAnswer P B) : Type 0 where
  pub same : AreSameHands pass_seen book_seen hands answer.hands.items
  pub tallies : answer.tallies.items ≡ []
  pub ends : answer.ends.items ≡ []
  pub errors : answer.errors ≡ errors_before
  pub clock : clock_after ≡ clock_before
  pub yard : TookArms [] yard_before yard_after
