-- A run whose workers started, with all that is seen of it.
use Rattle.std.specs.Prelude.{◌≡◌, ℕ, Bool, true, false, List, All, Some, slice_get}
use Rattle.std.specs.List.{zip}
use Rattle.vd_outside.specs.Clocks.{ClockSeen}
use Rattle.vd_arm.specs.Arm.{PassSeen}
use Rattle.plan_types.specs.declared.plan.Plan.{Plan}
use Rattle.plan_types.specs.declared.run.RunPlan.{RunPlan}
use Rattle.plan_types.specs.declared.store.StorePlan.{StorePlan}
use Rattle.vd_yard.specs.Yard.{YardSeen}
use Rattle.key_state.specs.declared.seen.BookSeen.{BookSeen}
use Rattle.slave_worker.specs.declared.did.WorkEnd.{WorkEnd}
use Rattle.slave_worker.specs.declared.did.WorkEnd.TheVariants as work_end
use Rattle.slave_worker.specs.declared.hand.RunAnswer.{RunAnswer}
use Rattle.slave_worker.specs.declared.hand.StoreHand.{StoreHand}
use Rattle.master_run.specs.Crews.{DidRun}
use Rattle.slave_worker.specs.Hands.{AreHands, IsRunOf}
use Rattle.run_report.specs.Runs.{group_totals}
use Rattle.run_report.specs.declared.run_sums.Group.TheVariants as group
use Rattle.run_report.specs.declared.run_sums.Totals.{Totals}

-- whether a worker's work ended by a fault of its book
abbrev pub is_by_book : WorkEnd → Bool
is_by_book (work_end.Book fault) = true
is_by_book work_end.TurnsMade = false
is_by_book (work_end.TimeUp last) = false
is_by_book (work_end.ErrorLimit seen) = false

module _ {P B : Type 0} (pass_seen : P → PassSeen) (book_seen : B → BookSeen) where
  -- A run of a valid plan over the hands of its stores, whose workers started.
  pub record WholeRun : Type 0 where
    pub plan : Plan
    pub run : RunPlan
    pub errors_before : ℕ
    pub yard_before : YardSeen
    pub yard_after : YardSeen
    pub clock_before : ClockSeen
    pub clock_after : ClockSeen
    pub hands : List (StoreHand P B)
    pub answer : RunAnswer P B
    pub is_run : IsRunOf plan run
    pub are_hands : AreHands pass_seen book_seen plan run hands
    pub did : DidRun pass_seen book_seen plan run errors_before yard_before yard_after clock_before clock_after hands answer

  -- One of its stores, with its hand as it went in and as it came back.
  pub record StoreOf (whole : WholeRun) : Type 0 where
    pub at : ℕ
    pub hand : StoreHand P B
    pub back : StoreHand P B
    pub store : StorePlan
    pub went_in : slice_get whole.hands at ≡ Some hand
    pub came_back : slice_get whole.answer.hands.items at ≡ Some back
    pub its_store : slice_get whole.plan.stores hand.store ≡ Some store

  -- the totals of the store's workers, as its total line has them
  abbrev pub totals_of_store : (whole : WholeRun) → StoreOf whole → Totals
  totals_of_store whole its = group_totals (group.Store its.hand.store) (zip whole.run.workers whole.answer.tallies.items)

  -- no worker of the store ended by its book
  abbrev pub NoneByBook : (whole : WholeRun) → StoreOf whole → Type 0
  NoneByBook whole its = All (λ one. one.0.store ≡ its.hand.store → is_by_book one.1 ≡ false) (zip whole.run.workers whole.answer.ends.items)
