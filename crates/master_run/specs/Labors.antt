-- What a worker of a run did.
use Rattle.std.specs.Prelude.{◌≡◌, ℕ, ◌^◌, Bool, List, []}
use Rattle.vd_base.specs.declared.geometry.StoreId.{StoreId}
use Rattle.vd_outside.specs.Clocks.{ClockSeen}
use Rattle.vd_arm.specs.Arm.{ArmSeen}
use Rattle.plan_types.specs.declared.plan.Plan.{Plan}
use Rattle.plan_types.specs.declared.run.RunPlan.{RunPlan}
use Rattle.plan_types.specs.declared.run.WorkerPlan.{WorkerPlan}
use Rattle.claim_table.specs.Views.{fresh}
use Rattle.claim_table.specs.declared.view.Made.{Made}
use Rattle.claim_table.specs.declared.view.View.{View}
use Rattle.worker_tally.specs.Tallies.{Tallied, no_numbers}
use Rattle.workload_gen.specs.Task.{task_of}
use Rattle.workload_gen.specs.Turns.{turns_of}
use Rattle.slave_worker.specs.Ends.{rules_of}
use Rattle.slave_worker.specs.Standings.{standing}
use Rattle.slave_worker.specs.Works.{HasWorked}
use Rattle.slave_worker.specs.declared.did.WorkEnd.{WorkEnd}
use Rattle.master_run.specs.Yards.{fresh_arm}

-- a worker after its work: the view of its seat, its tally, its arm, how often it noted an error and what its notes were answered, the
-- newest first, its clock, and why its work ended
pub record Labor : Type 0 where
  pub worker : WorkerPlan
  pub view : View
  pub tally : Tallied
  pub arm : ArmSeen
  pub notes : ℕ
  pub answers : List ℕ
  pub clock : ClockSeen
  pub end : WorkEnd

-- a tally of no turns
pub record IsEmptyTally (tally : Tallied) : Type 0 where
  pub numbers : tally.numbers ≡ no_numbers
  pub rows : tally.rows ≡ []
  pub findings : tally.findings ≡ []

-- The worker made turns of its draw, over a table that was made so, from a seat, a tally and an arm that were new and from a clock as the
-- run's was at its start.
pub record DidWork (plan : Plan) (run : RunPlan) (store : StoreId) (start : ℕ) (clock : ClockSeen) (made : Made) (sure : Bool) (labor : Labor) : Type 0 where
  pub empty : Tallied
  pub is_empty : IsEmptyTally empty
  pub many : ℕ
  pub worked : HasWorked (rules_of plan run labor.worker start) store run.turns (turns_of (task_of run labor.worker store.geometry) many) (standing (fresh made (2 ^ 32)) empty (fresh_arm sure) 0 clock) (standing labor.view labor.tally labor.arm labor.notes labor.clock) labor.answers labor.end
