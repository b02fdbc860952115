-- What holds of every valid plan.
use Rattle.std.specs.Prelude.{◌≤◌, Contains, IsSomeAnd, length, slice_get}
use Rattle.plan_types.specs.declared.plan.Plan.{Plan}
use Rattle.plan_types.specs.declared.run.RunPlan.{RunPlan}
use Rattle.plan_types.specs.declared.run.WorkerPlan.{WorkerPlan}
use Rattle.plan_types.specs.Valid.{IsPlan}
use Rattle.workload_gen.specs.Task.{CanDraw, task_of}

-- A worker of a run of a valid plan has a store, and can draw turns over it.
abbrev pub WorkersCanDraw : Type 0
WorkersCanDraw = (plan : Plan) (run : RunPlan) (worker : WorkerPlan) → IsPlan plan → Contains plan.runs run → Contains run.workers worker
    → IsSomeAnd (slice_get plan.stores worker.store) (λ store. CanDraw (task_of run worker store.id.geometry))

-- A run of a valid plan has few shares.
abbrev pub SharesAreFew : Type 0
SharesAreFew = (plan : Plan) (run : RunPlan) → IsPlan plan → Contains plan.runs run → length run.shares ≤ 4096
