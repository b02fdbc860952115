-- The workers of a run.
use Rattle.std.specs.Prelude.{ℕ, List, [], ◌∷◌, ◌++◌, ◌+◌, ◌*◌, ◌/◌, ◌%◌, Option, Some, None, length, map, slice_get}
use Rattle.std.specs.List.{range_with_len}
use Rattle.plan_types.specs.declared.run.RunPlan.{RunPlan}
use Rattle.plan_types.specs.declared.run.WorkerPlan.{WorkerPlan}
use Rattle.plan_types.specs.declared.store.StorePlan.{StorePlan}
use Rattle.run_plan.specs.declared.runs.Draft.{Draft}
use Rattle.run_plan.specs.Runs.{or_else, stores_of}

-- the i-th of so many workers of a store
abbrev pub worker_of : StorePlan → ℕ → ℕ → ℕ → ℕ → ℕ → WorkerPlan
worker_of plan store slaves many number i = record {
  number = number + i;
  slave = (number + i) % slaves + 1;
  store = store;
  start = i * plan.id.geometry.blocks / many;
}

-- a store's workers, from a number on
abbrev pub workers_at : Option StorePlan → ℕ → ℕ → Option ℕ → ℕ → List WorkerPlan
workers_at (Some plan) store slaves choice number =
    let many = or_else choice plan.threads in map (worker_of plan store slaves many number) (range_with_len 0 many)
workers_at None store slaves choice number = []

-- the workers of stores, numbered store by store
abbrev pub workers_of : List StorePlan → ℕ → Option ℕ → List WorkerPlan → List ℕ → List WorkerPlan
workers_of plans slaves choice before [] = before
workers_of plans slaves choice before (store ∷ stores) =
    workers_of plans slaves choice (before ++ workers_at (slice_get plans store) store slaves choice (length before)) stores

-- a run with its workers
abbrev pub run_of : List StorePlan → Draft → RunPlan
run_of plans draft = record draft.run {
  workers = workers_of plans draft.run.slaves draft.threads [] (stores_of (length plans) draft.run.shares);
}
