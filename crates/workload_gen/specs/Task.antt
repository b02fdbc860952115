-- What a worker's turns are drawn from.
use Rattle.std.specs.Prelude.{ℕ, ◌/◌, ◌<◌, ◌≤◌, ◌==◌, Bool, List, All, filter, length, map, sum_by}
use Rattle.std.specs.List.{enumerate_from}
use Rattle.vd_base.specs.Geometry.{Shape}
use Rattle.plan_types.specs.declared.run.RunPlan.{RunPlan}
use Rattle.plan_types.specs.declared.run.Share.{Share}
use Rattle.plan_types.specs.declared.run.WorkerPlan.{WorkerPlan}
use Rattle.plan_types.specs.Valid.{IsFrom}
use Rattle.workload_gen.specs.declared.task.StoreShare.{StoreShare}
use Rattle.workload_gen.specs.declared.task.Task.{Task}

-- whether a share, beside its place, is of a store
abbrev pub is_of : ℕ → ℕ × Share → Bool
is_of store placed = placed.1.store == store

-- a share as turns are drawn by it, with its transfer in blocks of this size
abbrev pub store_share : ℕ → ℕ × Share → StoreShare
store_share block_size placed = record {
  place = placed.0;
  weight = placed.1.weight;
  rdpct = placed.1.rdpct;
  seekpct = placed.1.seekpct;
  many = placed.1.xfersize / block_size;
}

-- the shares of a store among those of a run, in their order, each with its place in the run
abbrev pub shares_of : ℕ → ℕ → List Share → List StoreShare
shares_of block_size store shares = map (store_share block_size) (filter (is_of store) (enumerate_from 0 shares))

-- the task of a worker of a run, over a store of this shape
abbrev pub task_of : RunPlan → WorkerPlan → Shape → Task
task_of run worker shape = record {
  run = run.number;
  worker = worker.number;
  workers = length run.workers;
  rate = run.iorate;
  blocks = shape.blocks;
  start = worker.start;
  shares = shares_of shape.block_size worker.store run.shares;
}

-- the weights of shares, added up
abbrev pub weight_of : List StoreShare → ℕ
weight_of shares = sum_by (λ share. share.weight) shares

-- a transfer is of 1 to 64 blocks, and the store has so many
pub record IsTransfer (blocks : ℕ) (share : StoreShare) : Type 0 where
  pub many : IsFrom 1 64 share.many
  pub within : share.many ≤ blocks

-- turns can be drawn
pub record CanDraw (task : Task) : Type 0 where
  pub start : task.start < task.blocks
  pub some_weight : 0 < weight_of task.shares
  pub transfers : All (IsTransfer task.blocks) task.shares
  pub few_workers : task.workers ≤ 512
