-- Which plans are valid.
use Rattle.std.specs.Prelude.{◌≡◌, ℕ, List, [], ◌∷◌, ◌+◌, ◌-◌, ◌/◌, ◌%◌, ◌<◌, ◌≤◌, ◌^◌, All, AllPairs, Contains, IfSome, IsTrue, length, map, slice_get, sum}
use Rattle.std.specs.List.{flat_map}
use Rattle.vd_base.specs.Geometry.{IsGeometry}
use Rattle.vd_base.specs.Name.{is_padded_name}
use Rattle.plan_types.specs.declared.plan.Plan.{Plan}
use Rattle.plan_types.specs.declared.run.Format.TheVariants.{No}
use Rattle.plan_types.specs.declared.run.RunPlan.{RunPlan}
use Rattle.plan_types.specs.declared.run.Share.{Share}
use Rattle.plan_types.specs.declared.run.WorkerPlan.{WorkerPlan}
use Rattle.plan_types.specs.declared.store.StorePlan.{StorePlan}

-- a number from least to greatest
pub record IsFrom (least greatest n : ℕ) : Type 0 where
  pub at_least : least ≤ n
  pub at_most : n ≤ greatest

-- no two are the same
abbrev pub AreDifferent : List (List ℕ) → Type 0
AreDifferent texts = AllPairs (λ a b. a ≡ b → ⊥) texts

-- a transfer is 1 to 64 whole blocks of its store, and the store has so many
pub record IsTransferOf (store : StorePlan) (xfersize : ℕ) : Type 0 where
  pub whole : xfersize % store.id.geometry.block_size ≡ 0
  pub many : IsFrom 1 64 (xfersize / store.id.geometry.block_size)
  pub within : xfersize / store.id.geometry.block_size ≤ store.id.geometry.blocks

pub record IsShare (stores : List StorePlan) (share : Share) : Type 0 where
  pub store : share.store < length stores
  pub transfer : IfSome (slice_get stores share.store) (λ store. IsTransferOf store share.xfersize)
  pub xfersize : share.xfersize ≤ 1048576
  pub rdpct : share.rdpct ≤ 100
  pub seekpct : share.seekpct ≤ 100
  pub weight : IsFrom 1 100 share.weight

pub record IsWorker (stores : List StorePlan) (slaves : ℕ) (worker : WorkerPlan) : Type 0 where
  pub store : worker.store < length stores
  pub slave : worker.slave ≡ worker.number % slaves + 1
  pub start : IfSome (slice_get stores worker.store) (λ store. worker.start < store.id.geometry.blocks)

-- how many intervals a run of so many seconds has
abbrev pub intervals_of : ℕ → ℕ → ℕ
intervals_of elapsed interval = (elapsed + interval - 1) / interval

-- a store has a name and a geometry within the limits, and 1 to 256 workers
pub record IsStore (store : StorePlan) : Type 0 where
  pub name : IsTrue (is_padded_name store.id.name)
  pub geometry : IsGeometry store.id.geometry.blocks store.id.geometry.block_size
  pub threads : IsFrom 1 256 store.threads

pub record IsRun (stores : List StorePlan) (run : RunPlan) : Type 0 where
  pub iorate : run.iorate ≤ 10000000
  pub elapsed : IsFrom 1 8640000 run.elapsed
  pub interval : IsFrom 1 8640000 run.interval
  pub intervals : intervals_of run.elapsed run.interval ≤ 100000
  pub turns : IsFrom 1 (2 ^ 32 - 1) run.turns
  pub format : run.format ≡ No
  pub slaves : IsFrom 1 256 run.slaves
  pub shares : All (IsShare stores) run.shares
  pub some_share : 0 < length run.shares
  pub few_shares : length run.shares ≤ 4096
  pub workers : All (IsWorker stores run.slaves) run.workers
  pub few_workers : length run.workers ≤ 512
  pub worker_numbers : (i : ℕ) → IfSome (slice_get run.workers i) (λ worker. worker.number ≡ i)
  -- workers are numbered store by store, in order of definition
  pub by_store : AllPairs (λ a b. a.store ≤ b.store) run.workers
  -- the stores of its shares are those of its workers
  pub worked : All (λ share. Contains (map (λ worker. worker.store) run.workers) share.store) run.shares
  pub shared : All (λ worker. Contains (map (λ share. share.store) run.shares) worker.store) run.workers

abbrev pub blocks_of : List StorePlan → ℕ
blocks_of stores = sum (map (λ store. store.id.geometry.blocks) stores)

-- the paths of the stores and of their journals
abbrev pub paths_of : List StorePlan → List (List ℕ)
paths_of stores = flat_map (λ store. store.path ∷ store.journal ∷ []) stores

-- a valid plan
pub record IsPlan (plan : Plan) : Type 0 where
  pub few_stores : length plan.stores ≤ 64
  pub few_blocks : blocks_of plan.stores ≤ 16777216
  pub names : AreDifferent (map (λ store. store.id.name) plan.stores)
  pub paths : AreDifferent (paths_of plan.stores)
  pub stores : All IsStore plan.stores
  pub some_runs : 0 < length plan.runs
  pub few_runs : length plan.runs ≤ 1000
  pub run_numbers : (i : ℕ) → IfSome (slice_get plan.runs i) (λ run. run.number ≡ i + 1)
  pub runs : All (IsRun plan.stores) plan.runs
  pub data_errors : IsFrom 1 10000 plan.data_errors
  pub journal_sectors : IsFrom 1 65536 plan.journal_sectors
