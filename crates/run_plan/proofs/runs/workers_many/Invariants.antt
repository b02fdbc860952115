use Rattle.std.proofs.Common.{◌≡◌, ◌-◌, ◌*◌, ◌^◌, ◌≤◌, map, sum, take}
use Rattle.run_plan.specs.Runs.{threads_at}
use Rattle.run_plan.proofs.runs.workers_many.Given as goal

abbrev pub invariant-loop-store : goal.invariant-loop-store
invariant-loop-store l = record {
  value : l.many ≡ sum (map (threads_at l.threads l.choice) (take l.store-index l.stores));
  small : l.many ≤ (2 ^ 32 - 1) * l.store-index;
}
