use Rattle.std.proofs.Common.{◌≡◌, ◌≤◌, ◌*◌, ◌^◌, [], drop, length}
use Rattle.run_plan.specs.Workers.{workers_of}
use Rattle.run_plan.proofs.workers.workers_of.Given as goal

abbrev pub invariant-loop-store : goal.invariant-loop-store
invariant-loop-store l = record {
  value : workers_of l.plans l.slaves l.choice [] l.stores ≡ workers_of l.plans l.slaves l.choice l.workers.items (drop l.store-index l.stores);
  few : length l.workers.items ≤ 2 ^ 24 * l.store-index;
}
