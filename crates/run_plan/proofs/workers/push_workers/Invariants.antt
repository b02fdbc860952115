use Rattle.std.proofs.Common.{◌≡◌, ◌++◌, ◌+◌, length, map}
use Rattle.std.specs.List.{range_with_len}
use Rattle.run_plan.specs.Workers.{worker_of}
use Rattle.run_plan.proofs.workers.push_workers.Given as goal

abbrev pub invariant-loop-i : goal.invariant-loop-i
invariant-loop-i l = record {
  value : l.workers.items ≡ l.fn.workers.items ++ map (worker_of l.plan l.store l.slaves l.many l.number) (range_with_len 0 l.i);
  many : length l.workers.items ≡ length l.fn.workers.items + l.i;
}
