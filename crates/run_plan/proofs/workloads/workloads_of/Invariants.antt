use Rattle.std.proofs.Common.{◌≡◌, [], All, drop, length}
use Rattle.parm_records.specs.Ranges.{IsBlockSize}
use Rattle.run_plan.specs.Outcomes.{in_turn}
use Rattle.run_plan.specs.Workloads.{workload_at}
use Rattle.run_plan.proofs.workloads.workloads_of.Given as goal

abbrev pub invariant-loop-d : goal.invariant-loop-d
invariant-loop-d l = record {
  value : in_turn (workload_at l.stores l.hosts) [] l.wds ≡ in_turn (workload_at l.stores l.hosts) l.workloads.items (drop l.d-index l.wds);
  many : length l.workloads.items ≡ l.d-index;
  transfers : All (λ w. IsBlockSize w.xfersize) l.workloads.items;
}
