use Rattle.std.proofs.Common.{◌≡◌, map, take}
use Rattle.run_plan.proofs.plan.workload_names.Given as goal

abbrev pub invariant-loop-w : goal.invariant-loop-w
invariant-loop-w l = l.names.items ≡ map (λ w. w.name) (take l.w-index l.workloads)
