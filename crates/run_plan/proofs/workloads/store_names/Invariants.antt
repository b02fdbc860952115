use Rattle.std.proofs.Common.{◌≡◌, map, take}
use Rattle.run_plan.proofs.workloads.store_names.Given as goal

abbrev pub invariant-loop-d : goal.invariant-loop-d
invariant-loop-d l = l.names.items ≡ map (λ sd. sd.name) (take l.d-index l.sds)
