use Rattle.std.proofs.Common.{◌≡◌, map, take}
use Rattle.run_plan.proofs.hosts.host_names.Given as goal

abbrev pub invariant-loop-d : goal.invariant-loop-d
invariant-loop-d l = l.names.items ≡ map (λ e. e.name) (take l.d-index l.hds)
