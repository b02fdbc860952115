use Rattle.std.proofs.Common.{◌≡◌, drop, take}
use Rattle.run_plan.specs.Outcomes.{at_line, first_fault}
use Rattle.run_plan.specs.Plans.{hosts_fault}
use Rattle.run_plan.specs.Hosts.{selection_kind}
use Rattle.wildcards.specs.Selection.{nothing_at}
use Rattle.run_plan.proofs.workloads.check_hosts.Given as goal

abbrev pub invariant-loop-d : goal.invariant-loop-d
invariant-loop-d l =
    hosts_fault l.hosts l.sds ≡ first_fault (λ earlier d. at_line d.line (selection_kind (nothing_at d.host l.hosts))) (take l.d-index l.sds) (drop l.d-index l.sds)
