use Rattle.std.proofs.Common.{◌≡◌, drop, take}
use Rattle.run_plan.specs.Outcomes.{at_line, first_fault}
use Rattle.run_plan.specs.Plans.{stores_fault}
use Rattle.run_plan.specs.Stores.{store_kind}
use Rattle.run_plan.proofs.stores.stores_fault.Given as goal

abbrev pub invariant-loop-i : goal.invariant-loop-i
invariant-loop-i l =
    stores_fault l.sds ≡ first_fault (λ earlier d. at_line d.line (store_kind earlier d)) (take l.i l.sds) (drop l.i l.sds)
