use Rattle.std.proofs.Common.{◌≡◌, drop}
use Rattle.run_plan.specs.Sizes.{least_from}
use Rattle.run_plan.proofs.sizes.smallest.Given as goal

abbrev pub invariant-loop-size : goal.invariant-loop-size
invariant-loop-size l = least_from l.least (drop l.size-index l.others) ≡ least_from l.initial.least l.others
