use Rattle.std.proofs.Common.{◌≡◌, ◌+◌, ◌≤◌, drop}
use Rattle.run_plan.specs.Weights.{open_many}
use Rattle.run_plan.proofs.weights.open_many.Given as goal

abbrev pub invariant-loop-skew : goal.invariant-loop-skew
invariant-loop-skew l = record {
  value : l.many + open_many (drop l.skew-index l.skews) ≡ open_many l.skews;
  few : l.many ≤ l.skew-index;
}
