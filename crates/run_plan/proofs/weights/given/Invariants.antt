use Rattle.std.proofs.Common.{◌≡◌, ◌+◌, ◌-◌, ◌*◌, ◌^◌, ◌≤◌, drop}
use Rattle.run_plan.specs.Weights.{given}
use Rattle.run_plan.proofs.weights.given.Given as goal

abbrev pub invariant-loop-skew : goal.invariant-loop-skew
invariant-loop-skew l = record {
  value : l.sum + given (drop l.skew-index l.skews) ≡ given l.skews;
  small : l.sum ≤ (2 ^ 32 - 1) * l.skew-index;
}
