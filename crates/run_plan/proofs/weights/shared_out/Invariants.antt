use Rattle.std.proofs.Common.{◌≡◌, ◌++◌, drop}
use Rattle.run_plan.specs.Weights.{shared_out}
use Rattle.run_plan.proofs.weights.shared_out.Given as goal

abbrev pub invariant-loop-skew : goal.invariant-loop-skew
invariant-loop-skew l = l.weights.items ++ shared_out l.each l.ones (drop l.skew-index l.skews) ≡ shared_out l.each l.more l.skews
