use Rattle.std.proofs.Common.{◌≡◌, take}
use Rattle.run_plan.specs.Runs.{shares_of}
use Rattle.run_plan.proofs.runs.shares_of.Given as goal

abbrev pub invariant-loop-pick : goal.invariant-loop-pick
invariant-loop-pick l = l.shares.items ≡ shares_of l.workloads l.settings (take l.pick-index l.picks)
