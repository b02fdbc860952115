use Rattle.std.proofs.Common.{◌≡◌, take}
use Rattle.run_plan.specs.Runs.{skews_of}
use Rattle.run_plan.proofs.runs.skews_of.Given as goal

abbrev pub invariant-loop-place : goal.invariant-loop-place
invariant-loop-place l = l.skews.items ≡ skews_of l.workloads (take l.place-index l.places)
