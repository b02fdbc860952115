use Rattle.std.proofs.Common.{◌≡◌, map}
use Rattle.run_plan.specs.Workers.{run_of}
use Rattle.run_plan.proofs.workers.runs_of.Given as goal

abbrev pub invariant-loop-draft : goal.invariant-loop-draft
invariant-loop-draft l = l.runs.items ≡ map (run_of l.plans) l.yielded
