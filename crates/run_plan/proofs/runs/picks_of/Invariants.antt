use Rattle.std.proofs.Common.{◌≡◌, map}
use Rattle.std.specs.List.{range_with_len}
use Rattle.run_plan.specs.Runs.{pick_of}
use Rattle.run_plan.proofs.runs.picks_of.Given as goal

abbrev pub invariant-loop-i : goal.invariant-loop-i
invariant-loop-i l = l.picks.items ≡ map (pick_of l.places l.weights) (range_with_len 0 l.i)
