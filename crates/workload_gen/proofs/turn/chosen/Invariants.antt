-- The invariant of `chosen`.
use Rattle.std.proofs.Common.{◌≡◌, ◌≤◌, take}
use Rattle.workload_gen.proofs.turn.chosen.Given as goal
use Rattle.workload_gen.specs.Task.{weight_of}

abbrev pub invariant-loop-share : goal.invariant-loop-share
invariant-loop-share l = (l.weight ≡ weight_of (take l.share-index l.shares)) × (l.weight ≤ l.n)
