use Rattle.std.proofs.Common.{◌-◌, ◌^◌, drop}
use Rattle.run_plan.proofs.Counts.{Counted}
use Rattle.run_plan.proofs.loops.count_of.Given as goal

abbrev pub invariant-loop-word : goal.invariant-loop-word
invariant-loop-word l = Counted l.d l.count (drop l.word-index l.d.loops) l.d.loops (2 ^ 64 - 1)
