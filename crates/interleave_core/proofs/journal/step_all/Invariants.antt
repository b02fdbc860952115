use Rattle.interleave_core.specs.Journal.{IsStepped}
use Rattle.interleave_core.proofs.journal.step_all.Given as goal

abbrev pub invariant-loop-block : goal.invariant-loop-block
invariant-loop-block l = IsStepped l.made l.fn.current l.current l.block
