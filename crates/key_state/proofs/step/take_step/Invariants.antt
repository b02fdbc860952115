use Rattle.std.proofs.Common.{◌≡◌, ◌≤◌, ◌+◌}
use Rattle.key_state.proofs.Steps.{StepsTo}
use Rattle.key_state.proofs.step.take_step.Given as goal

abbrev pub invariant-loop-i : goal.invariant-loop-i
invariant-loop-i l = StepsTo l.made l.i l.fn.entries l.entries
