-- The invariant of `assert_turns`.
use Rattle.std.proofs.Common.{◌≡◌, ◌+◌}
use Rattle.workload_gen.proofs.tests.assert_turns.Given as goal

abbrev pub invariant-loop-turn : goal.invariant-loop-turn
invariant-loop-turn g l = l.draw.turns ≡ l.fn.draw.turns + l.turn-index
