use Rattle.std.proofs.Common.{◌≡◌, ◌≤◌, ◌+◌}
use Rattle.key_state.specs.Books.{used_among}
use Rattle.key_state.proofs.step.count_used.Given as goal

abbrev pub invariant-loop-i : goal.invariant-loop-i
invariant-loop-i l = (l.count ≡ used_among l.entries l.first.0 l.i) × (l.count ≤ l.i)
