use Rattle.std.proofs.Common.{◌≡◌, length}
use Rattle.run_plan.proofs.tests.texts.Given as goal

abbrev pub invariant-loop-word : goal.invariant-loop-word
invariant-loop-word g l = length l.list.items ≡ l.word-index
