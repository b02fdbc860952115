use Rattle.std.proofs.Common.{length}
use Rattle.plan_runs.proofs.said.+say_books.Given as goal

abbrev pub decreases-say_books : goal.decreases-say_books
decreases-say_books g l = length l.hands.now
