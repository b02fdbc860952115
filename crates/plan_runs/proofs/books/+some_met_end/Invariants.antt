use Rattle.std.proofs.Common.{length}
use Rattle.plan_runs.proofs.books.+some_met_end.Given as goal

abbrev pub decreases-some_met_end : goal.decreases-some_met_end
decreases-some_met_end l = length l.workers.now
