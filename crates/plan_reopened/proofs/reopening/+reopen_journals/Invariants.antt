use Rattle.std.proofs.Common.{length}
use Rattle.plan_reopened.proofs.reopening.+reopen_journals.Given as goal

abbrev pub decreases-reopen_journals : goal.decreases-reopen_journals
decreases-reopen_journals g l = length l.stores.now
