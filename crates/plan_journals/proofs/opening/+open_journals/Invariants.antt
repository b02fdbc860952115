use Rattle.std.proofs.Common.{length}
use Rattle.plan_journals.proofs.opening.+open_journals.Given as goal

abbrev pub decreases-open_journals : goal.decreases-open_journals
decreases-open_journals g l = length l.stores.now
