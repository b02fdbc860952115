use Rattle.std.proofs.Common.{length}
use Rattle.plan_journals.proofs.closing.+close_journals.Given as goal

abbrev pub decreases-close_journals : goal.decreases-close_journals
decreases-close_journals g l = length l.stores.now
