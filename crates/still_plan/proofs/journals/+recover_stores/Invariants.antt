use Rattle.std.proofs.Common.{length}
use Rattle.still_plan.proofs.journals.+recover_stores.Given as goal

abbrev pub decreases-recover_stores : goal.decreases-recover_stores
decreases-recover_stores g l = length l.stores.now
