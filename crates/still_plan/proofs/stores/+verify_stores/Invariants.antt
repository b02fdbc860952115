use Rattle.std.proofs.Common.{length}
use Rattle.still_plan.proofs.stores.+verify_stores.Given as goal

abbrev pub decreases-verify_stores : goal.decreases-verify_stores
decreases-verify_stores g l = length l.stores.now
