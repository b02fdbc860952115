use Rattle.std.proofs.Common.{length}
use Rattle.plan_verified.proofs.stores.+look_at_stores.Given as goal

abbrev pub decreases-look_at_stores : goal.decreases-look_at_stores
decreases-look_at_stores g l = length l.stores.now
