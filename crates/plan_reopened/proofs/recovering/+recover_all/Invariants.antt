use Rattle.std.proofs.Common.{length}
use Rattle.plan_reopened.proofs.recovering.+recover_all.Given as goal

abbrev pub decreases-recover_all : goal.decreases-recover_all
decreases-recover_all g l = length l.stores.now
