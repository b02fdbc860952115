use Rattle.std.proofs.Common.{length}
use Rattle.master_run.proofs.running.+close.Given as goal

abbrev pub decreases-close : goal.decreases-close
decreases-close g l = length l.crews.now.items
