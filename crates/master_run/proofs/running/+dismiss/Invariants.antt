use Rattle.std.proofs.Common.{length}
use Rattle.master_run.proofs.running.+dismiss.Given as goal

abbrev pub decreases-dismiss : goal.decreases-dismiss
decreases-dismiss g l = length l.crews.now.items
