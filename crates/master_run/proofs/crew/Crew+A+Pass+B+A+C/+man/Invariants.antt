use Rattle.std.proofs.Common.{length}
use Rattle.master_run.proofs.crew.Crew+A+Pass+B+A+C.+man.Given as goal

abbrev pub decreases-man : goal.decreases-man
decreases-man g l = length l.workers.now
