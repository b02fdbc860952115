use Rattle.std.proofs.Common.{length}
use Rattle.master_run.proofs.running.+muster.Given as goal

abbrev pub decreases-muster : goal.decreases-muster
decreases-muster g l = length l.hands.now.items
