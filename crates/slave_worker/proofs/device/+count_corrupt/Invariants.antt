use Rattle.std.proofs.Common.{length}
use Rattle.slave_worker.proofs.device.+count_corrupt.Given as goal

abbrev pub decreases-count_corrupt : goal.decreases-count_corrupt
decreases-count_corrupt l = length l.entries.now
