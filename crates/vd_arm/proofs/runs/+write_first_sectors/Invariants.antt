use Rattle.std.proofs.Common.{length}
use Rattle.vd_arm.proofs.runs.+write_first_sectors.Given as goal

abbrev pub decreases-write_first_sectors : goal.decreases-write_first_sectors
decreases-write_first_sectors g l = length l.passes.now
