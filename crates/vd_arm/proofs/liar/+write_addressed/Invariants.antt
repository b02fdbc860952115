use Rattle.std.proofs.Common.{length}
use Rattle.vd_arm.proofs.liar.+write_addressed.Given as goal

abbrev pub decreases-write_addressed : goal.decreases-write_addressed
decreases-write_addressed l = length l.passes.now
