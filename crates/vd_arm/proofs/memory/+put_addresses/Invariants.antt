use Rattle.std.proofs.Common.{length}
use Rattle.vd_arm.proofs.memory.+put_addresses.Given as goal

abbrev pub decreases-put_addresses : goal.decreases-put_addresses
decreases-put_addresses l = length l.bytes.now
