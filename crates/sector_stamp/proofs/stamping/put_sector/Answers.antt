use Rattle.std.proofs.Common.{arith}
use Rattle.sector_stamp.proofs.Sectors.{sector_of-put_below}
use Rattle.sector_stamp.proofs.stamping.put_sector.Goals as goal

pub returns-clause-below : goal.returns-clause-below
returns-clause-below c j le = sector_of-put_below c.args.i j _ c.args.out.now c.copy_from_slice.new.self (omega arith) le
