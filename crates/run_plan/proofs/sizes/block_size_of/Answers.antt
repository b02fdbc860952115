use Rattle.std.proofs.Common.{subst, sym}
use Rattle.parm_records.specs.Ranges.{IsBlockSize}
use Rattle.run_plan.proofs.BlockSizes.{smallest_is}
use Rattle.run_plan.proofs.sizes.block_size_of.Goals as goal

pub returns-in-None-clause-range : goal.returns-in-None-clause-range
returns-in-None-clause-range c = subst IsBlockSize (sym c.smallest.ensures) (smallest_is c.args.transfers.now c.requires.transfers)
