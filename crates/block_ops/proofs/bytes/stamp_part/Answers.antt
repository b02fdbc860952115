use Rattle.std.proofs.Common.{arith}
use Rattle.block_ops.proofs.BlockParts.{part_of-put_below}
use Rattle.block_ops.proofs.bytes.stamp_part.Goals as goal

pub returns-clause-below : goal.returns-clause-below
returns-clause-below c i below =
    let size = c.args.store.now.geometry.block_size in
    rw c.block_size-size.ensures.value (part_of-put_below size c.args.at i _ c.args.buf.now c.stamp_block.new.out (omega arith) below)
