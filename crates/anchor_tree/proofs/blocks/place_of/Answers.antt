-- The answers of `place_of`.
use Rattle.std.proofs.Common.{arith}
use Rattle.anchor_tree.proofs.Cycles.{place_from}
use Rattle.anchor_tree.proofs.blocks.place_of.Goals as goal

pub returns-clause-block : goal.returns-clause-block
returns-clause-block c =
    place_from c.args.hundred.now c.args.block_size c.args.block c.from.result c.from-2.result c.blocks_in-many.result c.place_in-file.result.0 c.place_in-file.result.1
    c.requires.hundred c.from.ensures c.from-2.ensures c.blocks_in-many.ensures.value (omega (arith, c.place_in-file.ensures.file, c.requires.hundred)) c.place_in-file.ensures.block
