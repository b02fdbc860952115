-- The answers of `blocks_before`.
use Rattle.anchor_tree.proofs.Cycles.{before_from}
use Rattle.anchor_tree.proofs.blocks.blocks_before.Goals as goal

pub returns : goal.returns
returns c = record {
  value = before_from c.args.hundred.now c.args.block_size c.args.file c.from.result c.blocks_in.result c.blocks_in-2.result c.requires.hundred c.from.ensures c.blocks_in.ensures.value c.blocks_in-2.ensures.value;
}
