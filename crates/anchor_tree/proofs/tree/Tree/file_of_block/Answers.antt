-- The answers of `Tree::file_of_block`.
use Rattle.std.proofs.Common.{◌≡◌, length, ap, subst, ◌∙◌}
use Rattle.anchor_tree.specs.Shape.{Shape}
use Rattle.anchor_tree.proofs.Trees.{block_placed, some_blocks_in}
use Rattle.anchor_tree.proofs.tree.Tree.file_of_block.Goals as goal

pub place_of-requires-clause-some : goal.place_of-requires-clause-some
place_of-requires-clause-some c =
    some_blocks_in c.args.self.now c.as_slice.result.now c.args.block_size c.from.result c.args.block.0 (c.as_slice.ensures.value ∙ ap (λ (tree : Shape). tree.hundred) c.self.view_is) c.from.ensures
    (subst (λ (tree : Shape). length tree.hundred ≡ 100) c.self.view_is c.self.invariant.limits.hundred) c.requires.block

pub returns : goal.returns
returns c = record {
  place = block_placed c.args.self.now c.as_slice.result.now c.args.block_size c.from.result c.args.block.0 c.place_of.result.0 c.place_of.result.1
      (c.as_slice.ensures.value ∙ ap (λ (tree : Shape). tree.hundred) c.self.view_is) c.from.ensures c.requires.block c.place_of.ensures.place c.place_of.ensures.block;
}
