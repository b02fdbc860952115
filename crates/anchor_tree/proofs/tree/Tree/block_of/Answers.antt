-- The answers of `Tree::block_of`.
use Rattle.std.proofs.Common.{ap, ◌∙◌, arith}
use Rattle.anchor_tree.specs.Shape.{Shape}
use Rattle.anchor_tree.proofs.Trees.{block_inside}
use Rattle.anchor_tree.proofs.tree.Tree.block_of.Goals as goal

pub overflow_add-result : goal.overflow_add-result
overflow_add-result c =
    let there = block_inside c.args.self.now c.as_slice.result.now c.args.block_size c.from.result c.args.file c.args.place c.blocks_before-before.result c.from-2.result
    (c.as_slice.ensures.value ∙ ap (λ (tree : Shape). tree.hundred) c.self.view_is) c.from.ensures c.requires.file c.requires.place c.blocks_before-before.ensures.value c.from-2.ensures in
    omega (arith, there.1, c.requires.few)

pub overflow_cast-result : goal.overflow_cast-result
overflow_cast-result c =
    let there = block_inside c.args.self.now c.as_slice.result.now c.args.block_size c.from.result c.args.file c.args.place c.blocks_before-before.result c.from-2.result
    (c.as_slice.ensures.value ∙ ap (λ (tree : Shape). tree.hundred) c.self.view_is) c.from.ensures c.requires.file c.requires.place c.blocks_before-before.ensures.value c.from-2.ensures in
    omega (arith, there.1, c.requires.few)

pub returns-clause-inside : goal.returns-clause-inside
returns-clause-inside c =
    let there = block_inside c.args.self.now c.as_slice.result.now c.args.block_size c.from.result c.args.file c.args.place c.blocks_before-before.result c.from-2.result
    (c.as_slice.ensures.value ∙ ap (λ (tree : Shape). tree.hundred) c.self.view_is) c.from.ensures c.requires.file c.requires.place c.blocks_before-before.ensures.value c.from-2.ensures in
    there.1
