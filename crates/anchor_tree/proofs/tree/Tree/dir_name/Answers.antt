-- The answers of `Tree::dir_name`.
use Rattle.anchor_tree.proofs.Trees.{narrow}
use Rattle.anchor_tree.proofs.tree.Tree.dir_name.Goals as goal

pub push_path-requires-clause-narrow : goal.push_path-requires-clause-narrow
push_path-requires-clause-narrow c = narrow _ c.self.invariant.limits
