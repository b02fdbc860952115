-- The answers of `Tree::holders`.
use Rattle.std.proofs.Common.{◌≡◌, ◌+◌, subst, ◌∙◌}
use Rattle.anchor_tree.specs.Shape.{Shape, directories_of, first_of}
use Rattle.anchor_tree.proofs.Trees.{holders_first}
use Rattle.anchor_tree.proofs.tree.Tree.holders.Goals as goal

pub returns-clause-first : goal.returns-clause-first
returns-clause-first c =
    subst (λ (tree : Shape). first_of tree.distribution tree.depth tree.width + c.holders.result ≡ directories_of tree) c.self.view_is
    (holders_first c.self.inside.distribution c.self.inside.depth c.self.inside.width c.from-bottom.result c.from.result c.holders.result c.self.invariant.limits.some_levels
    (c.from-bottom.ensures ∙ c.self.invariant.last_level) (c.from.ensures ∙ c.self.invariant.directories) c.holders.ensures)
