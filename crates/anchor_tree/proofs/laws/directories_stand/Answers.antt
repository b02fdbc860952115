-- The answers of `directories_stand`.
use Rattle.anchor_tree.proofs.Placed.{first_stands, parents, placed}
use Rattle.anchor_tree.proofs.laws.directories_stand.Goals as goal

pub returns-clause-placed : goal.returns-clause-placed
returns-clause-placed c = placed

pub returns-clause-first : goal.returns-clause-first
returns-clause-first c = first_stands

pub returns-clause-parents : goal.returns-clause-parents
returns-clause-parents c = parents
