-- The answers of `files_stand`.
use Rattle.anchor_tree.proofs.Placed.{full, held}
use Rattle.anchor_tree.proofs.laws.files_stand.Goals as goal

pub returns-clause-held : goal.returns-clause-held
returns-clause-held c = held

pub returns-clause-full : goal.returns-clause-full
returns-clause-full c = full
