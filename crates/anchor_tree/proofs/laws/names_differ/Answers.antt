-- The answers of `names_differ`.
use Rattle.anchor_tree.proofs.Differ.{directories_differ, files_differ, no_directories}
use Rattle.anchor_tree.proofs.laws.names_differ.Goals as goal

pub returns-clause-directories : goal.returns-clause-directories
returns-clause-directories c = directories_differ

pub returns-clause-files : goal.returns-clause-files
returns-clause-files c = files_differ

pub returns-clause-apart : goal.returns-clause-apart
returns-clause-apart c = no_directories
