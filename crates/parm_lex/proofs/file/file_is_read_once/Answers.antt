use Rattle.parm_lex.proofs.Once.{file_once}
use Rattle.parm_lex.proofs.Readings.{file_some}
use Rattle.parm_lex.proofs.file.file_is_read_once.Goals as goal

pub returns-clause-one : goal.returns-clause-one
returns-clause-one c = file_once

pub returns-clause-some : goal.returns-clause-some
returns-clause-some c = file_some
