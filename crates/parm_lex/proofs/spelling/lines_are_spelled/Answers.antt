use Rattle.parm_lex.proofs.Spelled.{lines_spelled}
use Rattle.parm_lex.proofs.spelling.lines_are_spelled.Goals as goal

pub returns : goal.returns
returns c = lines_spelled
