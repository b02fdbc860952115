use Rattle.parm_lex.proofs.Read.{line_read}
use Rattle.parm_lex.proofs.spelling.spelled_lines_are_read.Goals as goal

pub returns : goal.returns
returns c = line_read
