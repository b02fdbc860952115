use Rattle.parm_lex.proofs.Wanted.{never_at_an_end}
use Rattle.parm_lex.proofs.spelling.no_part_is_wanted_at_an_end.Goals as goal

pub returns : goal.returns
returns c = never_at_an_end
