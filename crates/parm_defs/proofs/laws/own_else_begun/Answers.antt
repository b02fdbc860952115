use Rattle.parm_defs.proofs.OwnElse.{own_else_begun}
use Rattle.parm_defs.proofs.laws.own_else_begun.Goals as goal

pub returns : goal.returns
returns c = own_else_begun
