use Rattle.parm_defs.proofs.Back.{shown_tells}
use Rattle.parm_defs.proofs.laws.shown_tells.Goals as goal

pub returns : goal.returns
returns c = shown_tells
