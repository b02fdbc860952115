use Rattle.parm_defs.proofs.Accepted.{records_show_all}
use Rattle.parm_defs.proofs.laws.records_show_all.Goals as goal

pub returns : goal.returns
returns c = records_show_all c.values_fit.ensures
