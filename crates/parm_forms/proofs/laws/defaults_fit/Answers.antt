use Rattle.parm_forms.proofs.Tables.{defaults_fit}
use Rattle.parm_forms.proofs.laws.defaults_fit.Goals as goal

pub returns : goal.returns
returns c = defaults_fit
