use Rattle.parm_forms.proofs.Fitting.{values_fit}
use Rattle.parm_forms.proofs.laws.values_fit.Goals as goal

pub returns : goal.returns
returns c = values_fit
