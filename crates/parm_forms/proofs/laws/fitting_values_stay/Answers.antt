use Rattle.parm_forms.proofs.Tables.{fitting_values_stay}
use Rattle.parm_forms.proofs.laws.fitting_values_stay.Goals as goal

pub returns : goal.returns
returns c = fitting_values_stay
