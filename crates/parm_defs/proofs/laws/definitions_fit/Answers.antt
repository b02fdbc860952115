use Rattle.parm_defs.proofs.AllFit.{definitions_fit}
use Rattle.parm_defs.proofs.laws.definitions_fit.Goals as goal

pub returns : goal.returns
returns c = definitions_fit (record { fit = c.values_fit.ensures; items = c.values_have_their_items.ensures }) c.defaults_fit.ensures
