use Rattle.parm_forms.proofs.Items.{values_have_their_items}
use Rattle.parm_forms.proofs.laws.values_have_their_items.Goals as goal

pub returns : goal.returns
returns c = values_have_their_items
