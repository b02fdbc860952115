use Rattle.key_state.proofs.Histories.{entries_stay}
use Rattle.key_state.proofs.history.entries_stay.Goals as goal

pub returns : goal.returns
returns c = entries_stay
