use Rattle.key_state.proofs.Histories.{append_both}
use Rattle.key_state.proofs.history.states_append.Goals as goal

pub returns : goal.returns
returns c = append_both
