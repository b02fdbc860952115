use Rattle.key_state.proofs.Histories.{both_ways}
use Rattle.key_state.proofs.history.history_is_legal.Goals as goal

pub returns : goal.returns
returns c = both_ways
