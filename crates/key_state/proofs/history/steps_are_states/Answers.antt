use Rattle.key_state.proofs.Steps.{steps_are_states}
use Rattle.key_state.proofs.history.steps_are_states.Goals as goal

pub returns : goal.returns
returns c = steps_are_states
