use Rattle.journal_layout.proofs.OneOutcome.{gives_once}
use Rattle.journal_layout.proofs.outcomes.gives_once.Goals as goal

pub returns : goal.returns
returns c = gives_once
