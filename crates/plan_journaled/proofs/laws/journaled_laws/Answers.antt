use Rattle.plan_journaled.proofs.Recovering.{closed_recovers}
use Rattle.plan_journaled.proofs.laws.journaled_laws.Goals as goal

pub returns : goal.returns
returns c = record { recovers = closed_recovers }
