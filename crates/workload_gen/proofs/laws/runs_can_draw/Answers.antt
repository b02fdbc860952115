use Rattle.workload_gen.proofs.Planned.{shares_are_few, workers_can_draw}
use Rattle.workload_gen.proofs.laws.runs_can_draw.Goals as goal

pub returns-clause-workers : goal.returns-clause-workers
returns-clause-workers c = workers_can_draw

pub returns-clause-shares : goal.returns-clause-shares
returns-clause-shares c = shares_are_few
