use Rattle.interleave_core.proofs.Once.{one_step, one_run, one_schedule}
use Rattle.interleave_core.proofs.law.has_one_outcome.Goals as goal

pub returns-clause-step : goal.returns-clause-step
returns-clause-step c = one_step

pub returns-clause-run : goal.returns-clause-run
returns-clause-run c = one_run

pub returns-clause-schedule : goal.returns-clause-schedule
returns-clause-schedule c = one_schedule
