use Rattle.plan_file.proofs.Once.{always_plans, plans_once}
use Rattle.plan_file.proofs.laws.plans_once.Goals as goal

pub returns-clause-one : goal.returns-clause-one
returns-clause-one c = plans_once c.file_is_read_once.ensures.one c.shown_tells.ensures

pub returns-clause-some : goal.returns-clause-some
returns-clause-some c = always_plans c.file_is_read_once.ensures.some c.records_show_all.ensures
