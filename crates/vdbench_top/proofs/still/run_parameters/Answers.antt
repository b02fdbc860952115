use Rattle.std.proofs.Common.{refl, []}
use Rattle.run_report.specs.Says.{says_none}
use Rattle.vdbench_top.specs.Still.{unplanned}
use Rattle.vdbench_top.proofs.Tellings.{said_planned, said_refused, opened_by, untouched_same}
use Rattle.vdbench_top.proofs.still.run_parameters.Goals as goal

pub returns-in-Ok-clause-contents : goal.returns-in-Ok-clause-contents
returns-in-Ok-clause-contents g c = opened_by (g.Y.Yard.seen c.args.yard.now) (g.Y.Yard.seen c.run_plan.new.yard) _ c.in-Ok.plan c.in-Ok.ensures.plans c.run_plan.ensures.contents

pub returns-in-Ok-clause-said : goal.returns-in-Ok-clause-said
returns-in-Ok-clause-said g c = said_planned _ _ _ _ c.in-Ok.plan _ _ _ c.in-Ok.ensures.plans c.run_plan.ensures.said

pub returns-in-Ok-clause-refused : goal.returns-in-Ok-clause-refused
returns-in-Ok-clause-refused g c none = c.run_plan.ensures.refused (none c.in-Ok.plan c.in-Ok.ensures.plans)

pub returns-in-Err-Refused-clause-said : goal.returns-in-Err-Refused-clause-said
returns-in-Err-Refused-clause-said g c =
    said_refused _ _ _ _ c.in-Err-Refused.line _ _ _ (rw c.in-Err-Refused.field-0-is at c.in-Err-Refused.ensures.plans) (untouched_same _) (rw c.in-Err-Refused.field-0-is at c.as_str.ensures) c.say.ensures.says

pub returns-in-Err-NoMemory-clause-said : goal.returns-in-Err-NoMemory-clause-said
returns-in-Err-NoMemory-clause-said g c = ([], says_none _, unplanned (untouched_same _) refl refl)
