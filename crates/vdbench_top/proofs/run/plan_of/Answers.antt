use Rattle.std.proofs.Common.{◌∙◌}
use Rattle.vdbench_top.proofs.Runs.{none_kept, none_planned}
use Rattle.vdbench_top.proofs.run.plan_of.Goals as goal

pub returns-in-Err-NoMemory-clause-unplanned : goal.returns-in-Err-NoMemory-clause-unplanned
returns-in-Err-NoMemory-clause-unplanned g c = none_kept _ _ _ _

pub returns-in-Ok-plan_of_file-clause-planned : goal.returns-in-Ok-plan_of_file-clause-planned
returns-in-Ok-plan_of_file-clause-planned g c = (
  record {
    bytes = c.as_slice.result.now;
    read = λ parameters told. c.as_slice.ensures.value ∙ c.in-Ok.ensures.exact parameters told;
    plans = c.in-Ok-plan_of_file.ensures.plans;
  },
  c.in-Ok-plan_of_file.ensures.valid,
)

pub returns-in-Err-Refused-clause-unplanned : goal.returns-in-Err-Refused-clause-unplanned
returns-in-Err-Refused-clause-unplanned g c =
    none_planned _ _ _ c.as_slice.result.now c.in-Err-Refused.line _ _ _ (λ parameters told. c.as_slice.ensures.value ∙ c.in-Ok.ensures.exact parameters told)
    (rw c.in-Err-Refused.field-0-is at c.in-Err-Refused.ensures.plans) c.as_str.ensures c.say.ensures.says

pub returns-clause-unplanned : goal.returns-clause-unplanned
returns-clause-unplanned g c = none_kept _ _ _ _
