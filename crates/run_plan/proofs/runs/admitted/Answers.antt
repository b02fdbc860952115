use Rattle.std.proofs.Common.{Some, None, ap, ◌∙◌}
use Rattle.run_plan.specs.Runs.{stores_at}
use Rattle.run_plan.proofs.Steps.{admitted_is}
use Rattle.run_plan.proofs.runs.admitted.Goals as goal

pub returns-in-None-clause-gives : goal.returns-in-None-clause-gives
returns-in-None-clause-gives c =
    admitted_is c.args.work.now c.args.d.now c.args.before c.in_ok-picks.picks c.as_slice-2.result.now None c.in_ok-picks.ensures
    (c.as_slice-2.ensures.value ∙ c.in_ok-stores.ensures.value ∙ ap (stores_at c.args.work.now) c.as_slice.ensures) c.in-None.ensures

pub returns-in-Some-clause-gives : goal.returns-in-Some-clause-gives
returns-in-Some-clause-gives c =
    admitted_is c.args.work.now c.args.d.now c.args.before c.in_ok-picks.picks c.as_slice-2.result.now (Some c.in-Some.kind) c.in_ok-picks.ensures
    (c.as_slice-2.ensures.value ∙ c.in_ok-stores.ensures.value ∙ ap (stores_at c.args.work.now) c.as_slice.ensures) c.in-Some.ensures
