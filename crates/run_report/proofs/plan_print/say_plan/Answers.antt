use Rattle.std.proofs.Common.{◌∙◌, ap}
use Rattle.std.specs.List.{flat_map}
use Rattle.run_report.specs.Plans.{run_lines_text, store_text}
use Rattle.run_report.specs.Says.{says_along}
use Rattle.run_report.proofs.Printed.{err_along, front_along, longer, ok_along, on_err, on_err_then, on_ok_then}
use Rattle.run_report.proofs.plan_print.say_plan.Goals as goal

pub returns-in_err-say_stores-clause-err : goal.returns-in_err-say_stores-clause-err
returns-in_err-say_stores-clause-err g c =
    on_err _ _ (longer _ _ (flat_map store_text c.args.plan.now.stores) _ (front_along _ _ _ _ (ap (flat_map store_text) c.as_slice-stores.ensures) c.in_err-say_stores.ensures.err))

pub returns-clause-ok : goal.returns-clause-ok
returns-clause-ok g c =
    on_ok_then c.say_runs.result _ _ _ (flat_map store_text c.args.plan.now.stores) _
    (says_along _ _ _ _ (ap (flat_map store_text) c.as_slice-stores.ensures) c.in_ok-say_stores.ensures.ok)
    (ok_along _ _ _ _ _ (ap (λ stores. flat_map (run_lines_text stores) c.as_slice.result.now) c.as_slice-stores.ensures ∙ ap (flat_map (run_lines_text c.args.plan.now.stores)) c.as_slice.ensures) c.say_runs.ensures.ok)

pub returns-clause-err : goal.returns-clause-err
returns-clause-err g c =
    on_err_then c.say_runs.result _ _ _ (flat_map store_text c.args.plan.now.stores) _
    (says_along _ _ _ _ (ap (flat_map store_text) c.as_slice-stores.ensures) c.in_ok-say_stores.ensures.ok)
    (err_along _ _ _ _ _ (ap (λ stores. flat_map (run_lines_text stores) c.as_slice.result.now) c.as_slice-stores.ensures ∙ ap (flat_map (run_lines_text c.args.plan.now.stores)) c.as_slice.ensures) c.say_runs.ensures.err)
