use Rattle.std.proofs.Common.{◌∙◌, ap}
use Rattle.std.specs.List.{flat_map}
use Rattle.run_report.specs.Plans.{run_head_text, share_text}
use Rattle.run_report.specs.Says.{says_along, says_front, says_none}
use Rattle.run_report.proofs.Printed.{err_along, ok_along, on_err, on_err_then, on_ok_then}
use Rattle.run_report.proofs.plan_print.say_run.Goals as goal

pub returns-in_err-line-clause-err : goal.returns-in_err-line-clause-err
returns-in_err-line-clause-err g c = on_err _ _ (says_front 0 (says_none _))

pub returns-clause-ok : goal.returns-clause-ok
returns-clause-ok g c =
    on_ok_then c.say_shares.result _ _ _ (run_head_text c.args.run.now) _
    (says_along _ _ _ (run_head_text c.args.run.now) (c.as_str.ensures ∙ c.in_ok-line.ensures) c.say.ensures.says)
    (ok_along _ _ _ _ _ (ap (flat_map (share_text c.args.stores.now)) c.as_slice.ensures) c.say_shares.ensures.ok)

pub returns-clause-err : goal.returns-clause-err
returns-clause-err g c =
    on_err_then c.say_shares.result _ _ _ (run_head_text c.args.run.now) _
    (says_along _ _ _ (run_head_text c.args.run.now) (c.as_str.ensures ∙ c.in_ok-line.ensures) c.say.ensures.says)
    (err_along _ _ _ _ _ (ap (flat_map (share_text c.args.stores.now)) c.as_slice.ensures) c.say_shares.ensures.err)
