use Rattle.std.proofs.Common.{◌∙◌, sym}
use Rattle.run_report.specs.Runs.{title_text}
use Rattle.run_report.specs.Says.{says_along, says_front, says_none}
use Rattle.run_report.proofs.Printed.{err_along, ok_along, on_err, on_err_then, on_ok_then}
use Rattle.run_report.proofs.RunPrinted.{with_tallies}
use Rattle.run_report.proofs.run_print.say_run_text.Goals as goal

pub returns-in_err-line-clause-err : goal.returns-in_err-line-clause-err
returns-in_err-line-clause-err g c = on_err _ _ (says_front 0 (says_none _))

pub returns-clause-ok : goal.returns-clause-ok
returns-clause-ok g c =
    ok_along c.say_worked.result _ _ _ _
    (with_tallies c.args.stores.now c.args.run.now c.args.tallies.now (sym c.is_empty.ensures ∙ c.if-is_empty.false))
    (on_ok_then c.say_worked.result _ _ _ (title_text c.args.run.now) _
    (says_along _ _ _ (title_text c.args.run.now) (c.as_str.ensures ∙ c.in_ok-line.ensures) c.say.ensures.says)
    c.say_worked.ensures.ok)

pub returns-clause-err : goal.returns-clause-err
returns-clause-err g c =
    err_along c.say_worked.result _ _ _ _
    (with_tallies c.args.stores.now c.args.run.now c.args.tallies.now (sym c.is_empty.ensures ∙ c.if-is_empty.false))
    (on_err_then c.say_worked.result _ _ _ (title_text c.args.run.now) _
    (says_along _ _ _ (title_text c.args.run.now) (c.as_str.ensures ∙ c.in_ok-line.ensures) c.say.ensures.says)
    c.say_worked.ensures.err)
