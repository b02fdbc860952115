use Rattle.std.proofs.Common.{◌≡◌, ◌∙◌, get_or}
use Rattle.std.specs.List.{zip}
use Rattle.run_report.specs.Runs.{total_text}
use Rattle.vd_base.specs.Name.{name_text}
use Rattle.run_report.specs.Says.{says_along, says_front, says_none}
use Rattle.run_report.proofs.Printed.{on_err}
use Rattle.run_report.proofs.RunPrinted.{total_is}
use Rattle.run_report.proofs.run_print.say_total.Goals as goal

pub returns-in_err-line-clause-err : goal.returns-in_err-line-clause-err
returns-in_err-line-clause-err g c = on_err _ _ (says_front 0 (says_none _))

pub returns-clause-ok : goal.returns-clause-ok
returns-clause-ok g c =
    let line : c.as_str.result.now ≡ total_text (name_text (get_or c.args.stores.now c.args.place c.index-stores-place.result).id.name) c.totals_of-totals.result = c.as_str.ensures ∙ c.in_ok-line.ensures in
    says_along _ _ c.as_str.result.now _
    (line
    ∙ total_is c.args.stores.now (zip c.args.workers.now c.args.tallies.now) c.args.place c.index-stores-place.result c.totals_of-totals.result c.requires.place c.totals_of-totals.ensures c.if-totals-eq0.false)
    c.say.ensures.says
