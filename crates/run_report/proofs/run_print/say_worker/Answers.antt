use Rattle.std.proofs.Common.{◌∙◌, ap}
use Rattle.std.specs.List.{flat_map}
use Rattle.run_report.specs.Findings.{finding_text}
use Rattle.run_report.proofs.Printed.{err_along, ok_along}
use Rattle.run_report.proofs.RunPrinted.{found_is}
use Rattle.run_report.proofs.run_print.say_worker.Goals as goal

pub returns-clause-ok : goal.returns-clause-ok
returns-clause-ok g c =
    ok_along c.say_found.result _ _ _ _
    (ap (flat_map (finding_text c.index-stores-worker.result.id)) c.findings.ensures ∙ found_is c.args.stores.now (c.args.worker.now, c.args.tally.now) c.index-stores-worker.result c.requires.known c.index-stores-worker.is)
    c.say_found.ensures.ok

pub returns-clause-err : goal.returns-clause-err
returns-clause-err g c =
    err_along c.say_found.result _ _ _ _
    (ap (flat_map (finding_text c.index-stores-worker.result.id)) c.findings.ensures ∙ found_is c.args.stores.now (c.args.worker.now, c.args.tally.now) c.index-stores-worker.result c.requires.known c.index-stores-worker.is)
    c.say_found.ensures.err
