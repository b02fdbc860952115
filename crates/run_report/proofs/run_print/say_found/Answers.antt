use Rattle.std.proofs.Common.{◌∙◌}
use Rattle.run_report.specs.Findings.{finding_text}
use Rattle.run_report.proofs.Printed.{on_err, said_more, said_so_far}
use Rattle.run_report.proofs.run_print.say_found.Goals as goal

pub returns-in_err-line-clause-err : goal.returns-in_err-line-clause-err
returns-in_err-line-clause-err g c = on_err _ _ (said_so_far (finding_text c.args.store.now) c.args.findings.now c.loop-finding.finding-index _ _ c.loop-finding.invariant)

pub loop-finding-preserved : goal.loop-finding-preserved
loop-finding-preserved g c = said_more (finding_text c.args.store.now) c.args.findings.now c.loop-finding.finding-index c.finding-item.result _ _ _ _ c.loop-finding-test.true c.finding-item.is (c.as_str.ensures ∙ c.in_ok-line.ensures) c.loop-finding.invariant c.say.ensures.says
