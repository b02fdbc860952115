use Rattle.std.proofs.Common.{refl}
use Rattle.run_report.specs.Plans.{run_lines_text}
use Rattle.run_report.proofs.Printed.{on_err, said_front, said_more}
use Rattle.run_report.proofs.plan_print.say_runs.Goals as goal

pub returns-in_err-say_run-clause-err : goal.returns-in_err-say_run-clause-err
returns-in_err-say_run-clause-err g c = on_err _ _ (said_front (run_lines_text c.args.stores.now) c.args.runs.now c.loop-run.run-index c.run-item.result _ _ _ c.loop-run-test.true c.run-item.is c.loop-run.invariant c.in_err-say_run.ensures.err)

pub loop-run-preserved : goal.loop-run-preserved
loop-run-preserved g c = said_more (run_lines_text c.args.stores.now) c.args.runs.now c.loop-run.run-index c.run-item.result _ _ _ _ c.loop-run-test.true c.run-item.is refl c.loop-run.invariant c.in_ok-say_run.ensures.ok
