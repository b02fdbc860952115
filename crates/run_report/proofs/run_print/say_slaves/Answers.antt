use Rattle.std.proofs.Common.{arith, ◌+◌}
use Rattle.std.specs.List.{zip}
use Rattle.run_report.specs.Runs.{slave_text}
use Rattle.run_report.proofs.Printed.{on_err}
use Rattle.run_report.proofs.RunPrinted.{front_at, said_at, said_range}
use Rattle.run_report.proofs.run_print.say_slaves.Goals as goal

pub returns-in_err-say_slave-clause-err : goal.returns-in_err-say_slave-clause-err
returns-in_err-say_slave-clause-err g c = on_err _ _ (front_at (slave_text (zip c.args.workers.now c.args.tallies.now)) 1 c.args.slaves c.loop-before.before (c.loop-before.before + 1) _ _ _ c.loop-before-test.true (omega arith) c.loop-before.invariant c.in_err-say_slave.ensures.err)

pub loop-before-preserved : goal.loop-before-preserved
loop-before-preserved g c = said_at (slave_text (zip c.args.workers.now c.args.tallies.now)) 1 c.args.slaves c.loop-before.before (c.loop-before.before + 1) _ _ _ c.loop-before-test.true (omega arith) c.loop-before.invariant c.in_ok-say_slave.ensures.ok

pub returns-clause-ok : goal.returns-clause-ok
returns-clause-ok g c = said_range (slave_text (zip c.args.workers.now c.args.tallies.now)) 1 c.args.slaves c.loop-before.before _ _ c.loop-before-test.false c.loop-before.invariant
