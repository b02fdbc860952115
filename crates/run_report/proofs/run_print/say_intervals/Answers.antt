use Rattle.std.proofs.Common.{arith}
use Rattle.run_report.specs.Runs.{interval_text, most_rows}
use Rattle.run_report.proofs.Printed.{on_err}
use Rattle.run_report.proofs.RunPrinted.{front_at, said_at, said_range}
use Rattle.run_report.proofs.run_print.say_intervals.Goals as goal

pub returns-in_err-say_interval-clause-err : goal.returns-in_err-say_interval-clause-err
returns-in_err-say_interval-clause-err g c = on_err _ _ (front_at (interval_text c.args.tallies.now) 0 (most_rows c.args.tallies.now) c.loop-place.place c.loop-place.place _ _ _ (omega arith) (omega arith) c.loop-place.invariant c.in_err-say_interval.ensures.err)

pub loop-place-preserved : goal.loop-place-preserved
loop-place-preserved g c = said_at (interval_text c.args.tallies.now) 0 (most_rows c.args.tallies.now) c.loop-place.place c.loop-place.place _ _ _ (omega arith) (omega arith) c.loop-place.invariant c.in_ok-say_interval.ensures.ok

pub returns-clause-ok : goal.returns-clause-ok
returns-clause-ok g c = said_range (interval_text c.args.tallies.now) 0 (most_rows c.args.tallies.now) c.loop-place.place _ _ (omega arith) c.loop-place.invariant
