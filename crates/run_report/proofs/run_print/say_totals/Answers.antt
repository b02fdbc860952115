use Rattle.std.proofs.Common.{arith, length}
use Rattle.std.specs.List.{zip}
use Rattle.run_report.specs.Runs.{store_total_text}
use Rattle.run_report.proofs.Printed.{on_err}
use Rattle.run_report.proofs.RunPrinted.{front_at, said_at, said_range}
use Rattle.run_report.proofs.run_print.say_totals.Goals as goal

pub returns-in_err-say_total-clause-err : goal.returns-in_err-say_total-clause-err
returns-in_err-say_total-clause-err g c = on_err _ _ (front_at (store_total_text c.args.stores.now (zip c.args.workers.now c.args.tallies.now)) 0 (length c.args.stores.now) c.loop-place.place c.loop-place.place _ _ _ c.loop-place-test.true (omega arith) c.loop-place.invariant c.in_err-say_total.ensures.err)

pub loop-place-preserved : goal.loop-place-preserved
loop-place-preserved g c = said_at (store_total_text c.args.stores.now (zip c.args.workers.now c.args.tallies.now)) 0 (length c.args.stores.now) c.loop-place.place c.loop-place.place _ _ _ c.loop-place-test.true (omega arith) c.loop-place.invariant c.in_ok-say_total.ensures.ok

pub returns-clause-ok : goal.returns-clause-ok
returns-clause-ok g c = said_range (store_total_text c.args.stores.now (zip c.args.workers.now c.args.tallies.now)) 0 (length c.args.stores.now) c.loop-place.place _ _ c.loop-place-test.false c.loop-place.invariant
