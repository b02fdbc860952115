use Rattle.run_report.specs.Runs.{PrintsFindings, findings_text}
use Rattle.run_report.proofs.Printed.{on_err}
use Rattle.run_report.proofs.RunPrinted.{all_pair, front_pair, said_pair, said_pairs}
use Rattle.run_report.proofs.run_print.say_workers.Goals as goal

pub say_worker-requires : goal.say_worker-requires
say_worker-requires g c = all_pair c.args.workers.now c.args.tallies.now c.loop-i.i _ c.index-tallies-i.result c.requires.many c.loop-i-test.true c.index-tallies-i.is (PrintsFindings c.args.stores.now) c.requires.each

pub returns-in_err-say_worker-clause-err : goal.returns-in_err-say_worker-clause-err
returns-in_err-say_worker-clause-err g c =
    on_err _ _ (front_pair c.args.workers.now c.args.tallies.now c.loop-i.i _ c.index-tallies-i.result c.requires.many c.loop-i-test.true c.index-tallies-i.is (findings_text c.args.stores.now) _ _ _ c.loop-i.invariant c.in_err-say_worker.ensures.err)

pub loop-i-preserved : goal.loop-i-preserved
loop-i-preserved g c =
    said_pair c.args.workers.now c.args.tallies.now c.loop-i.i _ c.index-tallies-i.result c.requires.many c.loop-i-test.true c.index-tallies-i.is (findings_text c.args.stores.now) _ _ _ c.loop-i.invariant c.in_ok-say_worker.ensures.ok

pub returns-clause-ok : goal.returns-clause-ok
returns-clause-ok g c = said_pairs (findings_text c.args.stores.now) c.args.workers.now c.args.tallies.now c.loop-i.i _ _ c.requires.many c.loop-i-test.false c.loop-i.invariant
