use Rattle.std.proofs.Common.{◌∙◌}
use Rattle.run_report.specs.Plans.{store_text}
use Rattle.run_report.proofs.Printed.{on_err, said_more, said_so_far}
use Rattle.run_report.proofs.plan_print.say_stores.Goals as goal

pub returns-in_err-line-clause-err : goal.returns-in_err-line-clause-err
returns-in_err-line-clause-err g c = on_err _ _ (said_so_far store_text c.args.stores.now c.loop-store.store-index _ _ c.loop-store.invariant)

pub loop-store-preserved : goal.loop-store-preserved
loop-store-preserved g c = said_more store_text c.args.stores.now c.loop-store.store-index c.store-item.result _ _ _ _ c.loop-store-test.true c.store-item.is (c.as_str.ensures ∙ c.in_ok-line.ensures) c.loop-store.invariant c.say.ensures.says
