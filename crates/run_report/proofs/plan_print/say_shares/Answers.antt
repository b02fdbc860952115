use Rattle.std.proofs.Common.{◌∙◌}
use Rattle.run_report.specs.Plans.{share_text}
use Rattle.run_report.proofs.Printed.{on_err, said_more, said_so_far}
use Rattle.run_report.proofs.plan_print.say_shares.Goals as goal

pub returns-in_err-line-clause-err : goal.returns-in_err-line-clause-err
returns-in_err-line-clause-err g c = on_err _ _ (said_so_far (share_text c.args.stores.now) c.args.shares.now c.loop-share.share-index _ _ c.loop-share.invariant)

pub loop-share-preserved : goal.loop-share-preserved
loop-share-preserved g c = said_more (share_text c.args.stores.now) c.args.shares.now c.loop-share.share-index c.share-item.result _ _ _ _ c.loop-share-test.true c.share-item.is (c.as_str.ensures ∙ c.in_ok-line.ensures) c.loop-share.invariant c.say.ensures.says
