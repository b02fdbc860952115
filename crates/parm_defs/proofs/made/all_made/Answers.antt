use Rattle.parm_defs.specs.Made.{made}
use Rattle.parm_defs.proofs.Loops.{one_more}
use Rattle.parm_defs.proofs.made.all_made.Goals as goal

pub loop-number-preserved : goal.loop-number-preserved
loop-number-preserved c =
    one_more (made c.args.kind c.args.line c.args.name.now c.args.given.now) c.deref-number-items.result.now c.loop-number.number-index c.number-item.result c.in_ok-made.field-0
    c.loop-number.defs.items c.push.new.items.items c.loop-number.invariant c.number-item.is c.loop-number-test.true c.in_ok-made.ensures c.in_ok-push.ensures
