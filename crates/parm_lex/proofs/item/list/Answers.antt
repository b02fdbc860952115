use Rattle.parm_lex.proofs.Lists.{list_kept}
use Rattle.parm_lex.proofs.item.list.Goals as goal

pub loop-items-preserved : goal.loop-items-preserved
loop-items-preserved c =
    list_kept c.args.place c.args.bytes.now c.loop-items.rest.now c.in_ok-item.after.now c.loop-items.items.items _ c.in_ok-item.item c.in_ok-item.last
    c.loop-items.invariant c.in_ok-item.ensures.value c.if-last.false c.in_ok-item.ensures.shorter c.in_ok-push.ensures.items
