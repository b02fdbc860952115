use Rattle.parm_lex.proofs.LineLoop.{line_kept}
use Rattle.parm_lex.proofs.part.line_parts.Goals as goal

pub loop-parts-preserved : goal.loop-parts-preserved
loop-parts-preserved c =
    line_kept c.args.place c.args.bytes.now c.loop-parts.rest.now c.in_ok-part.after.now c.loop-parts.comma c.in_ok-part.continued c.loop-parts.parts.items _ c.in_ok-part.part c.in_ok-part.last
    c.loop-parts.invariant c.in_ok-part.ensures.value c.if-last.false c.in_ok-part.ensures.shorter c.in_ok-push.ensures.items
