use Rattle.std.proofs.Common.{length}
use Rattle.parm_lex.proofs.Lists.{ListSoFar}
use Rattle.parm_lex.proofs.item.list.Given as goal

abbrev pub invariant-loop-items : goal.invariant-loop-items
invariant-loop-items l = ListSoFar l.place l.fn.bytes l.rest l.items.items

abbrev pub decreases-loop-items : goal.decreases-loop-items
decreases-loop-items l = length l.rest
