use Rattle.std.proofs.Common.{length}
use Rattle.parm_lex.proofs.LineLoop.{LineSoFar}
use Rattle.parm_lex.proofs.part.line_parts.Given as goal

abbrev pub invariant-loop-parts : goal.invariant-loop-parts
invariant-loop-parts l = LineSoFar l.place l.fn.bytes l.rest l.comma l.parts.items

abbrev pub decreases-loop-parts : goal.decreases-loop-parts
decreases-loop-parts l = length l.rest
