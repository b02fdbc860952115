use Rattle.std.proofs.Common.{length}
use Rattle.parm_lex.proofs.FileLoop.{FileSoFar}
use Rattle.parm_lex.proofs.file.file_lines.Given as goal

abbrev pub invariant-loop-lines : goal.invariant-loop-lines
invariant-loop-lines l = FileSoFar l.fn.bytes l.rest l.number l.held l.lines.items

abbrev pub decreases-loop-lines : goal.decreases-loop-lines
decreases-loop-lines l = length l.rest
