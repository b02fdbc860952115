use Rattle.std.proofs.Common.{rules}
use Rattle.recover_run.proofs.part.look.Goals as goal

pub returns-in-Ok-clause-looks : goal.returns-in-Ok-clause-looks
returns-in-Ok-clause-looks g c = (
  search rules,
  (c.read.new.out, λ told is. c.in-Ok.ensures.gives told is, rw (← c.block.ensures) c.verdict-seen.ensures.exact),
)
