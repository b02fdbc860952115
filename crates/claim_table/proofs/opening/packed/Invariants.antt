use Rattle.claim_table.proofs.FirstState.{Packed}
use Rattle.claim_table.proofs.opening.packed.Given as goal

abbrev pub invariant-loop-block : goal.invariant-loop-block
invariant-loop-block g l = Packed (g.B.Book.seen l.book) l.blocks l.block l.words.items
