use Rattle.journal_list.specs.Audits.{AreInside, made_of}
use Rattle.journal_list.proofs.counts.first_outside.Given as goal

abbrev pub invariant-loop-i : goal.invariant-loop-i
invariant-loop-i l = AreInside l.blocks (made_of l.records) l.i
