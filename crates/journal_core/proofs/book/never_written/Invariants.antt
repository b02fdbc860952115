use Rattle.std.proofs.Common.{◌≡◌, replicate}
use Rattle.key_state.specs.declared.entry.Entry.TheVariants.{Settled}
use Rattle.journal_core.proofs.book.never_written.Given as goal

abbrev pub invariant-loop-i : goal.invariant-loop-i
invariant-loop-i l = l.entries.items ≡ replicate l._i (Settled 0)
