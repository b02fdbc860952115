use Rattle.std.proofs.Common.{◌≡◌, replicate}
use Rattle.key_state.specs.declared.entry.Entry.TheVariants.{Settled}
use Rattle.key_state.proofs.quiet.never_written.Given as goal

abbrev pub invariant-loop-i : goal.invariant-loop-i
invariant-loop-i l = l.entries.items ≡ replicate l._i (Settled 0)
