use Rattle.std.proofs.Common.{ℕ, ◌<◌}
use Rattle.key_state.specs.declared.entry.Entry.TheVariants.{Settled}
use Rattle.block_verdict.specs.Fits.{FitsAt}
use Rattle.block_verdict.proofs.judging.settled.Given as goal

abbrev pub invariant-loop-i : goal.invariant-loop-i
invariant-loop-i l =
    (i : ℕ) → i < l.i → FitsAt l.store l.block.0 (Settled l.key) l.bytes i
