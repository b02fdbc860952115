use Rattle.std.proofs.Common.{◌↔◌}
use Rattle.std.specs.Prelude.{IsTrue}
use Rattle.key_state.specs.declared.entry.Entry.TheVariants.{Settled, Pending}
use Rattle.block_verdict.proofs.Passes.{FitBelow}
use Rattle.block_verdict.proofs.judging.pending.Given as goal

abbrev pub invariant-loop-i : goal.invariant-loop-i
invariant-loop-i l = record {
  old : IsTrue l.held.old ↔ FitBelow l.store l.block.0 (Settled l.old) l.bytes l.i;
  new : IsTrue l.held.new ↔ FitBelow l.store l.block.0 (Settled l.new) l.bytes l.i;
  either : FitBelow l.store l.block.0 (Pending l.old l.new) l.bytes l.i;
}
