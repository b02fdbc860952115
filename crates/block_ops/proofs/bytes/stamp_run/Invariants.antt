use Rattle.std.proofs.Common.{◌≡◌, ◌*◌, length}
use Rattle.block_ops.specs.Transfers.{AreStamps}
use Rattle.block_ops.proofs.bytes.stamp_run.Given as goal

abbrev pub invariant-loop-i : goal.invariant-loop-i
invariant-loop-i l = record {
  long : length l.buf ≡ length l.entries * l.store.geometry.block_size;
  stamps : AreStamps l.store l.first.0 l.entries l.i l.buf;
}
