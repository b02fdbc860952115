use Rattle.std.proofs.Common.{◌≡◌, length}
use Rattle.sector_stamp.specs.Block.{AreStamped}
use Rattle.sector_stamp.proofs.stamping.stamp_rest.Given as goal

abbrev pub invariant-loop-i : goal.invariant-loop-i
invariant-loop-i l = record {
  long : length l.out ≡ l.store.geometry.block_size;
  images : AreStamped l.store l.block.0 l.key l.out l.i;
}
