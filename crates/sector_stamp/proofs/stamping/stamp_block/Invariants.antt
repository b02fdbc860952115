use Rattle.std.proofs.Common.{◌≡◌, ◌*◌, length}
use Rattle.sector_stamp.specs.Block.{AreStamped}
use Rattle.sector_stamp.proofs.stamping.stamp_block.Given as goal

abbrev pub invariant-loop-n : goal.invariant-loop-n
invariant-loop-n l = record {
  long : length l.out ≡ l.store.geometry.block_size;
  images : AreStamped l.store l.block.0 l.key l.out (8 * l.n);
}
