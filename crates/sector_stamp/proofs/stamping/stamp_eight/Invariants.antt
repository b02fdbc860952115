use Rattle.std.proofs.Common.{◌≡◌, ◌+◌, length}
use Rattle.sector_stamp.specs.Block.{AreStamped}
use Rattle.sector_stamp.proofs.stamping.stamp_eight.Given as goal

abbrev pub invariant-loop-lane : goal.invariant-loop-lane
invariant-loop-lane l = record {
  long : length l.out ≡ l.store.geometry.block_size;
  images : AreStamped l.store l.block.0 l.key l.out (l.first + l.lane);
}
