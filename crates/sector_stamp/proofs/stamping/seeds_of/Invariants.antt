use Rattle.std.proofs.Common.{◌≡◌, ℕ, ◌+◌, ◌<◌, length, slice_index}
use Rattle.vd_base.specs.Geometry.{address_of}
use Rattle.lfsr_pattern.specs.Pattern.{seed_of}
use Rattle.sector_stamp.proofs.stamping.seeds_of.Given as goal

abbrev pub invariant-loop-lane : goal.invariant-loop-lane
invariant-loop-lane l = record {
  long : length l.seeds ≡ 8;
  seeds : (k : ℕ) → k < l.lane → slice_index l.seeds k ≡ seed_of (address_of l.store.geometry l.block.0 (l.first + k)) l.key;
}
