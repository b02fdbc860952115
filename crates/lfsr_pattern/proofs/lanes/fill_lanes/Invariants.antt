use Rattle.std.proofs.Common.{◌≡◌, ℕ, ◌<◌, [], length, slice_index, slice_index_or}
use Rattle.lfsr_pattern.proofs.LaneSteps.{IsLane}
use Rattle.lfsr_pattern.proofs.lanes.fill_lanes.Given as goal

abbrev pub invariant-loop-j : goal.invariant-loop-j
invariant-loop-j l = record {
  long : length l.states ≡ 8;
  lanes : (k : ℕ) → k < 8 → IsLane (slice_index l.seeds k) l.j (slice_index_or l.out k []) (slice_index l.states k);
}
