use Rattle.std.proofs.Common.{◌≡◌, ℕ, ◌%◌, ◌<◌, ◌≤◌, [], slice_index, slice_index_or, slice_set}
use Rattle.lfsr_pattern.proofs.lanes.put_bytes.Given as goal

abbrev pub invariant-loop-lane : goal.invariant-loop-lane
invariant-loop-lane l = record {
  written : (k : ℕ) → k < l.lane → slice_index_or l.out k [] ≡ slice_set (slice_index_or l.fn.out k []) l.j (slice_index l.states k % 256);
  rest : (k : ℕ) → l.lane ≤ k → slice_index_or l.out k [] ≡ slice_index_or l.fn.out k [];
}
