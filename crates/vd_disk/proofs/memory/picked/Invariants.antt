use Rattle.std.proofs.Common.{◌≡◌, ◌+◌, ◌*◌, ◌%◌, ◌^◌, ◌<◌, ℕ, [], length, slice_index_or}
use Rattle.vd_disk.specs.Disk.{present}
use Rattle.vd_disk.specs.Step.{tables_from}
use Rattle.vd_disk.proofs.memory.picked.Given as goal

abbrev pub invariant-loop-i : goal.invariant-loop-i
invariant-loop-i l = record {
  size : length l.image.items ≡ l.i;
  each : (k : ℕ) → k < l.i → slice_index_or l.image.items k [] ≡ slice_index_or (slice_index_or (present (tables_from l.first l.steps)) k []) ((k + 1) * l.pick % 2 ^ 64 % length (slice_index_or (present (tables_from l.first l.steps)) k [])) [];
}
