use Rattle.std.proofs.Common.{◌≡◌, ◌≤◌, ℕ, length, map, slice_get, Some, vec_capacity}
use Rattle.vd_arm.specs.Arm.{PassSeen}
use Rattle.vd_arm.specs.FileArm.{file_pass_seen}
use Rattle.bench_claims.proofs.store.passes_of.Given as goal

abbrev pub invariant-loop-block : goal.invariant-loop-block
invariant-loop-block l = record {
  many : length l.passes.items ≡ l.block;
  room : l.store.geometry.blocks ≤ vec_capacity l.passes;
  each : (b : ℕ) (pass : PassSeen) → slice_get (map file_pass_seen l.passes.items) b ≡ Some pass → (pass.block ≡ b) × (pass.size ≡ l.size);
}
