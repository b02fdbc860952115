use Rattle.std.proofs.Common.{◌≡◌, ℕ, length, map, slice_get, Some}
use Rattle.vd_arm.specs.Arm.{PassSeen}
use Rattle.vd_arm.specs.FileArm.{file_pass_seen}
use Rattle.claim_table.proofs.tests.passes_of.Given as goal

abbrev pub invariant-loop-block : goal.invariant-loop-block
invariant-loop-block g l = (length l.passes.items ≡ l.block) × ((b : ℕ) (pass : PassSeen) → slice_get (map file_pass_seen l.passes.items) b ≡ Some pass → (pass.block ≡ b) × (pass.size ≡ l.size))
