-- The invariant of `blocks_in`.
use Rattle.std.proofs.Common.{◌≡◌, ℕ, ◌*◌, ◌/◌, ◌≤◌, ◌^◌, take}
use Rattle.std.specs.List.{sum_by}
use Rattle.anchor_tree.proofs.blocks.blocks_in.Given as goal

abbrev pub invariant-loop-size : goal.invariant-loop-size
invariant-loop-size l = (l.blocks ≡ sum_by (λ (size : ℕ). size / l.block_size) (take l.size-index l.sizes)) × (l.blocks ≤ l.size-index * 2 ^ 64)
