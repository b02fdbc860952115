-- The invariant of `place_in`.
use Rattle.std.proofs.Common.{◌≡◌, ℕ, ◌/◌, ◌≤◌, take}
use Rattle.std.specs.List.{sum_by}
use Rattle.anchor_tree.proofs.blocks.place_in.Given as goal

abbrev pub invariant-loop-file : goal.invariant-loop-file
invariant-loop-file l = (l.before ≡ sum_by (λ (size : ℕ). size / l.block_size) (take l.file l.sizes)) × (l.before ≤ l.block)
