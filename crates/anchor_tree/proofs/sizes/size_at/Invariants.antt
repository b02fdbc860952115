-- The invariant of `size_at`.
use Rattle.std.proofs.Common.{◌≡◌, ◌≤◌, take}
use Rattle.anchor_tree.specs.Shape.{percents_of}
use Rattle.anchor_tree.proofs.sizes.size_at.Given as goal

abbrev pub invariant-loop-size : goal.invariant-loop-size
invariant-loop-size l = (l.percents ≡ percents_of (take l.size-index l.sizes)) × (l.percents ≤ l.n)
