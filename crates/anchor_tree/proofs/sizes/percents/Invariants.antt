-- The invariant of `percents`.
use Rattle.std.proofs.Common.{◌≡◌, take}
use Rattle.anchor_tree.specs.Limits.{held}
use Rattle.anchor_tree.specs.Shape.{percents_of}
use Rattle.anchor_tree.proofs.sizes.percents.Given as goal

abbrev pub invariant-loop-size : goal.invariant-loop-size
invariant-loop-size l = l.sum ≡ held (percents_of (take l.size-index l.sizes))
