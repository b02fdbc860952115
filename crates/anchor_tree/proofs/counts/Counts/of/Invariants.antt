-- The invariant of `Counts::of`.
use Rattle.std.proofs.Common.{◌≡◌, ◌^◌}
use Rattle.anchor_tree.specs.Limits.{held}
use Rattle.anchor_tree.specs.Shape.{directories_to}
use Rattle.anchor_tree.proofs.counts.Counts.of.Given as goal

abbrev pub invariant-loop-level : goal.invariant-loop-level
invariant-loop-level l = record { directories : l.directories ≡ held (directories_to l.width l._level); bottom : l.bottom ≡ held (l.width ^ l._level) }
