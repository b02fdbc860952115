-- The invariant of `place_of`.
use Rattle.std.proofs.Common.{◌≡◌, ◌≤◌, ◌^◌}
use Rattle.anchor_tree.specs.Shape.{directories_to}
use Rattle.anchor_tree.proofs.names.place_of.Given as goal

abbrev pub invariant-loop-level : goal.invariant-loop-level
invariant-loop-level l = record { before : l.before ≡ directories_to l.width l.level; many : l.many ≡ l.width ^ l.level; past : l.before ≤ l.directory }
