-- The invariant of `push_path`.
use Rattle.std.proofs.Common.{◌≡◌, ◌++◌}
use Rattle.std.specs.List.{flat_map, range_with_len}
use Rattle.anchor_tree.specs.Names.{digit_at, folder}
use Rattle.anchor_tree.proofs.names.push_path.Given as goal

abbrev pub invariant-loop-level : goal.invariant-loop-level
invariant-loop-level l = l.name ≡ l.fn.name ++ flat_map (λ q. folder q (digit_at l.width l.place.level l.place.index q)) (range_with_len 1 l.level)
