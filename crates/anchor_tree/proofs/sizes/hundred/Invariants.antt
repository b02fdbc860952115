-- The invariant of `hundred`.
use Rattle.std.proofs.Common.{◌≡◌, ◌<◌, All, map}
use Rattle.std.specs.List.{range_with_len}
use Rattle.anchor_tree.specs.Shape.{size_at}
use Rattle.anchor_tree.proofs.sizes.hundred.Given as goal

abbrev pub invariant-loop-place : goal.invariant-loop-place
invariant-loop-place l = record { value : l.hundred.items ≡ map (size_at l.sizes) (range_with_len 0 l.place); some : All (λ size. 0 < size) l.hundred.items }
