use Rattle.std.proofs.Common.{◌≡◌, [], filter, get_or}
use Rattle.std.specs.List.{range_with_len}
use Rattle.wildcards.specs.Selection.{fits_some}
use Rattle.wildcards.proofs.selection.select.Given as goal

abbrev pub invariant-loop-i : goal.invariant-loop-i
invariant-loop-i l = l.places.items ≡ filter (λ place. fits_some l.patterns (get_or l.names place [])) (range_with_len 0 l.i)
