use Rattle.std.proofs.Common.{◌≡◌}
use Rattle.wildcards.specs.Numbered.{names_of}
use Rattle.wildcards.proofs.numbered.numbered_names.Given as goal

abbrev pub invariant-loop-i : goal.invariant-loop-i
invariant-loop-i l = l.names.items ≡ names_of l.name l.first l.i
