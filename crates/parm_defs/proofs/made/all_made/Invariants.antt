use Rattle.std.proofs.Common.{◌≡◌, map, take}
use Rattle.parm_defs.specs.Made.{made}
use Rattle.parm_defs.proofs.made.all_made.Given as goal

abbrev pub invariant-loop-number : goal.invariant-loop-number
invariant-loop-number l = l.defs.items ≡ map (made l.kind l.line l.name l.given) (take l.number-index l.number-items)
