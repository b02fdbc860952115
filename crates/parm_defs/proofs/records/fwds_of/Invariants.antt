use Rattle.std.proofs.Common.{◌≡◌, ◌++◌, map}
use Rattle.std.specs.Vec.Iter.{into_iter_items}
use Rattle.parm_defs.specs.Records.{fwd_in}
use Rattle.parm_defs.proofs.records.fwds_of.Given as goal

-- the records so far, and those of what is left, are all
abbrev pub invariant-loop-def : goal.invariant-loop-def
invariant-loop-def l = l.records.items ++ map fwd_in (into_iter_items l.def-iterator) ≡ map fwd_in l.fn.defs
