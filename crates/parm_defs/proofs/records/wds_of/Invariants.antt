use Rattle.std.proofs.Common.{◌≡◌, ◌++◌, map}
use Rattle.std.specs.Vec.Iter.{into_iter_items}
use Rattle.parm_defs.specs.Records.{wd_in}
use Rattle.parm_defs.proofs.records.wds_of.Given as goal

-- the records so far, and those of what is left, are all
abbrev pub invariant-loop-def : goal.invariant-loop-def
invariant-loop-def l = l.records.items ++ map wd_in (into_iter_items l.def-iterator) ≡ map wd_in l.fn.defs
