use Rattle.std.specs.Vec.Iter.{into_iter_items}
use Rattle.parm_defs.specs.Records.{fsd_in}
use Rattle.parm_defs.proofs.Loops.{one_read}
use Rattle.parm_defs.proofs.records.fsds_of.Goals as goal

pub loop-def-preserved : goal.loop-def-preserved
loop-def-preserved c =
    one_read fsd_in c.loop-def.records.items c.push.new.items.items c.fsd_of.result c.in-Some.def (into_iter_items c.loop-def.def-iterator) (into_iter_items c.next.new.self) _
    c.loop-def.invariant c.in-Some.ensures.steps.0 c.fsd_of.ensures c.in_ok-push.ensures
