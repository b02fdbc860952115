use Rattle.std.proofs.Common.{map}
use Rattle.vd_arm.specs.FileArm.{file_pass_seen}
use Rattle.vd_yard.specs.Blocks.{AreFirst}
use Rattle.vd_yard.proofs.host.passes_of.Given as goal

abbrev pub invariant-loop-block : goal.invariant-loop-block
invariant-loop-block l = AreFirst l.size l.block (map file_pass_seen l.passes.items)
