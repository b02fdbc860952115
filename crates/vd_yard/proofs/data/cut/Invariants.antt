use Rattle.std.proofs.Common.{map}
use Rattle.vd_arm.specs.MemArm.{mem_pass_seen}
use Rattle.vd_yard.specs.Blocks.{AreFirst, AllTell}
use Rattle.vd_yard.proofs.data.cut.Given as goal

abbrev pub invariant-loop-block : goal.invariant-loop-block
invariant-loop-block l = record {
  first : AreFirst l.size l.block (map mem_pass_seen l.passes.items);
  told : AllTell l.size l.bytes (map mem_pass_seen l.passes.items);
}
