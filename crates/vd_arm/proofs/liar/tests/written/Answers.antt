use Rattle.std.proofs.Common.{◌≡◌, ap, rules}
use Rattle.vd_arm.specs.LiarArm.{liar_pass_seen}
use Rattle.vd_arm.proofs.Parts.{one_block}
use Rattle.vd_arm.proofs.liar.tests.written.Goals as goal

pub write_run-requires-clause-transfer : goal.write_run-requires-clause-transfer
write_run-requires-clause-transfer g c =
    let wide : (liar_pass_seen c.new-2.result).size ≡ 1024 = search rules in
    one_block (liar_pass_seen c.new-2.result) 1024 wide
