use Rattle.std.proofs.Common.{◌≡◌, ℕ, ap, rules, refl, ◌+◌, arith}
use Rattle.vd_arm.specs.Arm.{PassSeen}
use Rattle.vd_arm.specs.MemArm.{mem_pass_seen}
use Rattle.vd_arm.proofs.Parts.{two_blocks}
use Rattle.vd_arm.proofs.memory.tests.a_failed_write_changes_first_sectors.Goals as goal

pub write_run-requires-clause-transfer : goal.write_run-requires-clause-transfer
write_run-requires-clause-transfer g c =
    let wide : (mem_pass_seen c.new.result).size ≡ 1024 = search rules in
    let same : (mem_pass_seen c.new-2.result).size ≡ 1024 = search rules in
    let first : (mem_pass_seen c.new.result).block ≡ 4 = ap (λ (p : PassSeen). p.block) c.new.ensures in
    let second : (mem_pass_seen c.new-2.result).block ≡ 5 = ap (λ (p : PassSeen). p.block) c.new-2.ensures in
    two_blocks (mem_pass_seen c.new.result) (mem_pass_seen c.new-2.result) 1024 2048 (omega arith) wide same refl
