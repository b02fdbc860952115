use Rattle.std.proofs.Common.{◌≡◌, ℕ, List, ◌+◌, ap, map, rules, refl, subst, sym, arith}
use Rattle.vd_arm.specs.Arm.{PassSeen}
use Rattle.vd_arm.specs.MemArm.{mem_pass_seen}
use Rattle.vd_arm.specs.Transfers.{IsTransfer}
use Rattle.vd_arm.specs.declared.memory.MemPass.{MemPass}
use Rattle.vd_arm.proofs.Parts.{two_blocks}
use Rattle.vd_arm.proofs.memory.tests.a_run_is_read_and_written_in_one_call.Goals as goal

pub read_run-requires-clause-transfer : goal.read_run-requires-clause-transfer
read_run-requires-clause-transfer g c =
    let wide : (mem_pass_seen c.new.result).size ≡ 4 = search rules in
    let same : (mem_pass_seen c.new-2.result).size ≡ 4 = search rules in
    let first : (mem_pass_seen c.new.result).block ≡ 4 = ap (λ (p : PassSeen). p.block) c.new.ensures in
    let second : (mem_pass_seen c.new-2.result).block ≡ 5 = ap (λ (p : PassSeen). p.block) c.new-2.ensures in
    two_blocks (mem_pass_seen c.new.result) (mem_pass_seen c.new-2.result) 4 8 (omega arith) wide same refl

pub write_run-requires-clause-transfer : goal.write_run-requires-clause-transfer
write_run-requires-clause-transfer g c =
    let wide : (mem_pass_seen c.new.result).size ≡ 4 = search rules in
    let same : (mem_pass_seen c.new-2.result).size ≡ 4 = search rules in
    let first : (mem_pass_seen c.new.result).block ≡ 4 = ap (λ (p : PassSeen). p.block) c.new.ensures in
    let second : (mem_pass_seen c.new-2.result).block ≡ 5 = ap (λ (p : PassSeen). p.block) c.new-2.ensures in
    subst (λ (l : List MemPass). IsTransfer (map mem_pass_seen l) 8) (sym c.read_run.ensures.same)
    (two_blocks (mem_pass_seen c.new.result) (mem_pass_seen c.new-2.result) 4 8 (omega arith) wide same refl)
