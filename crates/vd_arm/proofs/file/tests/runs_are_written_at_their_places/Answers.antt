use Rattle.std.proofs.Common.{◌≡◌, ◌∷◌, [], ℕ, ◌+◌, ap, map, refl, arith}
use Rattle.vd_arm.specs.Arm.{PassSeen}
use Rattle.vd_arm.specs.FileArm.{file_pass_seen}
use Rattle.vd_arm.proofs.Parts.{transfer_stays, two_blocks}
use Rattle.vd_arm.proofs.file.tests.runs_are_written_at_their_places.Goals as goal

pub write_run-requires-clause-transfer : goal.write_run-requires-clause-transfer
write_run-requires-clause-transfer g c =
    let first : (file_pass_seen c.new.result).block ≡ 1 = ap (λ (p : PassSeen). p.block) c.new.ensures in
    let second : (file_pass_seen c.new-2.result).block ≡ 2 = ap (λ (p : PassSeen). p.block) c.new-2.ensures in
    two_blocks (file_pass_seen c.new.result) (file_pass_seen c.new-2.result) 4 8 (omega arith) (ap (λ (p : PassSeen). p.size) c.new.ensures) (ap (λ (p : PassSeen). p.size) c.new-2.ensures) refl

pub read_run-requires-clause-transfer : goal.read_run-requires-clause-transfer
read_run-requires-clause-transfer g c =
    let first : (file_pass_seen c.new.result).block ≡ 1 = ap (λ (p : PassSeen). p.block) c.new.ensures in
    let second : (file_pass_seen c.new-2.result).block ≡ 2 = ap (λ (p : PassSeen). p.block) c.new-2.ensures in
    transfer_stays (file_pass_seen c.new.result ∷ file_pass_seen c.new-2.result ∷ []) (map file_pass_seen c.write_run.new.passes) 8 c.write_run.ensures.blocks
    (two_blocks (file_pass_seen c.new.result) (file_pass_seen c.new-2.result) 4 8 (omega arith) (ap (λ (p : PassSeen). p.size) c.new.ensures) (ap (λ (p : PassSeen). p.size) c.new-2.ensures) refl)
