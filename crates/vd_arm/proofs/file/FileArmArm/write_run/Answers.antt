use Rattle.std.proofs.Common.{refl, map}
use Rattle.vd_arm.specs.FileArm.{file_pass_seen}
use Rattle.vd_arm.specs.declared.file.FilePass.{FilePass}
use Rattle.vd_arm.proofs.Parts.{none_took, none_torn}
use Rattle.vd_arm.proofs.file.FileArmArm.write_run.Goals as goal

pub returns-then-not-is_written-clause-torn : goal.returns-then-not-is_written-clause-torn
returns-then-not-is_written-clause-torn c = none_torn file_pass_seen (λ (p : FilePass). refl) c.args.bytes.now c.args.passes.now (map file_pass_seen c.args.passes.now)

pub returns-clause-written : goal.returns-clause-written
returns-clause-written c = none_took file_pass_seen (λ (p : FilePass). refl) c.args.bytes.now c.args.passes.now (map file_pass_seen c.args.passes.now)
