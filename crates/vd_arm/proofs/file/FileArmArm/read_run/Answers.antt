use Rattle.std.proofs.Common.{refl}
use Rattle.vd_arm.specs.FileArm.{file_pass_seen}
use Rattle.vd_arm.specs.declared.file.FilePass.{FilePass}
use Rattle.vd_arm.proofs.Parts.{none_tell}
use Rattle.vd_arm.proofs.file.FileArmArm.read_run.Goals as goal

pub returns-clause-gives : goal.returns-clause-gives
returns-clause-gives c = none_tell file_pass_seen (λ (p : FilePass). refl) c.args.passes.now c.read_exact_at.new.buf
