use Rattle.std.proofs.Common.{refl}
use Rattle.plan_file.specs.Files.{planned, without_plan}
use Rattle.plan_file.specs.Words.{plan_word}
use Rattle.run_report.specs.Plans.{parameter_text}
use Rattle.plan_file.proofs.Refusals.{refuses, worded}
use Rattle.plan_file.proofs.file.plan_in.Goals as goal

pub returns-in-Ok-clause-plans : goal.returns-in-Ok-clause-plans
returns-in-Ok-clause-plans c = planned c.args.lines.now c.args.defs.now c.in-Ok.plan c.requires.read c.requires.defined c.in-Ok.ensures.gives refl

pub returns-in-Err-Fault-clause-plans : goal.returns-in-Err-Fault-clause-plans
returns-in-Err-Fault-clause-plans c =
    let fault = c.in-Err-Fault.fault in
    refuses c.args.bytes.now (parameter_text fault.line (plan_word fault.kind)) c.parameter_line.result _ c.refused.ensures
    (worded _ (parameter_text fault.line) _ _ c.plan_word-why.ensures c.parameter_line.ensures)
    (λ made is. without_plan c.args.lines.now c.args.defs.now fault c.requires.read c.requires.defined (rw (c.in-Err-Fault.field-0-is) at c.in-Err-Fault.ensures.gives) is)
