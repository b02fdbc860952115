use Rattle.parm_records.specs.Ranges.{Defs}
use Rattle.plan_file.specs.Files.{undefined}
use Rattle.plan_file.specs.Words.{defs_word}
use Rattle.run_report.specs.Plans.{parameter_text}
use Rattle.plan_file.proofs.Refusals.{stops, worded}
use Rattle.plan_file.proofs.file.defs_in.Goals as goal

pub returns-in-Err-Fault-clause-stops : goal.returns-in-Err-Fault-clause-stops
returns-in-Err-Fault-clause-stops c =
    let fault = c.in-Err-Fault.fault in
    stops Defs c.args.bytes.now (parameter_text fault.line (defs_word fault.kind)) c.parameter_line.result _ c.refused.ensures
    (worded _ (parameter_text fault.line) _ _ c.defs_word-why.ensures c.parameter_line.ensures)
    (λ made is. undefined c.args.lines.now fault c.requires.read (rw (c.in-Err-Fault.field-0-is) at c.in-Err-Fault.ensures.gives) is)
