use Rattle.std.specs.Global.{Vec}
use Rattle.parm_lex.specs.declared.line.ParmLine.{ParmLine}
use Rattle.plan_file.specs.Files.{unread}
use Rattle.plan_file.specs.Words.{lex_word}
use Rattle.run_report.specs.Plans.{parameter_column_text}
use Rattle.plan_file.proofs.Refusals.{stops, worded}
use Rattle.plan_file.proofs.file.lines_in.Goals as goal

pub returns-in-Err-Fault-clause-stops : goal.returns-in-Err-Fault-clause-stops
returns-in-Err-Fault-clause-stops c =
    let fault = c.in-Err-Fault.fault in
    stops (Vec ParmLine) c.args.bytes.now (parameter_column_text fault.line fault.column (lex_word fault.why)) c.parameter_column_line.result _ c.refused.ensures
    (worded _ (parameter_column_text fault.line fault.column) _ _ c.lex_word-why.ensures c.parameter_column_line.ensures)
    (λ made is. unread fault (rw (c.in-Err-Fault.field-0-is) at c.in-Err-Fault.ensures.found) is)
