use Rattle.std.proofs.Common.{[], Bool, Option}
use Rattle.std.specs.Global.{Vec}
use Rattle.std.proofs.lemmas.Result.{err_from_is_err_and}
use Rattle.parm_lex.specs.Lines.{cut_view, step_view}
use Rattle.parm_lex.specs.declared.line.OpenLine.{OpenLine}
use Rattle.parm_lex.specs.declared.line.ParmLine.{ParmLine}
use Rattle.parm_lex.specs.declared.part.ParmPart.{ParmPart}
use Rattle.parm_lex.proofs.Files.{read_ok, read_err}
use Rattle.parm_lex.proofs.line.read_cut.Goals as goal

pub returns-clause-value : goal.returns-clause-value
returns-clause-value c = read_ok _ (cut_view c.args.cut) c.args.held c.blanks_off.result.now c.in_ok-read.read.items c.in_ok-read.continued c.after_line.result c.blanks_off.ensures.value c.in_ok-read.ensures c.after_line.ensures.value

pub returns-in_err-read-clause-value : goal.returns-in_err-read-clause-value
returns-in_err-read-clause-value c =
    let p = err_from_is_err_and c.from_residual.result c.from_residual.ensures.1 in
    rw (p.1, p.2) (read_err {X = Option ParmLine × Bool × Option OpenLine} {Y = Vec ParmPart × Bool} (step_view (cut_view c.args.cut)) (λ x. (x.0.items, ([], x.1))) (cut_view c.args.cut) c.args.held c.blanks_off.result.now c.in_err-read.field-0.0 c.blanks_off.ensures.value c.in_err-read.ensures)
