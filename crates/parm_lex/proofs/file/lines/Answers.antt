use Rattle.parm_lex.proofs.Once.{file_only}
use Rattle.parm_lex.proofs.FilePieces.{file_pieces}
use Rattle.parm_lex.proofs.file.lines.Goals as goal

pub returns-clause-only : goal.returns-clause-only
returns-clause-only c = λ read says. file_only (λ lines. lines.items) c.args.bytes.now c.read_file.result read c.read_file.ensures says

pub returns-clause-spans : goal.returns-clause-spans
returns-clause-spans c = file_pieces c.args.bytes.now c.read_file.result c.read_file.ensures
