use Rattle.parm_lex.specs.Lines.{cut_view}
use Rattle.parm_lex.proofs.FileLoop.{file_done, file_kept}
use Rattle.parm_lex.proofs.file.file_lines.Goals as goal

pub returns-then-last : goal.returns-then-last
returns-then-last c =
    file_done c.args.bytes.now c.loop-lines.rest.now c.loop-lines.number c.loop-lines.held c.in_ok-line.open c.loop-lines.lines.items c.keep.new.lines.items c.in_ok-line.line c.in_ok-line.last (cut_view c.first_cut-cut.result)
    c.loop-lines.invariant c.first_cut-cut.ensures.value c.in_ok-line.ensures.value c.if-last.true c.in_ok-keep.ensures.ok

pub loop-lines-preserved : goal.loop-lines-preserved
loop-lines-preserved c =
    file_kept c.args.bytes.now c.loop-lines.rest.now c.loop-lines.number c.loop-lines.held c.in_ok-line.open c.loop-lines.lines.items c.keep.new.lines.items c.in_ok-line.line c.in_ok-line.last (cut_view c.first_cut-cut.result)
    c.loop-lines.invariant c.first_cut-cut.ensures.value c.first_cut-cut.ensures.shorter c.in_ok-line.ensures.value c.if-last.false c.in_ok-line.ensures.more c.in_ok-keep.ensures.ok
