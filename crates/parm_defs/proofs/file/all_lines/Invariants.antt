use Rattle.std.proofs.Common.{◌≡◌, drop}
use Rattle.parm_defs.specs.File.{after_lines, start}
use Rattle.parm_defs.proofs.file.all_lines.Given as goal

-- what is left gives what all lines give
abbrev pub invariant-loop-line : goal.invariant-loop-line
invariant-loop-line l = after_lines l.bytes l.so_far (drop l.line-index l.lines) ≡ after_lines l.bytes start l.lines
