use Rattle.parm_lex.specs.Spans.{bytes_of}
use Rattle.parm_forms.specs.Items.{number_item}
use Rattle.parm_forms.proofs.Each.{SoFar}
use Rattle.parm_forms.proofs.numbers.numbers.Given as goal

abbrev pub invariant-loop-item : goal.invariant-loop-item
invariant-loop-item l = SoFar (number_item l.form) (bytes_of l.bytes) l.items l.item-index l.numbers.items
