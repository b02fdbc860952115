use Rattle.parm_lex.specs.Spans.{bytes_of}
use Rattle.parm_forms.specs.Items.{text_item}
use Rattle.parm_forms.proofs.Each.{SoFar}
use Rattle.parm_forms.proofs.texts.texts.Given as goal

abbrev pub invariant-loop-item : goal.invariant-loop-item
invariant-loop-item l = SoFar (text_item l.form) (bytes_of l.bytes) l.items l.item-index l.texts.items
