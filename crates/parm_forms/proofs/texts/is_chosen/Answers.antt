use Rattle.std.proofs.Common.{◌∙◌, ap, sym}
use Rattle.std.specs.List.{list_any}
use Rattle.std.specs.Str.{bytes_eq}
use Rattle.parm_forms.proofs.Words.{any_mapped}
use Rattle.parm_forms.proofs.texts.is_chosen.Goals as goal

pub returns : goal.returns
returns c =
    c.is_word.ensures
    ∙ sym (any_mapped (λ word. bytes_eq word c.args.item.now) (λ word. word.now) c.words.result.now)
    ∙ ap (list_any (λ word. bytes_eq word c.args.item.now)) c.words.ensures
