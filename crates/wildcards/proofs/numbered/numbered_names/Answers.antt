use Rattle.std.proofs.Common.{◌++◌, ◌∷◌, [], ap, ◌∙◌, refl}
use Rattle.wildcards.proofs.Places.{name_kept}
use Rattle.wildcards.proofs.numbered.numbered_names.Goals as goal

pub loop-i-preserved : goal.loop-i-preserved
loop-i-preserved c =
    name_kept c.args.name.now c.args.first c.loop-i.i _ c.loop-i.names.items _ c.loop-i.invariant refl
    (c.in_ok-push.ensures.items ∙ ap (λ text. c.loop-i.names.items ++ text ∷ []) c.in_ok-numbered.ensures)
