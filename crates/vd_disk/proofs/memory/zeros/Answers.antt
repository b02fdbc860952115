use Rattle.std.proofs.Common.{◌++◌, [], ◌∷◌, List, ℕ, replicate, ap, ◌∙◌}
use Rattle.std.proofs.lemmas.List.{replicate_more}
use Rattle.vd_disk.proofs.memory.zeros.Goals as goal

pub loop-i-preserved : goal.loop-i-preserved
loop-i-preserved c =
    c.in_ok-push.ensures.items
    ∙ ap (λ (l : List (List ℕ)). l ++ replicate 512 0 ∷ []) c.loop-i.invariant
    ∙ replicate_more c.loop-i._i (replicate 512 0)
