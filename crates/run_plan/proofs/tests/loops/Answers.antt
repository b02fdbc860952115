use Rattle.std.proofs.Common.{◌≡◌, ◌++◌, ◌∷◌, [], ap, ◌∙◌}
use Rattle.std.specs.Prelude.{codes}
use Rattle.run_plan.proofs.LoopRows.{pushed, two_loops, words}
use Rattle.run_plan.proofs.tests.loops.Goals as goal

pub planned-text-requires-clause-rd : goal.planned-text-requires-clause-rd
planned-text-requires-clause-rd g c =
    let first : c.push.new.self.items ≡ c.text.result ∷ [] =
    pushed _ _ _ _ _ c.expect.ensures c.push.ensures.items ∙ ap (λ xs. xs ++ c.text.result ∷ []) c.new-words.ensures.items in
    let both : c.of.result ≡ c.text.result ∷ c.text-2.result ∷ [] =
    c.of.ensures ∙ pushed _ _ _ _ _ c.expect-2.ensures c.push-2.ensures.items ∙ ap (λ xs. xs ++ c.text-2.result ∷ []) first in
    let these : c.of.result ≡ words =
    both ∙ ap (λ w. w ∷ c.text-2.result ∷ []) c.text.ensures ∙ ap (λ w. codes "forxfersize" ∷ w ∷ []) c.text-2.ensures in
    two_loops c.rd.result c.numbers.result c.numbers-2.result c.of.result c.rd.ensures.valid c.rd.ensures.percents c.numbers.ensures c.numbers-2.ensures these
