use Rattle.std.proofs.Common.{◌≡◌, ◌++◌, ◌+◌, ◌-◌, [], ◌∷◌, List, ℕ, length, replicate, ap, ◌∙◌, arith, append_assoc}
use Rattle.std.proofs.lemmas.List.{replicate_more}
use Rattle.vd_disk.proofs.memory.made_longer.Goals as goal

pub loop-i-preserved : goal.loop-i-preserved
loop-i-preserved c =
    let sectors = c.args.sectors.now in
    let many = c.loop-i._i - length sectors in
    let more : many + 1 ≡ c.loop-i._i + 1 - length sectors = omega arith in
    c.in_ok-push.ensures.items
    ∙ ap (λ (l : List (List ℕ)). l ++ replicate 512 0 ∷ []) c.loop-i.invariant
    ∙ append_assoc sectors (replicate many (replicate 512 0)) (replicate 512 0 ∷ [])
    ∙ ap (λ (l : List (List ℕ)). sectors ++ l) (replicate_more many (replicate 512 0))
    ∙ ap (λ n. sectors ++ replicate n (replicate 512 0)) more
