use Rattle.std.proofs.Common.{◌≡◌, ◌+◌, ◌++◌, [], ◌∷◌, ap, sym, ◌∙◌, rules, map, take, get_or, length, ◌<◌}
use Rattle.std.proofs.lemmas.List.{take_more}
use Rattle.vd_arm.specs.MemArm.{mem_pass_seen}
use Rattle.vd_yard.proofs.Passes.{told_more, map_push}
use Rattle.vd_yard.proofs.data.joined.Goals as goal

pub loop-pass-preserved : goal.loop-pass-preserved
loop-pass-preserved c =
    let all = c.args.passes.now in
    let i = c.loop-pass.pass-index in
    let pass = c.pass-item.result in
    let inside : i < length all = search rules in
    let this : get_or all i pass ≡ pass = sym c.pass-item.is in
    let front : take (i + 1) all ≡ take i all ++ pass ∷ [] = take_more all i pass inside ∙ ap (λ p. take i all ++ p ∷ []) this in
    c.in_ok-extend_from_slice.ensures.items
    ∙ ap (λ l. l ++ c.bytes.result.now) c.loop-pass.invariant
    ∙ sym (told_more (map mem_pass_seen (take i all)) (map mem_pass_seen (take (i + 1) all)) (mem_pass_seen pass) c.bytes.result.now
    (map_push mem_pass_seen (take i all) (take (i + 1) all) pass front) c.bytes.ensures)
