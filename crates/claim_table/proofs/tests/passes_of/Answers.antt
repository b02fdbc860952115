use Rattle.std.proofs.Common.{rules, arith, ap, sym, subst, ◌∙◌, ◌≡◌, ℕ, List, [], ◌∷◌, ◌++◌, length, length-append, map, slice_get, Some}
use Rattle.std.proofs.lemmas.List.{length-map, map_push}
use Rattle.vd_arm.specs.Arm.{PassSeen}
use Rattle.vd_arm.specs.FileArm.{file_pass_seen}
use Rattle.vd_arm.specs.declared.file.FilePass.{FilePass}
use Rattle.claim_table.proofs.TestParts.{get_push}
use Rattle.claim_table.proofs.tests.passes_of.Goals as goal

pub loop-block-preserved : goal.loop-block-preserved
loop-block-preserved g c =
    let i = c.loop-block.invariant in
    let xs : List FilePass = c.loop-block.passes.items in
    let is : c.push.new.self.items ≡ xs ++ c.new.result ∷ [] = search rules in
    let Q : ℕ → PassSeen → Type 0 = λ b pass. (pass.block ≡ b) × (pass.size ≡ c.block_size-size.result) in
    let All-at : List PassSeen → Type 0 = λ seen. (b : ℕ) (pass : PassSeen) → slice_get seen b ≡ Some pass → Q b pass in
    let at : c.loop-block.block ≡ length (map file_pass_seen xs) = omega (arith, i.0, length-map xs file_pass_seen) in
    let more : All-at (map file_pass_seen xs ++ file_pass_seen c.new.result ∷ []) = get_push Q (map file_pass_seen xs) (file_pass_seen c.new.result) i.1 (ap (λ (p : PassSeen). p.block) c.new.ensures ∙ at, ap (λ (p : PassSeen). p.size) c.new.ensures) in
    (omega (arith, i.0, ap length is, length-append xs (c.new.result ∷ [])), subst (λ (ys : List FilePass). All-at (map file_pass_seen ys)) (sym is) (subst All-at (sym (map_push file_pass_seen xs c.new.result)) more))
