use Rattle.std.proofs.Common.{rules, arith, ap, sym, subst, ◌∙◌, ◌≡◌, ℕ, List, [], ◌∷◌, ◌++◌, length, length-append, map, slice_get, Some}
use Rattle.std.proofs.lemmas.List.{length-map, map_push}
use Rattle.vd_arm.specs.Arm.{PassSeen}
use Rattle.vd_arm.specs.FileArm.{file_pass_seen}
use Rattle.vd_arm.specs.declared.file.FilePass.{FilePass}
use Rattle.bench_claims.proofs.Pushes.{get_push}
use Rattle.bench_claims.proofs.store.passes_of.Goals as goal

pub loop-block-preserved : goal.loop-block-preserved
loop-block-preserved c =
    let i = c.loop-block.invariant in
    let xs : List FilePass = c.loop-block.passes.items in
    let new : FilePass = c.new.result in
    let is : c.push_reserved.new.self.items ≡ xs ++ new ∷ [] = search rules in
    let Q : ℕ → PassSeen → Type 0 = λ b pass. (pass.block ≡ b) × (pass.size ≡ c.block_size-size.result) in
    let All-at : List PassSeen → Type 0 = λ seen. (b : ℕ) (pass : PassSeen) → slice_get seen b ≡ Some pass → Q b pass in
    let at-end : c.loop-block.block ≡ length (map file_pass_seen xs) = omega (arith, i.many, length-map xs file_pass_seen) in
    let more : All-at (map file_pass_seen xs ++ file_pass_seen new ∷ []) = get_push Q (map file_pass_seen xs) (file_pass_seen new) i.each (ap (λ (p : PassSeen). p.block) c.new.ensures ∙ at-end, ap (λ (p : PassSeen). p.size) c.new.ensures) in
    record {
      many = omega (arith, i.many, ap length is, length-append xs (new ∷ []));
      room = search rules;
      each = subst (λ (ys : List FilePass). All-at (map file_pass_seen ys)) (sym is) (subst All-at (sym (map_push file_pass_seen xs new)) more);
    }
