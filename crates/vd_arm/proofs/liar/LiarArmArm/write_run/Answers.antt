use Rattle.std.proofs.Common.{◌≡◌, ◌∙◌, ◌*◌, List, ℕ, ap, sym, subst, length, map, refl}
use Rattle.vd_arm.specs.Held.{AreSized}
use Rattle.vd_arm.specs.LiarArm.{inner_seen, liar_pass_seen}
use Rattle.vd_arm.specs.declared.liar.LiarPass.{LiarPass}
use Rattle.vd_arm.proofs.Addresses.{same_through, sized_through}
use Rattle.vd_arm.proofs.Parts.{none_took, transfer_wide}
use Rattle.vd_arm.proofs.liar.LiarArmArm.write_run.Goals as goal

pub write_as-requires-clause-sized : goal.write_as-requires-clause-sized
write_as-requires-clause-sized c =
    let first = c.index-passes-0.result in
    let size : length c.held_bytes-size.result.now ≡ (inner_seen first).size =
    ap (λ (l : List ℕ). length l) c.held_bytes-size.ensures ∙ ap (λ (p : LiarPass). (inner_seen p).size) (sym c.index-passes-0.is) in
    let wide = transfer_wide liar_pass_seen c.args.passes.now first (length c.args.bytes.now) c.index-passes-0.is c.requires.many.0 c.requires.transfer in
    subst (λ n. AreSized n (map inner_seen c.args.passes.now)) (sym size)
    (sized_through liar_pass_seen inner_seen (λ (p : LiarPass). refl) (inner_seen first).size c.args.passes.now wide.0)

pub write_as-requires-clause-long : goal.write_as-requires-clause-long
write_as-requires-clause-long c =
    let first = c.index-passes-0.result in
    let size : length c.held_bytes-size.result.now ≡ (inner_seen first).size =
    ap (λ (l : List ℕ). length l) c.held_bytes-size.ensures ∙ ap (λ (p : LiarPass). (inner_seen p).size) (sym c.index-passes-0.is) in
    let wide = transfer_wide liar_pass_seen c.args.passes.now first (length c.args.bytes.now) c.index-passes-0.is c.requires.many.0 c.requires.transfer in
    wide.1 ∙ ap (λ n. length c.args.passes.now * n) (sym size)

pub returns-clause-blocks : goal.returns-clause-blocks
returns-clause-blocks c =
    same_through inner_seen liar_pass_seen (λ (p : LiarPass). refl) (λ (p : LiarPass). refl) c.args.passes.now c.write_as.new.passes c.write_as.ensures.blocks

pub returns-clause-written : goal.returns-clause-written
returns-clause-written c = none_took liar_pass_seen (λ (p : LiarPass). refl) c.args.bytes.now c.args.passes.now (map liar_pass_seen c.write_as.new.passes)
