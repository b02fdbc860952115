use Rattle.std.proofs.Common.{◌≡◌, ◌+◌, ◌++◌, [], ◌∷◌, List, ap, sym, ◌∙◌, rules, arith, map, subst}
use Rattle.vd_arm.specs.Arm.{PassSeen}
use Rattle.vd_arm.specs.FileArm.{file_pass_seen}
use Rattle.vd_yard.specs.Blocks.{AreFirst, all_blocks}
use Rattle.vd_yard.proofs.Passes.{none_first, one_first, map_push}
use Rattle.vd_yard.proofs.host.passes_of.Goals as goal

pub loop-block-init : goal.loop-block-init
loop-block-init c = none_first c.block_size-size.result _ (search rules)

pub loop-block-preserved : goal.loop-block-preserved
loop-block-preserved c =
    let size = c.block_size-size.result in
    let block = c.loop-block.block in
    let before = c.loop-block.passes.items in
    let pass = c.new.result in
    let pushed : c.push.new.self.items ≡ before ++ pass ∷ [] = search rules in
    subst (λ (passes : List PassSeen). AreFirst size (block + 1) passes) (sym (map_push file_pass_seen before c.push.new.self.items pass pushed))
    (one_first size block (map file_pass_seen before) (file_pass_seen pass) c.loop-block.invariant
    (ap (λ (p : PassSeen). p.block) c.new.ensures) (ap (λ (p : PassSeen). p.size) c.new.ensures))

pub returns : goal.returns
returns c =
    let all : c.loop-block.block ≡ c.blocks-block-end.result = omega arith in
    all_blocks c.args.geometry.now c.block_size-size.result c.loop-block.block _ c.loop-block.invariant c.block_size-size.ensures.value
    (all ∙ c.blocks-block-end.ensures.value)
