use Rattle.std.proofs.Common.{ℕ, Some, length, ◌≡◌, ◌+◌, ◌++◌, [], ◌∷◌, List, ap, sym, ◌∙◌, rules, map, subst}
use Rattle.vd_arm.specs.Arm.{PassSeen}
use Rattle.vd_arm.specs.MemArm.{mem_pass_seen}
use Rattle.vd_yard.specs.Blocks.{AreFirst, AllTell}
use Rattle.vd_yard.specs.Contents.{file_block, length_file_block}
use Rattle.vd_yard.proofs.Passes.{one_first, one_tells, map_push}
use Rattle.vd_yard.proofs.data.cut.Goals as goal

pub loop-block-preserved : goal.loop-block-preserved
loop-block-preserved c =
    let size = c.block_size-size.result in
    let block = c.loop-block.block in
    let before = c.loop-block.passes.items in
    let pass = c.new.result in
    let seen = mem_pass_seen pass in
    let pushed : c.push.new.self.items ≡ before ++ pass ∷ [] = search rules in
    let more = map_push mem_pass_seen before c.push.new.self.items pass pushed in
    let held = c.in_ok-held.held.items in
    let is : held ≡ file_block size block c.args.bytes.now = c.in_ok-held.ensures in
    record {
      first = subst (λ (passes : List PassSeen). AreFirst size (block + 1) passes) (sym more)
          (one_first size block (map mem_pass_seen before) seen c.loop-block.invariant.first (ap (λ (p : PassSeen). p.block) c.new.ensures)
          (ap (λ (p : PassSeen). p.size) c.new.ensures ∙ ap (λ (l : List ℕ). length l) is ∙ length_file_block size block c.args.bytes.now));
      told = subst (λ (passes : List PassSeen). AllTell size c.args.bytes.now passes) (sym more)
          (one_tells size c.args.bytes.now (map mem_pass_seen before) seen block c.loop-block.invariant.told c.loop-block.invariant.first.as_many
          (ap (λ (p : PassSeen). p.told) c.new.ensures ∙ ap (λ (l : List ℕ). Some l) is));
    }
