use Rattle.std.proofs.Common.{◌≡◌, ◌∙◌, ◌*◌, ap, sym, subst, length, map, rules}
use Rattle.vd_arm.specs.Held.{AreSized}
use Rattle.vd_arm.specs.MemArm.{mem_pass_seen}
use Rattle.vd_arm.proofs.Parts.{transfer_wide}
use Rattle.vd_arm.proofs.memory.MemArmArm.read_run.Goals as goal

pub read_each-requires-clause-sized : goal.read_each-requires-clause-sized
read_each-requires-clause-sized c =
    let size : c.len-size.result ≡ length c.index-passes-0.result.bytes.items = search rules in
    let wide = transfer_wide mem_pass_seen c.args.passes.now c.index-passes-0.result (length c.args.out.now) c.index-passes-0.is c.requires.many.0 c.requires.transfer in
    subst (λ n. AreSized n (map mem_pass_seen c.args.passes.now)) (sym size) wide.0

pub read_each-requires-clause-long : goal.read_each-requires-clause-long
read_each-requires-clause-long c =
    let size : c.len-size.result ≡ length c.index-passes-0.result.bytes.items = search rules in
    let wide = transfer_wide mem_pass_seen c.args.passes.now c.index-passes-0.result (length c.args.out.now) c.index-passes-0.is c.requires.many.0 c.requires.transfer in
    wide.1 ∙ ap (λ n. length c.args.passes.now * n) (sym size)
