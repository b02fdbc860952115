use Rattle.std.proofs.Common.{◌≡◌, ◌∙◌, ◌*◌, ap, sym, subst, length, map, rules}
use Rattle.vd_arm.specs.Held.{AreSized, TookSectors}
use Rattle.vd_arm.specs.MemArm.{mem_pass_seen}
use Rattle.vd_arm.proofs.Parts.{torn_by_sectors, transfer_wide}
use Rattle.vd_arm.proofs.memory.MemArmArm.write_run.Goals as goal

pub write_first_sectors-requires-clause-sized : goal.write_first_sectors-requires-clause-sized
write_first_sectors-requires-clause-sized c =
    let size : c.len-size.result ≡ length c.index-passes-0.result.bytes.items = search rules in
    let wide = transfer_wide mem_pass_seen c.args.passes.now c.index-passes-0.result (length c.args.bytes.now) c.index-passes-0.is c.requires.many.0 c.requires.transfer in
    subst (λ n. AreSized n (map mem_pass_seen c.args.passes.now)) (sym size) wide.0

pub write_first_sectors-requires-clause-long : goal.write_first_sectors-requires-clause-long
write_first_sectors-requires-clause-long c =
    let size : c.len-size.result ≡ length c.index-passes-0.result.bytes.items = search rules in
    let wide = transfer_wide mem_pass_seen c.args.passes.now c.index-passes-0.result (length c.args.bytes.now) c.index-passes-0.is c.requires.many.0 c.requires.transfer in
    wide.1 ∙ ap (λ n. length c.args.passes.now * n) (sym size)

pub write_each-requires-clause-sized : goal.write_each-requires-clause-sized
write_each-requires-clause-sized c =
    let size : c.len-size.result ≡ length c.index-passes-0.result.bytes.items = search rules in
    let wide = transfer_wide mem_pass_seen c.args.passes.now c.index-passes-0.result (length c.args.bytes.now) c.index-passes-0.is c.requires.many.0 c.requires.transfer in
    subst (λ n. AreSized n (map mem_pass_seen c.args.passes.now)) (sym size) wide.0

pub write_each-requires-clause-long : goal.write_each-requires-clause-long
write_each-requires-clause-long c =
    let size : c.len-size.result ≡ length c.index-passes-0.result.bytes.items = search rules in
    let wide = transfer_wide mem_pass_seen c.args.passes.now c.index-passes-0.result (length c.args.bytes.now) c.index-passes-0.is c.requires.many.0 c.requires.transfer in
    wide.1 ∙ ap (λ n. length c.args.passes.now * n) (sym size)

pub returns-then-next_fails-clause-torn : goal.returns-then-next_fails-clause-torn
returns-then-next_fails-clause-torn c =
    let wide = transfer_wide mem_pass_seen c.args.passes.now c.index-passes-0.result (length c.args.bytes.now) c.index-passes-0.is c.requires.many.0 c.requires.transfer in
    torn_by_sectors mem_pass_seen (length c.index-passes-0.result.bytes.items) c.next_torn-sectors.result c.args.bytes.now c.args.passes.now (map mem_pass_seen c.write_first_sectors.new.passes)
    wide.0 wide.1 c.write_first_sectors.ensures.took

pub returns-then-next_fails-clause-sectors : goal.returns-then-next_fails-clause-sectors
returns-then-next_fails-clause-sectors c =
    subst (λ n. TookSectors n c.args.bytes.now (map mem_pass_seen c.args.passes.now) (map mem_pass_seen c.write_first_sectors.new.passes)) c.next_torn-sectors.ensures c.write_first_sectors.ensures.took
