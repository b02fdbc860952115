use Rattle.std.proofs.Common.{rules, ◌<◌, IsTrue}
use Rattle.interleave_core.proofs.Answering.{write_enabled}
use Rattle.interleave_core.proofs.machine.Machine.may_write.Goals as goal

pub returns : goal.returns
returns c =
    let within : c.args.sector < c.args.self.now.sectors = search rules in
    write_enabled c.args.self.now c.args.worker c.args.sector c.args.block c.hold-hold.result (IsTrue c.are_safe.result)
    (c.is_there.ensures.0 c.if-not-is_there.false) c.hold-hold.ensures.value (c.is_open.ensures.0 c.if-not-is_open.false) (c.lists.ensures.0 c.if-not-lists.false) within c.are_safe.ensures
