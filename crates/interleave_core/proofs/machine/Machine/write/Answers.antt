use Rattle.std.proofs.Common.{ap, ◌∙◌}
use Rattle.interleave_core.specs.Event.{pending_key}
use Rattle.interleave_core.proofs.Answering.{write_answer}
use Rattle.interleave_core.proofs.machine.Machine.write.Goals as goal

pub returns : goal.returns
returns c =
    write_answer c.args.self.now c.stamp.new.self c.args.worker c.args.sector c.place-place.result c.pending_key-key.result c.args.block (c.may_write.ensures.0 c.if-not-may_write.false)
    c.place-place.ensures.value (c.pending_key-key.ensures ∙ ap pending_key c.entry.ensures) c.stamp.ensures
