use Rattle.interleave_core.proofs.Answering.{recover_answer}
use Rattle.interleave_core.proofs.machine.Machine.recover.Goals as goal

pub returns : goal.returns
returns c =
    recover_answer c.args.self.now c.self.inside.sectors c.self.inside.journal c.recover.new.self c.self.inside.holds.items c.self.inside.keys.items c.deref.result.now c.self.inside.written.items c.self.inside.stopped
    c.self.view_is c.if-not-self.false c.deref.ensures.value c.recover.ensures.same c.recover.ensures.size c.recover.ensures.each
