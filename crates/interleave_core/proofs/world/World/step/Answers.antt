use Rattle.interleave_core.proofs.Always.{answer_sound}
use Rattle.interleave_core.proofs.world.World.step.Goals as goal

pub invariant_of-self : goal.invariant_of-self
invariant_of-self c = answer_sound c.self.inside.machine c.step.new.self c.args.event.now c.step.result c.self.invariant c.step.ensures.ok c.step.ensures.err

pub returns-clause-sound : goal.returns-clause-sound
returns-clause-sound c = answer_sound c.self.inside.machine c.step.new.self c.args.event.now c.step.result c.self.invariant c.step.ensures.ok c.step.ensures.err
