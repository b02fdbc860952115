use Rattle.std.proofs.Common.{refl}
use Rattle.journal_core.proofs.Making.{gate_there, no_gate_there}
use Rattle.journal_core.proofs.device.epoch_at.Goals as goal

pub returns-in-Some-clause-found : goal.returns-in-Some-clause-found
returns-in-Some-clause-found g c = λ x told. (c.in-Some.gate, gate_there x c.args.area _ c.in-Some.gate (c.in_ok-read.ensures.gives x told) c.in-Some.ensures, refl)

pub returns-in-None-clause-found : goal.returns-in-None-clause-found
returns-in-None-clause-found g c = λ x told. no_gate_there x c.args.area _ (c.in_ok-read.ensures.gives x told) c.in-None.ensures
