use Rattle.std.proofs.Common.{◌-◌, None, subst}
use Rattle.journal_layout.specs.Recovery.{area_of, gate_of_live}
use Rattle.journal_recover.specs.Gates.{IsGateOf}
use Rattle.journal_list.proofs.before.gate_before.Goals as goal

pub returns-in_default-clause-gives : goal.returns-in_default-clause-gives
returns-in_default-clause-gives g c = λ x told other before.
    let area = 1 - area_of c.args.live.now in
    let none : IsGateOf x area None = subst (IsGateOf x area) c.in_default.is (c.in_ok-gate.ensures.gives x told) in
    none (gate_of_live other) before.gate
