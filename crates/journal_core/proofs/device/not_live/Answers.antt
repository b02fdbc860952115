use Rattle.std.proofs.Common.{ℕ, Option, subst, arith}
use Rattle.journal_core.specs.Writes.{HasEpoch}
use Rattle.journal_core.proofs.Making.{even_earlier}
use Rattle.journal_core.proofs.device.not_live.Goals as goal

pub returns-else-first-second-clause-not_live : goal.returns-else-first-second-clause-not_live
returns-else-first-second-clause-not_live c = λ x even odd.
    let both = c.in-Some-Some in
    even_earlier x both.first both.second (subst (λ (o : Option ℕ). HasEpoch 0 o x) both.is-0 even) (subst (λ (o : Option ℕ). HasEpoch 1 o x) both.is-1 odd) (omega (arith, c.if-first-second.false))
