use Rattle.std.proofs.Common.{◌∙◌, ap}
use Rattle.vd_disk.specs.Disk.{DiskSeen}
use Rattle.journal_recover.proofs.Live.{finds_live}
use Rattle.journal_recover.proofs.gates.live_gate.Goals as goal

pub returns-clause-gives : goal.returns-clause-gives
returns-clause-gives g c = λ x told.
    let told_then = ap (λ (d : DiskSeen). d.told) c.in_ok-first.ensures.same ∙ told in
    finds_live x c.in_ok-first.first c.in_ok-second.second c.greater.result (c.in_ok-first.ensures.gives x told) (c.in_ok-second.ensures.gives x told_then) c.greater.ensures
