use Rattle.vd_yard.specs.Kept.{nothing_kept_not}
use Rattle.vd_yard.proofs.host.HostYardYard.disk.Goals as goal

pub returns-in-Ok-clause-told : goal.returns-in-Ok-clause-told
returns-in-Ok-clause-told c = λ kept is. absurd (nothing_kept_not c.args.path.now kept is)
