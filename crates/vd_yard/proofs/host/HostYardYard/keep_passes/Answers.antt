use Rattle.std.proofs.Common.{sym, List, ℕ}
use Rattle.vd_yard.specs.Kept.{keep_at_untold, nothing_kept}
use Rattle.vd_yard.proofs.host.HostYardYard.keep_passes.Goals as goal

pub returns-clause-contents : goal.returns-clause-contents
returns-clause-contents c = sym (keep_at_untold {A = List ℕ} nothing_kept c.args.store.now.path _)
