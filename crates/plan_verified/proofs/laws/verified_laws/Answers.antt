use Rattle.plan_verified.proofs.Leaving.{verify_as_still}
use Rattle.plan_verified.proofs.Settling.{fit_all_read, fit_before}
use Rattle.plan_verified.proofs.laws.verified_laws.Goals as goal

pub returns-clause-still : goal.returns-clause-still
returns-clause-still c = verify_as_still

pub returns-clause-readable : goal.returns-clause-readable
returns-clause-readable c = fit_all_read

pub returns-clause-before : goal.returns-clause-before
returns-clause-before c = fit_before
