use Rattle.block_verdict.proofs.Laws.{one_verdict, sound_where_fit, fit_after_settling, fits_where_permitted, stamped_fits}
use Rattle.block_verdict.proofs.judging.verdict_laws.Goals as goal

pub returns-clause-one : goal.returns-clause-one
returns-clause-one c = one_verdict

pub returns-clause-sound : goal.returns-clause-sound
returns-clause-sound c = sound_where_fit

pub returns-clause-settled : goal.returns-clause-settled
returns-clause-settled c = fit_after_settling

pub returns-clause-permitted : goal.returns-clause-permitted
returns-clause-permitted c = fits_where_permitted

pub returns-clause-stamped : goal.returns-clause-stamped
returns-clause-stamped c = stamped_fits
