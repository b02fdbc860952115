use Rattle.block_verdict.proofs.Laws.{sound_where_fit, fit_after_settling}
use Rattle.block_verdict.proofs.judging.verdict.Goals as goal

pub returns-clause-sound : goal.returns-clause-sound
returns-clause-sound c = sound_where_fit c.args.store.now c.args.block.0 c.args.entry c.args.bytes.now c.judged.result c.judged.ensures

pub returns-clause-settled : goal.returns-clause-settled
returns-clause-settled c = fit_after_settling c.args.store.now c.args.block.0 c.args.entry c.args.bytes.now c.judged.result c.judged.ensures
