-- The answers of `chosen`.
use Rattle.workload_gen.proofs.Chosen.{chosen_here}
use Rattle.workload_gen.proofs.turn.chosen.Goals as goal

pub returns-then-n-weight-clause-value : goal.returns-then-n-weight-clause-value
returns-then-n-weight-clause-value c =
    chosen_here c.args.shares.now c.args.n c.loop-share.share-index c.loop-share.weight c.from-weight.result
    c.loop-share-test.true c.loop-share.invariant.0 c.loop-share.invariant.1 c.from-weight.ensures c.if-n-weight.true
