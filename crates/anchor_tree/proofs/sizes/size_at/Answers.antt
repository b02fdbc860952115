-- The answers of `size_at`.
use Rattle.std.proofs.Common.{arith}
use Rattle.anchor_tree.proofs.Percents.{size_here}
use Rattle.anchor_tree.proofs.sizes.size_at.Goals as goal

pub returns-then-n-percents-clause-value : goal.returns-then-n-percents-clause-value
returns-then-n-percents-clause-value c =
    size_here c.args.sizes.now c.args.n c.loop-size.size-index c.loop-size.percents (0, 0) c.loop-size-test.true c.loop-size.invariant.0 c.loop-size.invariant.1
    (omega (arith, c.if-n-percents.true, c.from-percents.ensures))
