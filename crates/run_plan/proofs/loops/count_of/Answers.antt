use Rattle.std.proofs.Common.{◌^◌, ◌-◌, length, ap, arith}
use Rattle.run_plan.proofs.Counts.{counted}
use Rattle.run_plan.proofs.loops.count_of.Goals as goal

pub loop-word-preserved : goal.loop-word-preserved
loop-word-preserved c =
    counted c.args.d.now c.args.d.now.loops c.loop-word.word-index c.word-item.result c.loop-word.count (length c.values_of.result.now) _ (2 ^ 64 - 1)
    (omega (arith, c.loop-word-test.true, ap length c.as_slice-word-items.ensures)) (cc) (ap length c.values_of.ensures.value)
    (c.saturating_mul-count.ensures) c.loop-word.invariant
