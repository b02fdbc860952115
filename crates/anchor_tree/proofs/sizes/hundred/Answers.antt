-- The answers of `hundred`.
use Rattle.std.proofs.Common.{arith}
use Rattle.anchor_tree.proofs.Percents.{hundred_is, hundred_more, some_push}
use Rattle.anchor_tree.proofs.sizes.hundred.Goals as goal

pub loop-place-preserved : goal.loop-place-preserved
loop-place-preserved c = record {
  value = hundred_more c.args.sizes.now c.loop-place.hundred.items _ c.loop-place.place c.size_at.result c.loop-place.invariant.value c.size_at.ensures.value c.in_ok-push.ensures.items;
  some = some_push c.loop-place.hundred.items _ c.size_at.result c.loop-place.invariant.some c.size_at.ensures.some c.in_ok-push.ensures.items;
}

pub returns-clause-value : goal.returns-clause-value
returns-clause-value c = hundred_is c.args.sizes.now c.loop-place.hundred.items c.loop-place.place c.loop-place.invariant.value (omega (arith, c.loop-place.auto.place-end, c.loop-place-test.false))
