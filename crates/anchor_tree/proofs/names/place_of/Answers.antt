-- The answers of `place_of`.
use Rattle.std.proofs.Common.{sym, arith}
use Rattle.anchor_tree.proofs.Placed.{at_level, level_more}
use Rattle.anchor_tree.proofs.names.place_of.Goals as goal

pub overflow_mul-many : goal.overflow_mul-many
overflow_mul-many c =
    let more = level_more c.args.depth c.args.width c.loop-level.level c.loop-level.before c.loop-level.many c.from-many.result c.loop-level-test.true c.requires.few
    c.loop-level.invariant.before c.loop-level.invariant.many c.from-many.ensures in
    omega (arith, more.few)

pub overflow_add-before : goal.overflow_add-before
overflow_add-before c =
    let more = level_more c.args.depth c.args.width c.loop-level.level c.loop-level.before c.loop-level.many c.from-many.result c.loop-level-test.true c.requires.few
    c.loop-level.invariant.before c.loop-level.invariant.many c.from-many.ensures in
    omega (arith, more.few)

pub returns-then-from-before-clause-level : goal.returns-then-from-before-clause-level
returns-then-from-before-clause-level c =
    let more = level_more c.args.depth c.args.width c.loop-level.level c.loop-level.before c.loop-level.many c.from-many.result c.loop-level-test.true c.requires.few
    c.loop-level.invariant.before c.loop-level.invariant.many c.from-many.ensures in
    let at = at_level c.args.depth c.args.width c.args.directory c.loop-level.level c.loop-level-test.true (omega (arith, c.loop-level.invariant.before, c.loop-level.invariant.past))
    (omega (arith, more.all, c.if-from-before.true, c.from.ensures)) in
    sym at.level

pub returns-then-from-before-clause-index : goal.returns-then-from-before-clause-index
returns-then-from-before-clause-index c =
    let more = level_more c.args.depth c.args.width c.loop-level.level c.loop-level.before c.loop-level.many c.from-many.result c.loop-level-test.true c.requires.few
    c.loop-level.invariant.before c.loop-level.invariant.many c.from-many.ensures in
    let at = at_level c.args.depth c.args.width c.args.directory c.loop-level.level c.loop-level-test.true (omega (arith, c.loop-level.invariant.before, c.loop-level.invariant.past))
    (omega (arith, more.all, c.if-from-before.true, c.from.ensures)) in
    omega (arith, at.index, c.from-then-from-before.ensures, c.loop-level.invariant.before)

pub returns-then-from-before-clause-few : goal.returns-then-from-before-clause-few
returns-then-from-before-clause-few c =
    let more = level_more c.args.depth c.args.width c.loop-level.level c.loop-level.before c.loop-level.many c.from-many.result c.loop-level-test.true c.requires.few
    c.loop-level.invariant.before c.loop-level.invariant.many c.from-many.ensures in
    omega (arith, more.few, more.power)

pub loop-level-preserved : goal.loop-level-preserved
loop-level-preserved c =
    let more = level_more c.args.depth c.args.width c.loop-level.level c.loop-level.before c.loop-level.many c.from-many.result c.loop-level-test.true c.requires.few
    c.loop-level.invariant.before c.loop-level.invariant.many c.from-many.ensures in
    record { before = more.all; many = more.power; past = omega (arith, c.if-from-before.false, c.from.ensures) }
