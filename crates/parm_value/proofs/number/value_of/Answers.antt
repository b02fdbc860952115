use Rattle.std.proofs.Common.{arith, get_or, ◌∙◌, ◌*◌, ◌+◌, ◌-◌, ap, sym}
use Rattle.std.proofs.lemmas.Str.Parse.{digit_at}
use Rattle.parm_value.proofs.Digits.{value_more, value_below}
use Rattle.parm_value.proofs.number.value_of.Goals as goal

pub overflow_mul-number : goal.overflow_mul-number
overflow_mul-number c = omega (arith, value_below c.args.item.now c.loop-byte.byte-index c.requires.digits c.requires.short, c.loop-byte.invariant)

pub overflow_sub-number : goal.overflow_sub-number
overflow_sub-number c = (digit_at c.args.item.now c.loop-byte.byte-index c.requires.digits c.loop-byte-test.true).0

pub overflow_add-number : goal.overflow_add-number
overflow_add-number c = omega (arith, value_below c.args.item.now c.loop-byte.byte-index c.requires.digits c.requires.short, c.loop-byte.invariant, (digit_at c.args.item.now c.loop-byte.byte-index c.requires.digits c.loop-byte-test.true).1)

pub loop-byte-preserved : goal.loop-byte-preserved
loop-byte-preserved c =
    let more = value_more c.args.item.now c.loop-byte.byte-index c.requires.digits c.loop-byte-test.true in
    ap (λ n. n * 10 + (get_or c.args.item.now c.loop-byte.byte-index 0 - 48)) c.loop-byte.invariant ∙ sym more

pub returns-clause-small : goal.returns-clause-small
returns-clause-small c = omega (arith, value_below c.args.item.now c.loop-byte.byte-index c.requires.digits c.requires.short, c.loop-byte.invariant)
