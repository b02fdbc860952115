use Rattle.std.proofs.Common.{arith, length, ◌≡◌}
use Rattle.parm_forms.proofs.Pairs.{odd_sizes, one_size, pairs_are_sizes}
use Rattle.parm_forms.proofs.sizes.sizes.Goals as goal

pub returns-in-len1 : goal.returns-in-len1
returns-in-len1 c =
    let single : length c.args.items.now ≡ 1 = omega (arith, c.in-len1) in
    rw (one_size c.args.bytes.now c.args.items.now single) c.one_number.ensures

pub returns-in_default : goal.returns-in_default
returns-in_default c = rw (pairs_are_sizes c.args.bytes.now c.args.items.now c.in_default.len_at_least c.if-items-eq0.true) c.size_pairs.ensures

pub returns-in_default-2 : goal.returns-in_default-2
returns-in_default-2 c = odd_sizes c.args.bytes.now c.args.items.now c.in_default.len_at_least c.if-items-eq0.false
