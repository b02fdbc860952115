use Rattle.std.proofs.Common.{◌≡◌, ◌<◌, length, get_or, rules, false}
use Rattle.std.proofs.lemmas.List.{take_more}
use Rattle.vd_yard.proofs.Openings.{outs_next}
use Rattle.vd_yard.specs.Ledger.{is_such, kind_of}
use Rattle.vd_yard.proofs.ledger.out_index.Goals as goal

pub loop-at-preserved : goal.loop-at-preserved
loop-at-preserved c =
    let o = c.index.result.now in
    let inside : c.loop-at.at < length c.args.openings.now.items = search rules in
    let this : get_or c.args.openings.now.items c.loop-at.at o ≡ o = search rules in
    let other : is_such (kind_of c.args.thing) c.args.path.now o ≡ false = cc in
    rw (take_more c.args.openings.now.items c.loop-at.at o inside, this) (outs_next _ o _ _ c.loop-at.invariant other)
