use Rattle.std.proofs.Common.{arith, ap, ◌^◌, ◌<◌}
use Rattle.claim_table.specs.declared.view.View.{View}
use Rattle.claim_table.proofs.SeatSteps.{splits}
use Rattle.claim_table.proofs.table.ClaimTable.deal.Goals as goal

pub split_seat-seat-requires : goal.split_seat-seat-requires
split_seat-seat-requires g c =
    let i = c.loop.invariant in
    let v : View = c.loop.all.me.0 in
    let parts = ap (λ (u : View). u.parts) i.left in
    let some-left : 2 ^ 32 < v.parts = omega (arith, parts, c.loop-test.true) in
    (i.of, omega (arith, c.args.self.now.words), splits _ _ _ _ v _ (ap (λ (u : View). u.spent) i.left) (omega arith) some-left)
