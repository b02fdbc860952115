use Rattle.std.proofs.Common.{rules, arith, ap, sym, subst, ◌∙◌, ◌≡◌, ◌≤◌}
use Rattle.claim_table.specs.Firsts.{first_of}
use Rattle.claim_table.specs.declared.view.View.{View}
use Rattle.claim_table.proofs.SeatSteps.{splits}
use Rattle.claim_table.proofs.table.ClaimTable.split.Goals as goal

pub split_seat-other-requires : goal.split_seat-other-requires
split_seat-other-requires g c =
    let v : View = c.into_seat-place.result.me.0 in
    let same : first_of c.args.seat.now.badge.views ≡ v = ap (λ b. first_of b.views) (sym c.replace.ensures.value) ∙ ap first_of c.into_seat-place.ensures.2 in
    let parts = subst (λ (u : View). 2 ≤ u.parts) same c.requires.parts in
    (search rules, omega (arith, c.args.self.now.words), splits _ _ _ _ v _ (ap (λ (u : View). u.spent) (sym same) ∙ c.requires.of.1) (omega arith) (omega arith))
