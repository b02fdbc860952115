use Rattle.std.proofs.Common.{rules, arith, ap, sym, ◌∙◌, ◌≡◌}
use Rattle.claim_table.specs.Firsts.{first_of}
use Rattle.claim_table.specs.declared.view.View.{View}
use Rattle.claim_table.proofs.SeatSteps.{joins}
use Rattle.claim_table.proofs.table.ClaimTable.join.Goals as goal

pub join_seat-requires : goal.join_seat-requires
join_seat-requires g c =
    let v : View = c.into_seat-place.result.me.0 in
    let u : View = c.into_seat-theirs.result.me.0 in
    let same : first_of c.args.into.now.badge.views ≡ v = ap (λ b. first_of b.views) (sym c.replace.ensures.value) ∙ ap first_of c.into_seat-place.ensures.2 in
    let theirs : first_of c.args.other.badge.views ≡ u = ap first_of c.into_seat-theirs.ensures.2 in
    (search rules, search rules, search rules, omega (arith, c.args.self.now.words), joins _ _ _ _ v _ u (ap (λ (u : View). u.spent) (sym same) ∙ c.requires.into.1) (ap (λ (u : View). u.held) (sym theirs) ∙ c.requires.other.1) (ap (λ (u : View). u.loan) (sym theirs) ∙ c.requires.other.2))
