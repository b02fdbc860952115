use Rattle.std.proofs.Common.{ap, ◌∙◌}
use Rattle.claim_table.specs.Seats.{view_of}
use Rattle.claim_table.specs.declared.view.View.{View}
use Rattle.claim_table.proofs.RunSteps.{all_made, all_parts, all_loan}
use Rattle.claim_table.proofs.tests.turned_away.Goals as goal

pub returns-clause-of : goal.returns-clause-of
returns-clause-of g c = let a = c.in-Busy.ensures.answer in
    (c.claim_run.ensures.of, ap (λ (u : View). u.held) a.7 ∙ c.requires.of.1, ap (λ (u : View). u.loan) a.7 ∙ (all_loan (view_of c.args.seat.now) a.1 c.args.first a.0 a.2 ∙ c.requires.of.2))

pub returns-clause-parts : goal.returns-clause-parts
returns-clause-parts g c = let a = c.in-Busy.ensures.answer in ap (λ (u : View). u.parts) a.7 ∙ all_parts (view_of c.args.seat.now) a.1 c.args.first a.0 a.2

pub returns-clause-made : goal.returns-clause-made
returns-clause-made g c = let a = c.in-Busy.ensures.answer in ap (λ (u : View). u.made) a.7 ∙ all_made (view_of c.args.seat.now) a.1 c.args.first a.0 a.2
