use Rattle.std.proofs.Common.{ap, ◌∙◌}
use Rattle.claim_table.specs.Seats.{view_of}
use Rattle.claim_table.specs.declared.view.View.{View}
use Rattle.claim_table.proofs.RunSteps.{all_made, all_parts, all_loan}
use Rattle.claim_table.proofs.tests.bad_in_run.Goals as goal

pub returns-clause-of : goal.returns-clause-of
returns-clause-of g c = let a = c.in-BadBlock.ensures.answer in
    (c.claim_run.ensures.of, ap (λ (u : View). u.held) a.8 ∙ c.requires.of.1, ap (λ (u : View). u.loan) a.8 ∙ (all_loan (view_of c.args.seat.now) a.1 c.args.first a.0 a.3 ∙ c.requires.of.2))

pub returns-clause-parts : goal.returns-clause-parts
returns-clause-parts g c = let a = c.in-BadBlock.ensures.answer in ap (λ (u : View). u.parts) a.8 ∙ all_parts (view_of c.args.seat.now) a.1 c.args.first a.0 a.3

pub returns-clause-made : goal.returns-clause-made
returns-clause-made g c = let a = c.in-BadBlock.ensures.answer in ap (λ (u : View). u.made) a.8 ∙ all_made (view_of c.args.seat.now) a.1 c.args.first a.0 a.3
