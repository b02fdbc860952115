use Rattle.std.proofs.Common.{subst, refl, ◌∙◌, List}
use Rattle.vd_arm.specs.FileArm.{file_pass_seen}
use Rattle.claim_table.specs.Seats.{view_of}
use Rattle.claim_table.specs.Runs.{AreNewest}
use Rattle.claim_table.specs.declared.view.Item.{Item}
use Rattle.claim_table.proofs.RunSteps.{all_made, all_parts, all_loan, still_newest, still_fits}
use Rattle.claim_table.proofs.tests.had.Goals as goal

pub returns-clause-of : goal.returns-clause-of
returns-clause-of g c = let a = c.in-Claimed.ensures.answer in
    (c.claim_run.ensures.of, all_loan (view_of c.args.seat.now) (view_of c.claim_run.new.seat) c.args.first c.in-Claimed.run'.entries.items a.3 ∙ c.requires.of.2)

pub returns-clause-newest : goal.returns-clause-newest
returns-clause-newest g c = let a = c.in-Claimed.ensures.answer in let run = c.in-Claimed.run' in
    subst (λ (xs : List Item). AreNewest run.first.0 run.entries.items (view_of c.claim_run.new.seat).held xs) c.requires.of.1 (still_newest (view_of c.args.seat.now) (view_of c.claim_run.new.seat) (view_of c.claim_run.new.seat) c.args.first run.first.0 run.entries.items a.0 a.3 refl)

pub returns-clause-fits : goal.returns-clause-fits
returns-clause-fits g c = let a = c.in-Claimed.ensures.answer in let run = c.in-Claimed.run' in
    still_fits file_pass_seen (view_of c.args.seat.now) (view_of c.claim_run.new.seat) (view_of c.claim_run.new.seat) c.args.first run.first.0 run.entries.items run.passes.items a.0 a.3 refl a.4

pub returns-clause-parts : goal.returns-clause-parts
returns-clause-parts g c = let a = c.in-Claimed.ensures.answer in all_parts (view_of c.args.seat.now) (view_of c.claim_run.new.seat) c.args.first c.in-Claimed.run'.entries.items a.3

pub returns-clause-made : goal.returns-clause-made
returns-clause-made g c = let a = c.in-Claimed.ensures.answer in all_made (view_of c.args.seat.now) (view_of c.claim_run.new.seat) c.args.first c.in-Claimed.run'.entries.items a.3
