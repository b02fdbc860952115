use Rattle.std.proofs.Common.{◌≡◌, ◌++◌, length, map, refl, sym, ap, subst, ◌∙◌, Bool, IsTrue}
use Rattle.run_report.specs.Says.{says_along, says_then}
use Rattle.run_report.specs.Findings.{verified_text}
use Rattle.still_store.specs.Verification.{lines_of}
use Rattle.still_store.proofs.Pieces.{front_none, front_all}
use Rattle.still_store.proofs.Ends.{stops_none, stops_with_line}
use Rattle.still_store.proofs.verification.verify_through.Goals as goal

pub returns-in_default-clause-front : goal.returns-in_default-clause-front
returns-in_default-clause-front g c = front_none g.A.Pass.Pass.seen c.args.store.now c.args.entries.now c.args.passes.now _ _

pub returns-in_default-verified_line-clause-front : goal.returns-in_default-verified_line-clause-front
returns-in_default-verified_line-clause-front g c =
    let v = c.in_ok-counted.ensures.looks in
    let many : length (map g.A.Pass.Pass.seen c.args.passes.now) ≡ length c.args.entries.now = c.requires.blocks.as_many ∙ sym c.requires.one_each in
    front_all g.A.Pass.Pass.seen c.args.store.now c.args.entries.now c.args.passes.now v.0 _ _ _ _ many v.1 v.3.rose v.4

pub returns-clause-looks : goal.returns-clause-looks
returns-clause-looks g c =
    let v = c.in_ok-counted.ensures.looks in (
      v.0,
      v.1,
      v.2,
      v.3,
      says_along _ _ _ _ (ap (λ t. lines_of c.args.store.now c.args.entries.now v.0 ++ t) (c.as_str.ensures ∙ (c.in-Ok-verified_line.ensures ∙ ap (verified_text c.args.store.now.name) v.2))) (says_then _ _ _ _ _ v.4 c.say.ensures.says),
      λ collected. v.5 (subst (λ (b : Bool). IsTrue b) (sym c.in-Ok.ensures.collects) collected),
    )

pub returns-in_default-clause-stops : goal.returns-in_default-clause-stops
returns-in_default-clause-stops g c = λ failed. stops_none _ _ _ _ _ _

pub returns-clause-stops : goal.returns-clause-stops
returns-clause-stops g c =
    let v = c.in_ok-counted.ensures.looks in
    let many : length (map g.A.Pass.Pass.seen c.args.passes.now) ≡ length c.args.entries.now = c.requires.blocks.as_many ∙ sym c.requires.one_each in
    λ failed. stops_with_line c.args.store.now c.args.entries.now _ v.0 _ _ _ _ _ _ _ refl many c.verify_blocks.ensures.stops v.1 v.3 v.4 c.say.ensures.says
