use Rattle.std.proofs.Common.{length, map, ap, ◌∙◌, ◌++◌, arith}
use Rattle.std.specs.Prelude.{count_by}
use Rattle.run_report.specs.Says.{says_along}
use Rattle.recover_run.specs.Looks.{settled_from}
use Rattle.recover_run.proofs.Looking.{looks_as_many}
use Rattle.still_store.specs.Findings.{are_corrupt, are_unread}
use Rattle.still_store.specs.Verification.{findings_text}
use Rattle.still_store.proofs.Pieces.{printable, few_findings, found_is, counted_is, corrupt_counted, unread_counted}
use Rattle.still_store.proofs.verification.verify_piece.Goals as goal

pub text_of-requires : goal.text_of-requires
text_of-requires g c =
    let v = c.in_ok-many.ensures.verifies in
    let is = c.deref.ensures.value ∙ found_is _ _ _ _ v.0 _ _ _ _ _ v.1 c.begin_piece.ensures.found in
    printable c.args.store.now c.args.first c.args.entries.now (map g.A.Pass.Pass.seen c.args.passes.now) v.0 _ is c.requires.in_range v.1.looked

pub counted-requires : goal.counted-requires
counted-requires g c =
    let v = c.in_ok-many.ensures.verifies in
    let is = c.deref-2.ensures.value ∙ found_is _ _ _ _ v.0 _ _ _ _ _ v.1 c.begin_piece.ensures.found in
    omega (arith, ap length is, few_findings c.args.first c.args.entries.now v.0)

pub returns-clause-looks : goal.returns-clause-looks
returns-clause-looks g c =
    let v = c.in_ok-many.ensures.verifies in
    let is = c.deref-2.ensures.value ∙ found_is _ _ _ _ v.0 _ _ _ _ _ v.1 c.begin_piece.ensures.found in
    let text = c.deref.ensures.value ∙ found_is _ _ _ _ v.0 _ _ _ _ _ v.1 c.begin_piece.ensures.found in
    let many = looks_as_many c.args.store.now c.args.entries.now (map g.A.Pass.Pass.seen c.args.passes.now) v.0 v.1.looked in (
      v.0,
      v.1.looked,
      counted_is c.args.entries.now v.0 c.counted.result
          (c.counted.ensures.blocks ∙ v.1.counted)
          (c.counted.ensures.corrupt ∙ (ap (count_by are_corrupt) is ∙ corrupt_counted c.args.first c.args.entries.now v.0 many))
          c.counted.ensures.pending
          c.counted.ensures.bad
          (c.counted.ensures.faults ∙ (ap (count_by are_unread) is ∙ unread_counted c.args.first c.args.entries.now v.0 many)),
      v.2,
      says_along _ _ _ _ (c.as_str.ensures ∙ (c.in_ok-text.ensures ∙ ap (findings_text c.args.store.now) text)) c.say.ensures.says,
      v.1.settled ∙ ap (λ x. x ++ settled_from c.args.entries.now v.0) c.begin_piece.ensures.settled,
    )
