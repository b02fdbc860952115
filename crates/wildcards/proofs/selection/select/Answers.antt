use Rattle.std.proofs.Common.{ap, ◌∙◌}
use Rattle.wildcards.specs.Selection.{fits_some}
use Rattle.wildcards.proofs.Places.{passed, picked, place_kept}
use Rattle.wildcards.proofs.selection.select.Goals as goal
use Rattle.wildcards.proofs.selection.select.Goals.{then-fits_some+in_ok-push, else-fits_some}

pub loop-i-preserved : goal.loop-i-preserved
loop-i-preserved c =
    place_kept c.args.patterns.now c.args.names.now c.loop-i.i c.loop-i.places.items _ c.index-names-i.result c.fits_some.result
    c.loop-i.invariant c.index-names-i.is c.loop-i-test.true (c.fits_some.ensures ∙ ap (fits_some c.args.patterns.now) c.as_bytes.ensures)
    (elim c.if-fits_some.branch [
      | then-fits_some+in_ok-push w ↦ picked _ _ _ _ w.if-fits_some.true (ap (λ v. v.items) w.places-is ∙ w.in_ok-push.ensures.items)
      | else-fits_some w ↦ passed _ _ _ _ w.if-fits_some.false (ap (λ v. v.items) w.places-is)
    ])
