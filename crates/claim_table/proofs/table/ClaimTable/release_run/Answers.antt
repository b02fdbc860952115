use Rattle.std.proofs.Common.{arith, ap, sym, subst, ◌∙◌, ◌≡◌, ℕ, List, [], ◌∷◌, length, length-append}
use Rattle.claim_table.specs.Views.{released}
use Rattle.claim_table.specs.Seats.{view_of}
use Rattle.claim_table.specs.Runs.{AreNewest, ArePassesFor}
use Rattle.claim_table.specs.declared.view.Item.{Item}
use Rattle.claim_table.specs.declared.view.View.{View}
use Rattle.claim_table.specs.declared.view.Made.{Made}
use Rattle.claim_table.proofs.RunSteps.{last_item, last_pass, none_left}
use Rattle.claim_table.proofs.table.ClaimTable.release_run.Goals as goal

pub release-requires-clause-newest : goal.release-requires-clause-newest
release-requires-clause-newest g c κs within =
    let i = c.loop.invariant in
    let s = c.split_last-rest.ensures in
    let t = last_item c.loop.left.first.0 c.loop.left.entries.items c.split_last-rest.result.0.entries.items c.split_last-rest.result.1.entry (view_of c.loop.seat).held c.requires.newest.0 c.split_last-rest.result.1.block.0 s.entries s.block (i.newest c.requires.newest.0 c.requires.newest.1) in
    (t.0, t.1, t.2, t.3, t.4)

pub release-requires-clause-fits : goal.release-requires-clause-fits
release-requires-clause-fits g c κs within =
    let s = c.split_last-rest.ensures in
    (last_pass g.P.Pass.seen (view_of c.loop.seat).made c.loop.left.first.0 c.loop.left.entries.items c.split_last-rest.result.0.entries.items c.split_last-rest.result.1.entry c.split_last-rest.result.1.block.0 c.loop.left.passes.items c.split_last-rest.result.0.passes.items c.split_last-rest.result.1.pass s.entries s.block s.passes (sym s.even) c.loop.invariant.fits).0

pub loop-preserved : goal.loop-preserved
loop-preserved g c =
    let i = c.loop.invariant in
    let s = c.split_last-rest.ensures in
    let u = last_pass g.P.Pass.seen (view_of c.loop.seat).made c.loop.left.first.0 c.loop.left.entries.items c.split_last-rest.result.0.entries.items c.split_last-rest.result.1.entry c.split_last-rest.result.1.block.0 c.loop.left.passes.items c.split_last-rest.result.0.passes.items c.split_last-rest.result.1.pass s.entries s.block s.passes (sym s.even) i.fits in
    let t = last_item c.loop.left.first.0 c.loop.left.entries.items c.split_last-rest.result.0.entries.items c.split_last-rest.result.1.entry (view_of c.loop.seat).held c.requires.newest.0 c.split_last-rest.result.1.block.0 s.entries s.block (i.newest c.requires.newest.0 c.requires.newest.1) in
    let gone = c.release.ensures.gone t.0 t.1 t.2 in
    let first : c.loop.left.first.0 ≡ c.split_last-rest.result.0.first.0 = ap (λ x. x.0) (sym s.first) in
    record {
      of = c.release.ensures.of;
      many = omega (arith, i.many, ap length s.entries, length-append c.split_last-rest.result.0.entries.items (c.split_last-rest.result.1.entry ∷ []));
      first = s.first ∙ i.first;
      view = gone ∙ (ap (λ (v : View). released v t.1) i.view ∙ ap (λ (h : List Item). released (view_of c.args.seat.now) h) (sym (ap (λ (v : View). v.held) gone)));
      newest = λ others h.
          let o = last_item c.loop.left.first.0 c.loop.left.entries.items c.split_last-rest.result.0.entries.items c.split_last-rest.result.1.entry (view_of c.loop.seat).held others c.split_last-rest.result.1.block.0 s.entries s.block (i.newest others h) in
          let held : o.1 ≡ (view_of c.release.new.seat).held = sym (ap (λ (v : View). v.held) (c.release.ensures.gone o.0 o.1 o.2)) in
          subst (λ (z : ℕ × List Item). AreNewest z.0 c.split_last-rest.result.0.entries.items z.1 others) (λ q. (first q, held q)) o.5;
      fits = subst (λ (z : ℕ × Made). ArePassesFor g.P.Pass.seen z.1 z.0 c.split_last-rest.result.0.entries.items c.split_last-rest.result.0.passes.items) (λ q. (first q, sym (ap (λ (v : View). v.made) gone) q)) u.1;
    }

pub returns-clause-gone : goal.returns-clause-gone
returns-clause-gone g c = λ others h.
    let i = c.loop.invariant in
    i.view ∙ ap (λ (held : List Item). released (view_of c.args.seat.now) held) (none_left c.loop.left.first.0 c.loop.left.entries.items (view_of c.loop.seat).held others (omega (arith, i.many)) (i.newest others h))
