use Rattle.std.proofs.Common.{arith, refl, ap, sym, subst, ◌∙◌, ◌≡◌, ℕ, ◌+◌, ◌<◌, List, [], ◌∷◌, length, length-append}
use Rattle.key_state.specs.declared.entry.Entry.{Entry}
use Rattle.key_state.specs.declared.entry.Entry.TheVariants.{Bad}
use Rattle.claim_table.specs.Sums.{Each}
use Rattle.claim_table.specs.Views.{claimed, released}
use Rattle.claim_table.specs.Seats.{view_of, IsFreeIn}
use Rattle.claim_table.specs.Runs.{HasClaimed, CanBeHad, ArePassesFor, AreLentAs}
use Rattle.claim_table.specs.declared.view.Item.{Item}
use Rattle.claim_table.specs.declared.view.View.{View}
use Rattle.claim_table.proofs.RunSteps.{each_more, claimed_more, all_few, all_above, passes_more, still_newest, still_fits, few_parts, pass_of, lent_more, still_lent}
use Rattle.claim_table.proofs.table.ClaimTable.claim_run.Goals as goal

none_above : (n : ℕ) (held : List Item) → held ≡ [] → Each (λ i. i.block < n) held
none_above n held none = subst (Each (λ (i : Item). i.block < n)) (sym none) tt

pub claim-requires-clause-above : goal.claim-requires-clause-above
claim-requires-clause-above g c κs within =
    let i = c.loop-k.invariant in
    let v : View = view_of c.args.seat.now in
    let u : View = view_of c.loop-k.seat in
    let at : c.args.first.0 + length c.loop-k.run.entries.items ≡ c.args.first.0 + c.loop-k.k = omega (arith, i.many) in
    subst (λ (n : ℕ). Each (λ j. j.block < n) u.held) at (all_above v u c.args.first.0 c.loop-k.run.entries.items i.view (none_above c.args.first.0 v.held c.requires.none))

pub claim-requires-clause-few : goal.claim-requires-clause-few
claim-requires-clause-few g c κs within =
    let i = c.loop-k.invariant in
    let v : View = view_of c.args.seat.now in
    omega (arith, i.many, all_few v (view_of c.loop-k.seat) c.args.first.0 c.loop-k.run.entries.items i.view, ap length c.requires.none, c.requires.many.1, c.loop-k-test.true)

pub release_run-room-requires-clause-newest : goal.release_run-room-requires-clause-newest
release_run-room-requires-clause-newest g c κs within =
    let i = c.loop-k.invariant in
    let v : View = view_of c.args.seat.now in
    let a = c.in-Busy.ensures.answer in
    (v.held, still_newest v (view_of c.loop-k.seat) (view_of c.claim.new.seat) c.args.first.0 c.loop-k.run.first.0 c.loop-k.run.entries.items (ap (λ x. x.0) i.first) i.view (ap (λ (u : View). u.held) a.1))

pub release_run-room-requires-clause-fits : goal.release_run-room-requires-clause-fits
release_run-room-requires-clause-fits g c κs within =
    let i = c.loop-k.invariant in
    let v : View = view_of c.args.seat.now in
    let a = c.in-Busy.ensures.answer in
    still_fits g.P.Pass.seen v (view_of c.loop-k.seat) (view_of c.claim.new.seat) c.args.first.0 c.loop-k.run.first.0 c.loop-k.run.entries.items c.loop-k.run.passes.items (ap (λ x. x.0) i.first) i.view (ap (λ (u : View). u.made) a.1) i.fits

pub returns-in-Busy-clause-answer : goal.returns-in-Busy-clause-answer
returns-in-Busy-clause-answer g c =
    let i = c.loop-k.invariant in
    let v : View = view_of c.args.seat.now in
    let u : View = view_of c.loop-k.seat in
    let es : List Entry = c.loop-k.run.entries.items in
    let a = c.in-Busy.ensures.answer in
    let gone = c.release_run-room.ensures.gone v.held (still_newest v u (view_of c.claim.new.seat) c.args.first.0 c.loop-k.run.first.0 es (ap (λ x. x.0) i.first) i.view (ap (λ (w : View). w.held) a.1)) in
    (es, u, i.view, i.had, omega (arith, i.many, c.loop-k-test.true), omega (arith, i.many), a.0, gone ∙ ap (λ (w : View). released w v.held) a.1, few_parts v u c.args.first.0 es i.view a.2, i.lent, c.release_run-room.ensures.empty)

pub release_run-room-requires-in-BadBlock-clause-newest : goal.release_run-room-requires-in-BadBlock-clause-newest
release_run-room-requires-in-BadBlock-clause-newest g c κs within =
    let i = c.loop-k.invariant in
    let v : View = view_of c.args.seat.now in
    let a = c.in-BadBlock.ensures.answer in
    (v.held, still_newest v (view_of c.loop-k.seat) (view_of c.claim.new.seat) c.args.first.0 c.loop-k.run.first.0 c.loop-k.run.entries.items (ap (λ x. x.0) i.first) i.view (ap (λ (u : View). u.held) a.2))

pub release_run-room-requires-in-BadBlock-clause-fits : goal.release_run-room-requires-in-BadBlock-clause-fits
release_run-room-requires-in-BadBlock-clause-fits g c κs within =
    let i = c.loop-k.invariant in
    let v : View = view_of c.args.seat.now in
    let a = c.in-BadBlock.ensures.answer in
    still_fits g.P.Pass.seen v (view_of c.loop-k.seat) (view_of c.claim.new.seat) c.args.first.0 c.loop-k.run.first.0 c.loop-k.run.entries.items c.loop-k.run.passes.items (ap (λ x. x.0) i.first) i.view (ap (λ (u : View). u.made) a.2) i.fits

pub returns-in-BadBlock-clause-answer : goal.returns-in-BadBlock-clause-answer
returns-in-BadBlock-clause-answer g c =
    let i = c.loop-k.invariant in
    let v : View = view_of c.args.seat.now in
    let u : View = view_of c.loop-k.seat in
    let es : List Entry = c.loop-k.run.entries.items in
    let a = c.in-BadBlock.ensures.answer in
    let gone = c.release_run-room-in-BadBlock.ensures.gone v.held (still_newest v u (view_of c.claim.new.seat) c.args.first.0 c.loop-k.run.first.0 es (ap (λ x. x.0) i.first) i.view (ap (λ (w : View). w.held) a.2)) in
    (es, u, a.0, i.view, i.had, omega (arith, i.many, c.loop-k-test.true), omega (arith, i.many), a.1, gone ∙ ap (λ (w : View). released w v.held) a.2, still_lent v u c.args.first.0 (c.args.first.0 + c.loop-k.k) (c.args.first.0 + c.loop-k.k) es Bad i.view refl a.3, i.lent, c.release_run-room-in-BadBlock.ensures.empty)

pub loop-k-preserved : goal.loop-k-preserved
loop-k-preserved g c =
    let i = c.loop-k.invariant in
    let v : View = view_of c.args.seat.now in
    let u : View = view_of c.loop-k.seat in
    let es : List Entry = c.loop-k.run.entries.items in
    let entry : Entry = c.in-Claimed.held.entry in
    let a = c.in-Claimed.ensures.answer in
    let at : c.args.first.0 + c.loop-k.k ≡ c.args.first.0 + length es = omega (arith, i.many) in
    let fits = pass_of g.P.Pass.seen v u c.args.first.0 (c.args.first.0 + c.loop-k.k) (c.args.first.0 + length es) es entry c.in-Claimed.held.pass i.view at a.6 in
    let more = claimed_more v u c.args.first.0 a.0 es entry i.view (subst (λ (n : ℕ). IsFreeIn a.0 n entry) at a.1) in
    let now : claimed u (c.args.first.0 + length es) a.0 entry ≡ view_of c.claim.new.seat = sym (a.3 ∙ ap (λ (n : ℕ). claimed u n a.0 entry) at) in
    record {
      of = c.claim.ensures.of;
      many = omega (arith, i.many, ap length c.with-run.ensures.entries, length-append es (entry ∷ []));
      first = c.with-run.ensures.first ∙ i.first;
      view = subst (λ (z : List Entry × View). HasClaimed v c.args.first.0 z.0 z.1) (λ q. (sym c.with-run.ensures.entries q, now q)) more;
      lent = subst (AreLentAs v c.args.first.0) (sym c.with-run.ensures.entries) (lent_more v c.args.first.0 es entry i.lent (still_lent v u c.args.first.0 (c.args.first.0 + c.loop-k.k) (c.args.first.0 + length es) es entry i.view at a.7));
      had = subst (Each CanBeHad) (sym c.with-run.ensures.entries) (each_more CanBeHad es entry i.had (a.5, a.2));
      fits = subst (λ (z : List Entry × List g.row.P.Denot). ArePassesFor g.P.Pass.seen v.made c.args.first.0 z.0 z.1) (λ q. (sym c.with-run.ensures.entries q, sym c.with-run.ensures.passes q)) (passes_more g.P.Pass.seen v.made c.args.first.0 es c.loop-k.run.passes.items entry c.in-Claimed.held.pass i.fits fits);
    }
