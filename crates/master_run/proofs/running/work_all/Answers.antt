use Rattle.std.proofs.Common.{◌≡◌, ◌∙◌, sym, ap, subst, arith, List, get_or, length, slice_index_or}
use Rattle.std.specs.List.{AllZip}
use Rattle.std.specs.Vec.{with_items}
use Rattle.std.proofs.lemmas.List.{with_items_is}
use denote.Param.Send.{sendable}
use Rattle.master_run.specs.Posts.{CanWork, Works}
use Rattle.master_run.specs.declared.crew.Crew.{Crew}
use Rattle.master_run.proofs.Working.{HasWorked, WasSet, all_can, all_work, zip_of}
use Rattle.master_run.proofs.running.work_all.Goals as goal

pub for_each_mut-requires-clause-accepts : goal.for_each_mut-requires-clause-accepts
for_each_mut-requires-clause-accepts g c κs within =
    let plan = c.args.plan.now in
    let run = c.args.run.now in
    let word = c.args.errors.now in
    let vec = c.args.crews.now in
    let clock = g.C.Clock.seen c.args.clock.now in
    let crews = c.set_all_clocks.new.crews in
    let value = c.as_mut_slice.ensures.value in
    let many : length crews ≡ vec.len = c.set_all_clocks.auto.crews ∙ ap length value ∙ sym vec.ok.0 in
    let are : (with_items vec crews).items ≡ crews = with_items_is vec crews many in
    let now = c.as_mut_slice-2.ensures.value ∙ are in
    let was_set = subst (λ (l : List (Crew _ _ _ _)). AllZip (WasSet g.A.Pass.Pass.seen g.B.Book.seen g.A.Arm.seen plan run word g.C.Clock.seen c.args.start clock) l crews) value c.set_all_clocks.ensures in
    let can = all_can g.A.Pass.Pass.seen g.B.Book.seen g.A.Arm.seen plan run word g.C.Clock.seen c.args.start clock vec.items crews c.requires.can was_set in
    λ i p below is. (
      (c.requires.run, subst (CanWork g.A.Pass.Pass.seen g.B.Book.seen g.A.Arm.seen plan run word) (sym (is ∙ ap (λ (l : List (Crew _ _ _ _)). slice_index_or l i p.now) now)) (can i p.now (omega (arith, below, ap length now)))),
      search sendable depth 20,
    )

pub returns : goal.returns
returns g c =
    let plan = c.args.plan.now in
    let run = c.args.run.now in
    let word = c.args.errors.now in
    let vec = c.args.crews.now in
    let clock = g.C.Clock.seen c.args.clock.now in
    let crews = c.set_all_clocks.new.crews in
    let worked = c.for_each_mut.new.s in
    let value = c.as_mut_slice.ensures.value in
    let many : length crews ≡ vec.len = c.set_all_clocks.auto.crews ∙ ap length value ∙ sym vec.ok.0 in
    let are : (with_items vec crews).items ≡ crews = with_items_is vec crews many in
    let now = c.as_mut_slice-2.ensures.value ∙ are in
    let same : length worked ≡ length crews = c.for_each_mut.auto.s ∙ ap length now in
    let is : (with_items (with_items vec crews) worked).items ≡ worked = with_items_is (with_items vec crews) worked (same ∙ many) in
    let was_set = subst (λ (l : List (Crew _ _ _ _)). AllZip (WasSet g.A.Pass.Pass.seen g.B.Book.seen g.A.Arm.seen plan run word g.C.Clock.seen c.args.start clock) l crews) value c.set_all_clocks.ensures in
    let Has = HasWorked g.A.Pass.Pass.seen g.B.Book.seen g.A.Arm.seen plan run word g.C.Clock.seen c.args.start clock in
    let have = zip_of Has crews worked same (λ k d below.
    let call = (c.for_each_mut.ensures k d (omega (arith, below, ap length now))).1 in
    subst (λ (crew : Crew _ _ _ _). Has (get_or crews k d) crew) call.left
    (subst (λ (crew : Crew _ _ _ _). Has crew call.after_call.now) (call.argument_is ∙ ap (λ (l : List (Crew _ _ _ _)). slice_index_or l k d) now) call.call)) in
    record {
      works =
          subst (λ (l : List (Crew _ _ _ _)). AllZip (Works g.A.Pass.Pass.seen g.B.Book.seen g.A.Arm.seen plan run word g.C.Clock.seen c.args.start clock) vec.items l) (sym is)
          (all_work g.A.Pass.Pass.seen g.B.Book.seen g.A.Arm.seen plan run word g.C.Clock.seen c.args.start clock vec.items crews worked was_set have);
    }
