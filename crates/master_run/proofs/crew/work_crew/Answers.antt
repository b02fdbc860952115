use Rattle.std.proofs.Common.{rules, ◌≡◌, ◌∙◌, ◌<◌, refl, sym, ap, subst, arith, List, Some, length, get_or, slice_get, slice_index_or}
use Rattle.std.specs.Vec.{with_items}
use Rattle.std.proofs.lemmas.List.{with_items_is}
use Rattle.std.proofs.lemmas.Option.{same_Some, slice_get_read, slice_get_within}
use denote.Param.Send.{sendable}
use Rattle.plan_types.specs.declared.store.StorePlan.{StorePlan}
use Rattle.master_run.specs.Starts.{CanStart, HasDone}
use Rattle.master_run.specs.declared.post.Post.{Post}
use Rattle.master_run.proofs.Working.{ended, place_within, starts}
use Rattle.master_run.proofs.crew.work_crew.Goals as goal

pub for_each_mut-requires-clause-accepts : goal.for_each_mut-requires-clause-accepts
for_each_mut-requires-clause-accepts g c κs within =
    let crew = c.args.crew.now in
    let stores = c.args.plan.now.stores in
    let store = c.index-as_slice-place.result in
    let least : crew.place < length stores = place_within g.A.Pass.Pass.seen g.B.Book.seen g.A.Arm.seen c.args.plan.now c.args.run.now c.args.errors.now crew c.requires.can in
    let at : slice_get stores crew.place ≡ Some store = slice_get_read stores (length stores) crew.place store refl least (search rules) in
    let all = starts g.A.Pass.Pass.seen g.B.Book.seen g.A.Arm.seen c.args.plan.now c.args.run.now c.args.errors.now crew store c.requires.run at c.requires.can in
    let posts = c.as_mut_slice.ensures.value in
    λ i p below is. (
      subst (λ (s : StorePlan). CanStart g.A.Pass.Pass.seen g.B.Book.seen g.A.Arm.seen c.args.plan.now c.args.run.now s.id c.args.errors.now crew.table p.now) c.index-as_slice-place.is
          (subst (λ (post : Post _ _ _). CanStart g.A.Pass.Pass.seen g.B.Book.seen g.A.Arm.seen c.args.plan.now c.args.run.now store.id c.args.errors.now crew.table post) (sym (is ∙ ap (λ (l : List (Post _ _ _)). slice_index_or l i p.now) posts))
          (all i p.now (omega (arith, below, ap length posts)))),
      search sendable depth 20,
    )

pub returns : goal.returns
returns g c = record {
  works = λ clock clocks tells store hand at manned.
      let plan = c.args.plan.now in
      let run = c.args.run.now in
      let word = c.args.errors.now in
      let crew = c.args.crew.now in
      let found = c.index-as_slice-place.result in
      let here : slice_get plan.stores crew.place ≡ Some store = ap (slice_get plan.stores) manned.is_crew.place ∙ at in
      let least : crew.place < length plan.stores = slice_get_within plan.stores crew.place store here in
      let read : slice_get plan.stores crew.place ≡ Some found = slice_get_read plan.stores (length plan.stores) crew.place found refl least (search rules) in
      let same : found ≡ store = same_Some found store (sym read ∙ here) in
      let posts = c.for_each_mut.new.s in
      let value = c.as_mut_slice.ensures.value in
      let many : length posts ≡ length crew.posts.items = c.for_each_mut.auto.s ∙ ap length value in
      let is : (with_items crew.posts posts).items ≡ posts = with_items_is crew.posts posts (many ∙ sym crew.posts.ok.0) in
      let Done = (λ (s : StorePlan) (before after : Post _ _ _). HasDone g.A.Pass.Pass.seen g.B.Book.seen g.A.Arm.seen plan run s.id word crew.table g.C.Clock.seen c.args.start before after) in
      ended g.A.Pass.Pass.seen g.B.Book.seen g.A.Arm.seen plan run word g.C.Clock.seen c.args.start clock crew _ tells store hand refl refl refl (ap length is ∙ many)
      (λ k d below.
      let call = (c.for_each_mut.ensures k d (omega (arith, below, ap length value))).1 in
      subst (λ (l : List (Post _ _ _)). Done store (get_or crew.posts.items k d) (get_or l k d)) (sym is)
      (subst (λ (post : Post _ _ _). Done store (get_or crew.posts.items k d) post) call.left
      (subst (λ (post : Post _ _ _). Done store post call.after_call.now) (call.argument_is ∙ ap (λ (l : List (Post _ _ _)). slice_index_or l k d) value)
      (subst (λ (s : StorePlan). Done s call.argument.now call.after_call.now) (sym c.index-as_slice-place.is ∙ same) call.call))))
      clocks manned;
}
