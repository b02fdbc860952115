use Rattle.std.proofs.Common.{◌≡◌, ◌∙◌, ap, arith, refl, subst, sym, All, List, length, map}
use Rattle.std.proofs.lemmas.List.{take_all}
use Rattle.master_run.specs.declared.post.Post.{Post}
use Rattle.master_run.proofs.Clocking.{bare, bare_length, bare_more, stays_manned, written_back, written_more}
use Rattle.master_run.proofs.crew.Crew+A+Pass+B+A+C.set_clocks.Goals as goal

pub loop-post-preserved : goal.loop-post-preserved
loop-post-preserved g c = record {
  clocks = written_more (λ (post : Post g.row.A-Pass.Denot g.row.A.Denot g.row.C.Denot). g.C.Clock.seen post.clock ≡ g.C.Clock.seen c.args.clock.now) c.loop-post.post-items c.loop-post.post-index _ (omega arith) c.loop-post.invariant.clocks c.twin.ensures.twin;
  same = bare_more c.loop-post.post-items c.loop-post.post-index _ c.post-item.result refl ∙ c.loop-post.invariant.same;
}

pub returns-clause-clocks : goal.returns-clause-clocks
returns-clause-clocks g c =
    let posts = c.args.self.now.posts in
    let items = c.loop-post.post-items in
    let many : length items ≡ length posts.items = bare_length posts.items items c.loop-post.invariant.same in
    let seen = λ (l : List (Post g.row.A-Pass.Denot g.row.A.Denot g.row.C.Denot)). All (λ (post : Post g.row.A-Pass.Denot g.row.A.Denot g.row.C.Denot). g.C.Clock.seen post.clock ≡ g.C.Clock.seen c.args.clock.now) l in
    subst seen (sym (written_back posts.items items posts.len posts.ok.0 many))
    (subst seen (take_all c.loop-post.post-index items (omega arith)) c.loop-post.invariant.clocks)

pub returns-clause-manned : goal.returns-clause-manned
returns-clause-manned g c =
    let posts = c.args.self.now.posts in
    let items = c.loop-post.post-items in
    let many : length items ≡ length posts.items = bare_length posts.items items c.loop-post.invariant.same in
    stays_manned g.A.Pass.Pass.seen g.B.Book.seen g.A.Arm.seen c.args.self.now _ refl refl refl refl
    (ap (map bare) (written_back posts.items items posts.len posts.ok.0 many) ∙ c.loop-post.invariant.same)
