use Rattle.std.proofs.Common.{◌≡◌, All, map, take}
use Rattle.master_run.proofs.Clocking.{bare}
use Rattle.master_run.proofs.crew.Crew+A+Pass+B+A+C.set_clocks.Given as goal

-- Those so far have a twin; but for their clocks all are as they were.
abbrev pub invariant-loop-post : goal.invariant-loop-post
invariant-loop-post g l = record {
  clocks : All (λ post. g.C.Clock.seen post.clock ≡ g.C.Clock.seen l.clock) (take l.post-index l.post-items);
  same : map bare l.post-items ≡ map bare l.fn.self.posts.items;
}
