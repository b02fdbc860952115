use Rattle.std.proofs.Common.{arith}
use Rattle.master_run.specs.Posts.{AllClocks, StaysManned}
use Rattle.master_run.specs.declared.crew.Crew.{Crew}
use Rattle.master_run.proofs.Working.{set_more, zip_of}
use Rattle.master_run.proofs.running.set_all_clocks.Goals as goal

pub loop-crew-preserved : goal.loop-crew-preserved
loop-crew-preserved g c =
    let clock = g.C.Clock.seen c.args.clock.now in
    let i = c.loop-crew.invariant in
    set_more (λ (before after : Crew _ _ _ _). AllClocks g.C.Clock.seen clock after × StaysManned g.A.Pass.Pass.seen g.B.Book.seen g.A.Arm.seen before after) c.args.crews.now c.loop-crew.crews c.loop-crew.crew-index c.crew-item.result c.set_clocks.new.self
    (omega (arith, c.loop-crew-test.true)) (c.set_clocks.ensures.clocks, c.set_clocks.ensures.manned) i.0 i.1

pub returns : goal.returns
returns g c =
    let clock = g.C.Clock.seen c.args.clock.now in
    zip_of (λ (before after : Crew _ _ _ _). AllClocks g.C.Clock.seen clock after × StaysManned g.A.Pass.Pass.seen g.B.Book.seen g.A.Arm.seen before after) c.args.crews.now c.loop-crew.crews c.loop-crew.auto.crews
    (λ k d below. c.loop-crew.invariant.0 k d (omega (arith, below, c.loop-crew-test.false, c.loop-crew.auto.crews)))
