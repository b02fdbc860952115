use Rattle.std.proofs.Common.{◌≡◌, ◌∙◌, ◌-◌, arith, [], drop, get_or, length, take}
use Rattle.std.proofs.lemmas.List.Elements.{All-drop, All-nil, All-take}
use Rattle.plan_types.specs.declared.run.WorkerPlan.{WorkerPlan}
use Rattle.vd_yard.specs.Out.{AtArm}
use Rattle.slave_worker.specs.Ends.{IsWorkOf}
use Rattle.master_run.proofs.Adding.{added_own, first_and_others, none_of_none}
use Rattle.master_run.proofs.Manning.{more_none}
use Rattle.master_run.proofs.Opening.{took_none}
use Rattle.master_run.proofs.crew.Crew+A+Pass+B+A+C.+man.Goals as goal

pub returns-in_default-clause-more : goal.returns-in_default-clause-more
returns-in_default-clause-more g t c =
    let old = g.Y.Yard.seen c.args.yard.now in (
      [],
      more_none g.A.Pass.Pass.seen g.B.Book.seen g.A.Arm.seen (old.tells.sure AtArm c.args.store.now.path) c.args.self.now c.requires.spare.1,
      none_of_none c.args.self.now.place c.args.workers.now c.in_default.len_below,
      omega arith,
      took_none old,
      λ word new. (All-nil _, new),
    )

pub man-requires-clause-of : goal.man-requires-clause-of
man-requires-clause-of g t c κs within =
    let workers = c.args.workers.now in
    let is = λ (worker : WorkerPlan). worker.store ≡ c.args.self.now.place → IsWorkOf c.args.plan.now c.args.run.now worker c.args.store.now.id in
    All-take is (length workers - 1) (drop 1 workers) (All-drop is 1 workers c.requires.of)

pub man-requires-2-clause-of : goal.man-requires-2-clause-of
man-requires-2-clause-of g t c κs within =
    let workers = c.args.workers.now in
    let is = λ (worker : WorkerPlan). worker.store ≡ c.args.self.now.place → IsWorkOf c.args.plan.now c.args.run.now worker c.args.store.now.id in
    λ k d below own. All-take is (length workers - 1) (drop 1 workers) (All-drop is 1 workers c.requires.of) k d below (own ∙ c.post-posted.ensures.more.1.place)

pub returns-clause-more : goal.returns-clause-more
returns-clause-more g t c =
    let workers = c.args.workers.now in
    let none : WorkerPlan = record { number = 0; slave = 0; store = 0; start = 0 } in
    added_own g.A.Pass.Pass.seen g.B.Book.seen g.A.Arm.seen c.args.plan.now c.args.run.now c.args.store.now c.man-2.result
    workers (take (length workers - 1) (drop 1 workers)) (get_or workers 0 none)
    c.args.self.now c.post-posted.new.self c.man-2.new.self
    c.args.error_seats.now.items c.post-posted.new.error_seats.items c.man-2.new.error_seats.items
    (g.Y.Yard.seen c.args.yard.now) (g.Y.Yard.seen c.post-posted.new.yard) (g.Y.Yard.seen c.man-2.new.yard)
    (first_and_others workers none c.in-len1-up.len_at_least) c.if-worker-self.false c.in_default-posted.ensures.more c.man-2.ensures.more
