use Rattle.std.proofs.Common.{◌≡◌, ◌∙◌, ap, arith, refl, subst, sym, All, Err, List, length}
use Rattle.plan_types.specs.declared.run.WorkerPlan.{WorkerPlan}
use Rattle.vd_yard.specs.Out.{AtArm}
use Rattle.slave_worker.specs.Ends.{IsWorkOf}
use Rattle.slave_worker.specs.Hands.{workers_at, workers_in}
use Rattle.master_run.proofs.Crewing.{crew_can, crew_gave, crew_manned, crew_over, few_workers_of, works_of}
use Rattle.master_run.proofs.Opening.{cause_before}
use Rattle.master_run.proofs.crew.crew_of.Goals as goal

pub new-requires-clause-seats : goal.new-requires-clause-seats
new-requires-clause-seats g c κs within =
    let many : c.workers_of-many.result ≡ length (workers_in c.args.run.now c.args.hand.store) = c.workers_of-many.ensures ∙ ap (λ (l : List WorkerPlan). length (workers_at c.args.hand.store l)) c.as_slice-workers.ensures in
    let few = few_workers_of c.args.plan.now c.args.run.now c.args.hand.store c.requires.run in
    (omega (arith, many, c.requires.some), omega (arith, many, few))

pub man-manned-requires-clause-of : goal.man-manned-requires-clause-of
man-manned-requires-clause-of g c κs within =
    subst (λ (l : List WorkerPlan). All (λ (worker : WorkerPlan). worker.store ≡ c.args.hand.store → IsWorkOf c.args.plan.now c.args.run.now worker c.args.store.now.id) l) (sym c.as_slice-workers.ensures)
    (works_of c.args.plan.now c.args.run.now c.args.hand.store c.args.store.now c.requires.run c.requires.store)

pub dismiss-requires-clause-can : goal.dismiss-requires-clause-can
dismiss-requires-clause-can g c κs within =
    let many : c.workers_of-many.result ≡ length (workers_in c.args.run.now c.args.hand.store) = c.workers_of-many.ensures ∙ ap (λ (l : List WorkerPlan). length (workers_at c.args.hand.store l)) c.as_slice-workers.ensures in
    crew_can g.Y.Arm.Pass.Pass.seen g.B.Book.seen g.Y.Arm.Arm.seen c.args.run.now c.args.store.now c.args.hand ((g.Y.Yard.seen c.args.yard.now).tells.sure AtArm c.args.store.now.path) c.workers_of-many.result
    (record { place = c.args.hand.store; table = c.in-Ok-new.made.0; posts = c.in-Ok.posts; spare = c.in-Ok-new.made.1 }) c.man-manned.new.self c.in-Err-manned.ensures.more.0
    refl c.in-Ok.ensures.items c.in-Ok-new.ensures.made c.in-Ok-new.ensures.seats.0 (omega (arith, c.in-Ok-new.made.1.ok.0, c.in-Ok-new.made.1.ok.1)) c.in-Err-manned.ensures.more.1
    (omega (arith, many, c.requires.some))

pub returns-in-Ok-manned-clause-manned : goal.returns-in-Ok-manned-clause-manned
returns-in-Ok-manned-clause-manned g c = λ word new.
    let many : c.workers_of-many.result ≡ length (workers_in c.args.run.now c.args.hand.store) = c.workers_of-many.ensures ∙ ap (λ (l : List WorkerPlan). length (workers_at c.args.hand.store l)) c.as_slice-workers.ensures in
    let is = c.in-Ok-manned.ensures.more.5 word new in (
      crew_manned g.Y.Arm.Pass.Pass.seen g.B.Book.seen g.Y.Arm.Arm.seen c.args.run.now c.args.store.now c.args.hand ((g.Y.Yard.seen c.args.yard.now).tells.sure AtArm c.args.store.now.path) c.workers_of-many.result
          (record { place = c.args.hand.store; table = c.in-Ok-new.made.0; posts = c.in-Ok.posts; spare = c.in-Ok-new.made.1 }) c.man-manned.new.self c.in-Ok-manned.ensures.more.0
          refl c.in-Ok.ensures.items c.in-Ok-new.ensures.made c.in-Ok-new.ensures.seats.0 (omega (arith, c.in-Ok-new.made.1.ok.0, c.in-Ok-new.made.1.ok.1)) c.in-Ok-manned.ensures.more.1
          c.args.plan.now word (g.Y.Yard.seen c.args.yard.now).tells refl c.requires.hand many (omega (arith, many, c.requires.some))
          (c.in-Ok-manned.ensures.more.2 ∙ ap (workers_at c.args.hand.store) c.as_slice-workers.ensures) is.0,
      is.1,
    )

pub returns-in-Err-manned-clause-manned : goal.returns-in-Err-manned-clause-manned
returns-in-Err-manned-clause-manned g c = λ word new. (tt, (c.in-Err-manned.ensures.more.5 word new).1)

pub returns-in-Err-manned-clause-back : goal.returns-in-Err-manned-clause-back
returns-in-Err-manned-clause-back g c =
    c.dismiss.ensures.undone c.args.store.now c.args.hand
    (crew_over g.Y.Arm.Pass.Pass.seen g.B.Book.seen g.Y.Arm.Arm.seen c.args.run.now c.args.store.now c.args.hand ((g.Y.Yard.seen c.args.yard.now).tells.sure AtArm c.args.store.now.path) c.workers_of-many.result
    (record { place = c.args.hand.store; table = c.in-Ok-new.made.0; posts = c.in-Ok.posts; spare = c.in-Ok-new.made.1 }) c.man-manned.new.self c.in-Err-manned.ensures.more.0
    refl c.in-Ok.ensures.items c.in-Ok-new.ensures.made c.in-Ok-new.ensures.seats.0 (omega (arith, c.in-Ok-new.made.1.ok.0, c.in-Ok-new.made.1.ok.1)) c.in-Err-manned.ensures.more.1
    c.requires.hand)

pub returns-in-Err-manned-clause-gave : goal.returns-in-Err-manned-clause-gave
returns-in-Err-manned-clause-gave g c =
    crew_gave g.Y.Arm.Pass.Pass.seen g.B.Book.seen g.Y.Arm.Arm.seen c.args.run.now c.args.store.now c.args.hand ((g.Y.Yard.seen c.args.yard.now).tells.sure AtArm c.args.store.now.path) c.workers_of-many.result
    (record { place = c.args.hand.store; table = c.in-Ok-new.made.0; posts = c.in-Ok.posts; spare = c.in-Ok-new.made.1 }) c.man-manned.new.self c.in-Err-manned.ensures.more.0
    refl c.in-Ok.ensures.items c.in-Ok-new.ensures.made c.in-Ok-new.ensures.seats.0 (omega (arith, c.in-Ok-new.made.1.ok.0, c.in-Ok-new.made.1.ok.1)) c.in-Err-manned.ensures.more.1
    (g.Y.Yard.seen c.args.yard.now) (g.Y.Yard.seen c.man-manned.new.yard) (g.Y.Yard.seen c.dismiss.new.yard) c.in-Err-manned.ensures.more.4 c.dismiss.ensures.arms

pub returns-in-Err-manned-clause-cause : goal.returns-in-Err-manned-clause-cause
returns-in-Err-manned-clause-cause g c =
    cause_before (g.Y.Yard.seen c.args.yard.now) (g.Y.Yard.seen c.man-manned.new.yard) (g.Y.Yard.seen c.dismiss.new.yard) (Err c.in-Err-manned.fault) c.in-Err-manned.ensures.cause c.dismiss.ensures.arms.faults
