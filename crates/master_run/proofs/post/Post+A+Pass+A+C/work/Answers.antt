use Rattle.std.proofs.Common.{◌^◌, ap, length}
use Rattle.claim_table.specs.Seats.{made_in, view_of}
use Rattle.claim_table.specs.Views.{fresh}
use Rattle.error_limit.specs.Seats.{answers_of, notes_of}
use Rattle.workload_gen.specs.Task.{task_of}
use Rattle.workload_gen.specs.Turns.{drawn, turns_of}
use Rattle.slave_worker.specs.Ends.{rules_of}
use Rattle.slave_worker.specs.Standings.{standing}
use Rattle.master_run.specs.Yards.{fresh_arm}
use Rattle.master_run.proofs.Fitting.{drawn_of, standing_as, worked_as}
use Rattle.master_run.proofs.post.Post+A+Pass+A+C.work.Goals as goal

pub returns-clause-did : goal.returns-clause-did
returns-clause-did g c =
    let post = c.args.self.now in
    let task = task_of c.args.run.now post.worker c.args.store.now.geometry in
    let made = made_in g.A.Pass.Pass.seen g.B.Book.seen c.args.table.now in
    let arm = g.A.Arm.seen post.arm in
    let clock = g.C.Clock.seen post.clock in
    record {
      empty = post.tally;
      is_empty = c.requires.ready.tally;
      many = c.work-self.new.draw.turns;
      worked =
          worked_as (rules_of c.args.plan.now c.args.run.now post.worker c.args.start) c.args.store.now c.args.run.now.turns (drawn c.work-self.new.draw) (turns_of task c.work-self.new.draw.turns)
          (standing (view_of post.seat) post.tally arm (notes_of post.error_seat) clock)
          (standing (fresh made (2 ^ 32)) post.tally (fresh_arm arm.sure) 0 clock)
          (standing (view_of c.work-self.new.seat) c.work-self.new.tally (g.A.Arm.seen c.work-self.new.arm) (notes_of c.work-self.new.error_seat) (g.C.Clock.seen c.work-self.new.clock))
          (answers_of c.work-self.new.error_seat) c.work-self.result
          (drawn_of post.draw c.work-self.new.draw task c.requires.ready.draw c.work-self.ensures.task)
          (standing_as (view_of post.seat) (fresh made (2 ^ 32)) post.tally arm (fresh_arm arm.sure) (notes_of post.error_seat) clock c.requires.ready.seat.1 c.requires.ready.arm (ap length c.requires.ready.error_seat.1))
          c.work-self.ensures.worked;
    }
