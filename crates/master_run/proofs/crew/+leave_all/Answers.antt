use Rattle.master_run.proofs.Arming.{gave_more, one_out, rest_out}
use Rattle.master_run.proofs.crew.+leave_all.Goals as goal

pub leave_all-requires-clause-out : goal.leave_all-requires-clause-out
leave_all-requires-clause-out g t c κs within =
    rest_out c.args.store.now.path c.args.posts.now.items c.pop.new.self.items c.in-Some.post (g.Y.Yard.seen c.args.yard.now) c.in-Some.ensures.items c.requires.out

pub leave-error_seat-requires-clause-out : goal.leave-error_seat-requires-clause-out
leave-error_seat-requires-clause-out g t c κs within =
    one_out g.Y.Arm.Arm.seen c.args.store.now.path c.args.posts.now.items c.pop.new.self.items c.in-Some.post (g.Y.Yard.seen c.args.yard.now) (g.Y.Yard.seen c.leave_all.new.yard) c.in-Some.ensures.items c.requires.out c.leave_all.ensures.arms

pub returns-clause-arms : goal.returns-clause-arms
returns-clause-arms g t c =
    gave_more g.Y.Arm.Arm.seen c.args.store.now.path c.args.posts.now.items c.pop.new.self.items c.in-Some.post (g.Y.Yard.seen c.args.yard.now) (g.Y.Yard.seen c.leave_all.new.yard) (g.Y.Yard.seen c.leave-error_seat.new.yard) c.in-Some.ensures.items c.leave_all.ensures.arms c.leave-error_seat.ensures.arm
