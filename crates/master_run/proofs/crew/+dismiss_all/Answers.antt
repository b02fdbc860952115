use Rattle.master_run.proofs.Arming.{gave_more, one_out, rest_out}
use Rattle.master_run.proofs.crew.+dismiss_all.Goals as goal

pub dismiss_all-requires-clause-out : goal.dismiss_all-requires-clause-out
dismiss_all-requires-clause-out g t c κs within =
    rest_out c.args.store.now.path c.args.posts.now.items c.pop.new.self.items c.in-Some.post (g.Y.Yard.seen c.args.yard.now) c.in-Some.ensures.items c.requires.out

pub leave-left-requires-clause-out : goal.leave-left-requires-clause-out
leave-left-requires-clause-out g t c κs within =
    one_out g.Y.Arm.Arm.seen c.args.store.now.path c.args.posts.now.items c.pop.new.self.items c.in-Some.post (g.Y.Yard.seen c.args.yard.now) (g.Y.Yard.seen c.dismiss_all.new.yard) c.in-Some.ensures.items c.requires.out c.dismiss_all.ensures.arms

pub returns-clause-arms : goal.returns-clause-arms
returns-clause-arms g t c =
    gave_more g.Y.Arm.Arm.seen c.args.store.now.path c.args.posts.now.items c.pop.new.self.items c.in-Some.post (g.Y.Yard.seen c.args.yard.now) (g.Y.Yard.seen c.dismiss_all.new.yard) (g.Y.Yard.seen c.leave-left.new.yard) c.in-Some.ensures.items c.dismiss_all.ensures.arms c.leave-left.ensures.arm
