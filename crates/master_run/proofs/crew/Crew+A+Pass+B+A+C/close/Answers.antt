use Rattle.std.proofs.Common.{refl}
use Rattle.master_run.proofs.Giving.{closed, rest_idle, rest_whole}
use Rattle.master_run.proofs.crew.Crew+A+Pass+B+A+C.close.Goals as goal

pub close-passes-requires-clause-idle : goal.close-passes-requires-clause-idle
close-passes-requires-clause-idle g c κs within = rest_idle g.A.Pass.Pass.seen g.B.Book.seen c.args.self c.leave_all.new.seats.items c.requires.can c.leave_all.ensures.seats

pub close-passes-requires-clause-all : goal.close-passes-requires-clause-all
close-passes-requires-clause-all g c κs within = rest_whole g.A.Pass.Pass.seen g.B.Book.seen c.args.self c.leave_all.new.seats.items c.requires.can c.leave_all.ensures.seats

pub returns-clause-closed : goal.returns-clause-closed
returns-clause-closed g c =
    closed g.A.Pass.Pass.seen g.B.Book.seen c.args.self (record { store = c.args.self.place; passes = c.close-passes.result.0; book = c.close-passes.result.1 }) c.leave_all.new.seats.items c.requires.can c.leave_all.ensures.seats refl c.close-passes.ensures.returned
