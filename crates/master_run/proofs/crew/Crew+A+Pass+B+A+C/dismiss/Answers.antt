use Rattle.std.proofs.Common.{refl}
use Rattle.master_run.proofs.Giving.{new_idle, new_whole, undone}
use Rattle.master_run.proofs.crew.Crew+A+Pass+B+A+C.dismiss.Goals as goal

pub close-passes-requires-clause-idle : goal.close-passes-requires-clause-idle
close-passes-requires-clause-idle g c κs within = new_idle g.A.Pass.Pass.seen g.B.Book.seen c.args.self c.dismiss_all.new.seats.items c.requires.can c.dismiss_all.ensures.seats

pub close-passes-requires-clause-all : goal.close-passes-requires-clause-all
close-passes-requires-clause-all g c κs within = new_whole g.A.Pass.Pass.seen g.B.Book.seen c.args.self c.dismiss_all.new.seats.items c.requires.can c.dismiss_all.ensures.seats

pub returns-clause-undone : goal.returns-clause-undone
returns-clause-undone g c =
    undone g.A.Pass.Pass.seen g.B.Book.seen c.args.self (record { store = c.args.self.place; passes = c.close-passes.result.0; book = c.close-passes.result.1 }) c.dismiss_all.new.seats.items c.untouched_all.ensures.passes c.untouched_all.ensures.book c.untouched_all.ensures.new c.requires.can c.dismiss_all.ensures.seats refl c.close-passes.ensures.returned
