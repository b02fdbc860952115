use Rattle.plan_kept.proofs.Counts.{new_journals_count, old_journals_count}
use Rattle.plan_kept.proofs.laws.count_laws.Goals as goal

pub returns-clause-anew : goal.returns-clause-anew
returns-clause-anew g c = new_journals_count g.P.Pass.seen g.B.Book.seen c.runs_add_up.ensures.writes c.journaled_laws.ensures.recovers

pub returns-clause-again : goal.returns-clause-again
returns-clause-again g c = old_journals_count g.P.Pass.seen g.B.Book.seen c.runs_add_up.ensures.writes c.journaled_laws.ensures.recovers
