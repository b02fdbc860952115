use Rattle.plan_kept.proofs.Again.{old_data_fits}
use Rattle.plan_kept.proofs.Anew.{new_data_fits}
use Rattle.plan_kept.proofs.laws.kept_laws.Goals as goal

pub returns-clause-anew : goal.returns-clause-anew
returns-clause-anew g c =
    let e = c.runs_add_up.ensures in
    new_data_fits g.P.Pass.seen g.B.Book.seen (record { stores = e.stores; contents = e.contents; fits = e.fits; clean = e.clean; unwritten = e.unwritten; sure = e.sure }) c.journaled_laws.ensures.recovers

pub returns-clause-again : goal.returns-clause-again
returns-clause-again g c =
    let e = c.runs_add_up.ensures in
    let v = c.verified_laws.ensures in
    old_data_fits g.P.Pass.seen g.B.Book.seen (record { stores = e.stores; contents = e.contents; fits = e.fits; clean = e.clean; unwritten = e.unwritten; sure = e.sure }) v.readable v.before c.journaled_laws.ensures.recovers
