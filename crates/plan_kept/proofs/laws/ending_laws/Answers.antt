use Rattle.plan_kept.proofs.Anew.{new_is_sure, quiet_is_sure}
use Rattle.plan_kept.proofs.Ends.{new_ends, old_ends, quiet_ends, valid_are_recovered}
use Rattle.plan_kept.proofs.Sure.{old_is_sure}
use Rattle.plan_kept.proofs.laws.ending_laws.Goals as goal

pub returns-clause-quiet : goal.returns-clause-quiet
returns-clause-quiet g c = quiet_ends g.P.Pass.seen g.B.Book.seen

pub returns-clause-anew : goal.returns-clause-anew
returns-clause-anew g c = new_ends g.P.Pass.seen g.B.Book.seen

pub returns-clause-again : goal.returns-clause-again
returns-clause-again g c = old_ends g.P.Pass.seen g.B.Book.seen

pub returns-clause-quiet_sure : goal.returns-clause-quiet_sure
returns-clause-quiet_sure g c =
    let e = c.runs_add_up.ensures in
    quiet_is_sure g.P.Pass.seen g.B.Book.seen (record { stores = e.stores; contents = e.contents; fits = e.fits; clean = e.clean; unwritten = e.unwritten; sure = e.sure })

pub returns-clause-anew_sure : goal.returns-clause-anew_sure
returns-clause-anew_sure g c =
    let e = c.runs_add_up.ensures in
    new_is_sure g.P.Pass.seen g.B.Book.seen (record { stores = e.stores; contents = e.contents; fits = e.fits; clean = e.clean; unwritten = e.unwritten; sure = e.sure })

pub returns-clause-again_sure : goal.returns-clause-again_sure
returns-clause-again_sure g c =
    let e = c.runs_add_up.ensures in
    let v = c.verified_laws.ensures in
    old_is_sure g.P.Pass.seen g.B.Book.seen (record { stores = e.stores; contents = e.contents; fits = e.fits; clean = e.clean; unwritten = e.unwritten; sure = e.sure }) v.readable v.before

pub returns-clause-valid : goal.returns-clause-valid
returns-clause-valid g c = valid_are_recovered g.P.Pass.seen g.B.Book.seen c.gives_once.ensures
