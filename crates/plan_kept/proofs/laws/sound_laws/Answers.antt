use Rattle.plan_kept.proofs.Again.{old_is_sound}
use Rattle.plan_kept.proofs.Clean.{still_is_sound}
use Rattle.plan_kept.proofs.Anew.{new_is_sound, quiet_is_sound}
use Rattle.plan_kept.proofs.laws.sound_laws.Goals as goal

pub returns-clause-quiet : goal.returns-clause-quiet
returns-clause-quiet g c =
    let e = c.runs_add_up.ensures in
    quiet_is_sound g.P.Pass.seen g.B.Book.seen (record { stores = e.stores; contents = e.contents; fits = e.fits; clean = e.clean; unwritten = e.unwritten; sure = e.sure }) e.unwritten_plans

pub returns-clause-anew : goal.returns-clause-anew
returns-clause-anew g c =
    let e = c.runs_add_up.ensures in
    new_is_sound g.P.Pass.seen g.B.Book.seen (record { stores = e.stores; contents = e.contents; fits = e.fits; clean = e.clean; unwritten = e.unwritten; sure = e.sure })

pub returns-clause-again : goal.returns-clause-again
returns-clause-again g c =
    let e = c.runs_add_up.ensures in
    let v = c.verified_laws.ensures in
    old_is_sound g.P.Pass.seen g.B.Book.seen (record { stores = e.stores; contents = e.contents; fits = e.fits; clean = e.clean; unwritten = e.unwritten; sure = e.sure }) v.readable v.before

pub returns-clause-still : goal.returns-clause-still
returns-clause-still g c = still_is_sound
