use Rattle.error_limit.specs.Seats.{answers_of}
use Rattle.slave_worker.proofs.Taking.{took}
use Rattle.slave_worker.proofs.turning.take_turn.Goals as goal

pub returns-clause-did : goal.returns-clause-did
returns-clause-did g c =
    let acted = c.act-room.ensures.did in
    let note = c.note_errors-seen.ensures in
    let all = took c.args.rules.now c.args.store.now c.args.turn.now _ _ _ _ _ _ (answers_of c.args.error_seat.now) (answers_of c.note_errors-seen.new.error_seat) _ _ _ _ _ _ _ _ acted.0 c.saturating_add.ensures c.rest.ensures.rested
    (acted.1, acted.2, acted.3, acted.4, acted.5, acted.6, acted.7, acted.8, acted.9, acted.10, acted.11)
    note.notes note.last note.bound note.answers c.act-room.ensures.fault c.end_of.ensures in
    (acted.0, all.0, all.1, all.2, all.3, all.4, all.5, all.6, all.7, all.8)
