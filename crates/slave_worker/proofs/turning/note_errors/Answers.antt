use Rattle.std.proofs.Common.{sym, arith}
use Rattle.error_limit.specs.Seats.{answers_of}
use Rattle.slave_worker.proofs.Notings.{noted_more}
use Rattle.slave_worker.proofs.turning.note_errors.Goals as goal

pub loop-preserved : goal.loop-preserved
loop-preserved c =
    let i = c.loop.invariant in
    let note = c.note-last.ensures in
    record {
      of = note.of;
      notes = omega (arith, note.noted, i.notes);
      last = λ some. sym note.last;
      bound = λ some. omega (arith, note.own, note.last);
      answers = noted_more c.loop.counter c.note-last.result (answers_of c.args.error_seat.now) (answers_of c.loop.error_seat) _ i.answers note.answers note.later;
    }
