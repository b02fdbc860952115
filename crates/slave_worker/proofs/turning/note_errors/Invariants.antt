use Rattle.std.proofs.Common.{◌≡◌, ◌+◌, ◌<◌, ◌≤◌}
use Rattle.error_limit.specs.Seats.{IsSeatOf as IsErrorSeatOf, answers_of, last_of, notes_of}
use Rattle.slave_worker.specs.Works.{Noted}
use Rattle.slave_worker.proofs.turning.note_errors.Given as goal

abbrev pub invariant-loop : goal.invariant-loop
invariant-loop l = record {
  of : IsErrorSeatOf l.errors l.error_seat;
  notes : notes_of l.error_seat ≡ notes_of l.fn.error_seat + l.counter;
  last : 0 < l.counter → l.last ≡ last_of l.error_seat;
  bound : 0 < l.counter → notes_of l.error_seat ≤ last_of l.error_seat;
  answers : Noted l.counter (answers_of l.fn.error_seat) (answers_of l.error_seat);
}
