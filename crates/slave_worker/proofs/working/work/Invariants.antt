use Rattle.std.proofs.Common.{◌≡◌, ◌<◌, [], length}
use Rattle.error_limit.specs.Seats.{IsSeatOf as IsErrorSeatOf, answers_of, notes_of}
use Rattle.claim_table.specs.Seats.{view_of, IsSeatOf}
use Rattle.workload_gen.specs.Turns.{drawn}
use Rattle.slave_worker.specs.Standings.{IsFree, standing}
use Rattle.slave_worker.proofs.Going.{HasTurned, TallyGoesOn}
use Rattle.slave_worker.proofs.working.work.Given as goal

abbrev pub invariant-loop-number : goal.invariant-loop-number
invariant-loop-number g l = record {
  of : IsSeatOf l.table l.seat;
  free : IsFree (view_of l.seat);
  errors : IsErrorSeatOf l.errors l.error_seat;
  empty : l.room.entries.items ≡ [];
  size : length l.buf ≡ length l.initial.buf;
  task : l.draw.task ≡ l.initial.draw.task;
  drawn_so : l.draw.turns ≡ l.number;
  few : l.number < l.run.turns → notes_of l.error_seat < l.rules.limit;
  tally_on : TallyGoesOn l.rules.intervals l.number (notes_of l.error_seat) l.initial.tally.finding_room l.tally;
  turned : HasTurned l.rules l.store l.number l.run.turns (drawn l.draw)
      (standing (view_of l.initial.seat) l.initial.tally (g.A.Arm.seen l.initial.arm) (notes_of l.initial.error_seat) (g.C.Clock.seen l.initial.clock))
      (standing (view_of l.seat) l.tally (g.A.Arm.seen l.arm) (notes_of l.error_seat) (g.C.Clock.seen l.clock))
      (answers_of l.error_seat);
}
