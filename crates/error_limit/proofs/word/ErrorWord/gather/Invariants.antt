use Rattle.std.proofs.Common.{◌≡◌, ℕ, ◌+◌, ◌<◌, length, All, sum_by}
use Rattle.error_limit.specs.Sums.{times}
use Rattle.error_limit.specs.Seats.{IsSeatOf, seats_of, notes_of, times_of}
use Rattle.error_limit.proofs.word.ErrorWord.gather.Given as goal

abbrev pub invariant-loop-seat : goal.invariant-loop-seat
invariant-loop-seat l = record {
  of : l.all.table_id ≡ l.self.table.shared.table_id;
  parts : l.all.me.0.parts + length l.seats.items ≡ seats_of l.self;
  some_part : 0 < l.all.me.0.parts;
  notes : length l.all.me.0.answers + sum_by notes_of l.seats.items ≡ sum_by notes_of l.fn.seats.items;
  answers : (n : ℕ) → times n l.all.me.0.answers + sum_by (times_of n) l.seats.items ≡ sum_by (times_of n) l.fn.seats.items;
  left : All (IsSeatOf l.self) l.seats.items;
}

abbrev pub decreases-loop-seat : goal.decreases-loop-seat
decreases-loop-seat l = goal.left-loop-seat l
