use Rattle.std.proofs.Common.{◌≡◌, ◌≤◌, ◌-◌, ◌++◌, length, replicate}
use Rattle.std.specs.Vec.{vec_capacity}
use Rattle.worker_tally.specs.Rows.{empty_row}
use Rattle.worker_tally.proofs.row.grow.Given as goal

abbrev pub invariant-loop : goal.invariant-loop
invariant-loop l = record {
  items : l.rows.items ≡ l.initial.rows.items ++ replicate (l.counter - length l.initial.rows.items) empty_row;
  counted : length l.rows.items ≡ l.counter;
  begun : length l.initial.rows.items ≤ l.counter;
  within : l.counter - length l.initial.rows.items ≤ l.many - length l.initial.rows.items;
  room : l.many ≤ vec_capacity l.rows;
  capacity : vec_capacity l.rows ≡ vec_capacity l.initial.rows;
}
