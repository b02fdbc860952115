use Rattle.std.proofs.Common.{◌≡◌, ◌+◌, ◌≤◌, [], length, All}
use Rattle.std.specs.Vec.{vec_capacity}
use Rattle.error_limit.specs.Seats.{IsNew}
use Rattle.error_limit.proofs.word.ErrorWord.deal.Given as goal

abbrev pub invariant-loop : goal.invariant-loop
invariant-loop l = record {
  of : l.all.table_id ≡ l.self.table.shared.table_id;
  rests : l.all.me.1 ≡ [];
  left : l.all.me.0.parts + l.counter ≡ l.many + 1;
  none_noted : l.all.me.0.answers ≡ [];
  made : l.all.me.0.made ≡ l.self.table.shared.key;
  dealt : length l.seats.items + 1 ≡ l.counter;
  room : l.many ≤ vec_capacity l.seats;
  each : All (IsNew l.self) l.seats.items;
}
