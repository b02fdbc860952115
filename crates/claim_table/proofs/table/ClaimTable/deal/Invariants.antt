use Rattle.std.proofs.Common.{◌≡◌, ◌+◌, ◌*◌, ◌-◌, ◌^◌, ◌≤◌, [], length, All}
use Rattle.std.specs.Vec.{vec_capacity}
use Rattle.claim_table.specs.Views.{fresh}
use Rattle.claim_table.specs.Seats.{IsNew, made_in}
use Rattle.claim_table.proofs.table.ClaimTable.deal.Given as goal

abbrev pub invariant-loop : goal.invariant-loop
invariant-loop g l = record {
  of : l.all.table_id ≡ l.self.table.shared.table_id;
  rests : l.all.me.1 ≡ [];
  left : l.all.me.0 ≡ fresh (made_in g.P.Pass.seen g.B.Book.seen l.self) ((l.many + 1 - l.counter) * 2 ^ 32);
  dealt : length l.seats.items + 1 ≡ l.counter;
  room : l.many ≤ vec_capacity l.seats;
  each : All (IsNew g.P.Pass.seen g.B.Book.seen l.self) l.seats.items;
}
