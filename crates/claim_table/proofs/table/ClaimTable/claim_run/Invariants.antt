use Rattle.std.proofs.Common.{◌≡◌, length}
use Rattle.claim_table.specs.Sums.{Each}
use Rattle.claim_table.specs.Seats.{view_of, IsSeatOf}
use Rattle.claim_table.specs.Runs.{HasClaimed, CanBeHad, ArePassesFor, AreLentAs}
use Rattle.claim_table.proofs.table.ClaimTable.claim_run.Given as goal

abbrev pub invariant-loop-k : goal.invariant-loop-k
invariant-loop-k g l = record {
  of : IsSeatOf l.self l.seat;
  many : length l.run.entries.items ≡ l.k;
  first : l.run.first ≡ l.first;
  view : HasClaimed (view_of l.initial.seat) l.first.0 l.run.entries.items (view_of l.seat);
  had : Each CanBeHad l.run.entries.items;
  lent : AreLentAs (view_of l.initial.seat) l.first.0 l.run.entries.items;
  fits : ArePassesFor g.P.Pass.seen (view_of l.initial.seat).made l.first.0 l.run.entries.items l.run.passes.items;
}
