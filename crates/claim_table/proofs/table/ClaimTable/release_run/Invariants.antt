use Rattle.std.proofs.Common.{◌≡◌, ◌+◌, List, length}
use Rattle.claim_table.specs.Views.{released}
use Rattle.claim_table.specs.Seats.{view_of, IsSeatOf}
use Rattle.claim_table.specs.Runs.{AreNewest, ArePassesFor}
use Rattle.claim_table.specs.declared.view.Item.{Item}
use Rattle.claim_table.proofs.table.ClaimTable.release_run.Given as goal

abbrev pub invariant-loop : goal.invariant-loop
invariant-loop g l = record {
  of : IsSeatOf l.self l.seat;
  many : length l.left.entries.items + l.counter ≡ l.many;
  first : l.left.first ≡ l.initial.left.first;
  view : view_of l.seat ≡ released (view_of l.initial.seat) (view_of l.seat).held;
  newest : (others : List Item) → AreNewest l.initial.left.first.0 l.initial.left.entries.items (view_of l.initial.seat).held others → AreNewest l.left.first.0 l.left.entries.items (view_of l.seat).held others;
  fits : ArePassesFor g.P.Pass.seen (view_of l.seat).made l.left.first.0 l.left.entries.items l.left.passes.items;
}
