use Rattle.std.proofs.Common.{◌≡◌, All, List, map, ◌++◌}
use Rattle.claim_table.specs.Closings.{Gathered}
use Rattle.claim_table.specs.Seats.{view_of, IsIdle}
use Rattle.claim_table.specs.declared.table.ClaimSeat.{ClaimSeat}
use Rattle.claim_table.proofs.table.ClaimTable.gather.Given as goal

abbrev pub invariant-loop-other : goal.invariant-loop-other
invariant-loop-other g l = record {
  idle : IsIdle l.self l.all;
  left : All (IsIdle l.self) l.seats.items;
  back : List ClaimSeat;
  split : l.fn.seats.items ≡ l.seats.items ++ back;
  gathered : Gathered (map view_of back) (view_of l.all);
}

abbrev pub decreases-loop-other : goal.decreases-loop-other
decreases-loop-other g l = goal.left-loop-other g l
