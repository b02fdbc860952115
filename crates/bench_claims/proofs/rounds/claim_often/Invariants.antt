use Rattle.std.proofs.Common.{◌≡◌}
use Rattle.claim_table.specs.Seats.{view_of, IsIdle}
use Rattle.bench_claims.proofs.rounds.claim_often.Given as goal

abbrev pub invariant-loop-i : goal.invariant-loop-i
invariant-loop-i l = IsIdle l.table l.seat × ((view_of l.seat).made ≡ (view_of l.initial.seat).made)
