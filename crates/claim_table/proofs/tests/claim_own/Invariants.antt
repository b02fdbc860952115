use Rattle.std.proofs.Common.{◌≡◌, ◌^◌}
use Rattle.claim_table.specs.Seats.{view_of, IsIdle}
use Rattle.claim_table.proofs.tests.claim_own.Given as goal

abbrev pub invariant-loop-i : goal.invariant-loop-i
invariant-loop-i g l = IsIdle l.table l.seat × ((view_of l.seat).parts ≡ 2 ^ 32) × ((view_of l.seat).made ≡ (view_of l.initial.seat).made)
