use Rattle.std.proofs.Common.{◌≡◌}
use Rattle.std.specs.Vec.{vec_capacity}
use Rattle.claim_table.specs.Openings.{passes_in}
use Rattle.claim_table.proofs.opening.passes_of.Given as goal

abbrev pub invariant-loop-slot : goal.invariant-loop-slot
invariant-loop-slot g l = (l.room.items ≡ passes_in l.yielded) × (vec_capacity l.room ≡ vec_capacity l.initial.room)
