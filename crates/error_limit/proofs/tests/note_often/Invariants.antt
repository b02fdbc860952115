use Rattle.std.proofs.Common.{◌≡◌}
use Rattle.error_limit.specs.Seats.{IsSeatOf, notes_of}
use Rattle.error_limit.proofs.tests.note_often.Given as goal

abbrev pub invariant-loop-i : goal.invariant-loop-i
invariant-loop-i l = IsSeatOf l.word l.seat × (notes_of l.seat ≡ l.i)
