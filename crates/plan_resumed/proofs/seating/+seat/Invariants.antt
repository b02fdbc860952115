use Rattle.std.proofs.Common.{length}
use Rattle.plan_resumed.proofs.seating.+seat.Given as goal

abbrev pub decreases-seat : goal.decreases-seat
decreases-seat g l = length l.books.now.items
