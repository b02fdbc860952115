use Rattle.std.proofs.Common.{length}
use Rattle.plan_resumed.proofs.seating.+move_settled.Given as goal

abbrev pub decreases-move_settled : goal.decreases-move_settled
decreases-move_settled g l = length l.verified.now.items
