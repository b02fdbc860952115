use Rattle.std.proofs.Common.{length}
use Rattle.plan_hands.proofs.opening.+leave.Given as goal

abbrev pub decreases-leave : goal.decreases-leave
decreases-leave g l = length l.hands.now.items
