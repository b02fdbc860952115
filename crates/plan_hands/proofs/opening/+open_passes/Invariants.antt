use Rattle.std.proofs.Common.{length}
use Rattle.plan_hands.proofs.opening.+open_passes.Given as goal

abbrev pub decreases-open_passes : goal.decreases-open_passes
decreases-open_passes g l = length l.hands.now
