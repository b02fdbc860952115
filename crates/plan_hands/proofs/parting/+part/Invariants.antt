use Rattle.std.proofs.Common.{length}
use Rattle.plan_hands.proofs.parting.+part.Given as goal

abbrev pub decreases-part : goal.decreases-part
decreases-part g l = length l.hands.now.items
