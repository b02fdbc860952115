use Rattle.plan_hands.proofs.parting.+join.Given as goal

abbrev pub decreases-join : goal.decreases-join
decreases-join g l = l.places
