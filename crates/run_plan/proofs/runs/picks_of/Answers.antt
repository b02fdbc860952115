use Rattle.std.proofs.Common.{[]}
use Rattle.run_plan.specs.Runs.{pick_of}
use Rattle.run_plan.proofs.Steps.{made_more}
use Rattle.run_plan.proofs.runs.picks_of.Goals as goal

pub loop-i-preserved : goal.loop-i-preserved
loop-i-preserved c =
    made_more (pick_of c.args.places.now c.args.weights.now) c.loop-i.i [] c.loop-i.picks.items _ _ c.loop-i.invariant (cc) c.in_ok-push.ensures.items
