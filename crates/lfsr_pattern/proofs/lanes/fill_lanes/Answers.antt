use Rattle.std.proofs.Common.{arith}
use Rattle.lfsr_pattern.proofs.Fronts.{front_at_start, pattern_at_end}
use Rattle.lfsr_pattern.proofs.LaneSteps.{lane_step}
use Rattle.lfsr_pattern.proofs.lanes.fill_lanes.Goals as goal

pub stepped_lanes-states-requires : goal.stepped_lanes-states-requires
stepped_lanes-states-requires c = record { long = c.loop-j.invariant.long; fits = λ k le. (c.loop-j.invariant.lanes k le).fits }

pub loop-j-init : goal.loop-j-init
loop-j-init c = record { long = c.told-seeds; lanes = λ k le. record { long = c.sized.ensures k le; fits = c.fits-seeds k; front = front_at_start _ (c.fits-seeds k) } }

pub loop-j-preserved : goal.loop-j-preserved
loop-j-preserved c = record {
  long = c.stepped_lanes-states.ensures.long;
  lanes = λ k le. lane_step _ c.loop-j.j _ _ _ _ (omega arith) (c.stepped_lanes-states.ensures.each k le) (c.put_bytes.ensures k le) (c.loop-j.invariant.lanes k le);
}

pub returns : goal.returns
returns c lane le =
    let at = c.loop-j.invariant.lanes lane le in
    pattern_at_end _ _ c.loop-j.j _ (omega arith) at.long at.front
