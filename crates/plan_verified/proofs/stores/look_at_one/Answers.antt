use Rattle.std.proofs.Common.{ap, refl, inl, inr}
use Rattle.still_plan.proofs.Frames.{counts_same}
use Rattle.still_plan.proofs.Sayings.{says_or, stop_early, stop_no_data_after}
use Rattle.still_plan.proofs.Verifications.{quiet_of}
use Rattle.plan_verified.proofs.Leaving.{leaves_one}
use Rattle.plan_verified.proofs.stores.look_at_one.Goals as goal

pub returns-in-Ok-clause-leaves : goal.returns-in-Ok-clause-leaves
returns-in-Ok-clause-leaves g c =
    let v = c.in-Ok.ensures.looks in
    leaves_one c.verdict_laws.ensures.settled _ _ _ _ _ _ v.0 _ _ _ _ _ c.as_slice.ensures.value c.requires.fit v.1 v.2 v.3 c.status_of.ensures

pub returns-in-Ok-clause-arms_quiet : goal.returns-in-Ok-clause-arms_quiet
returns-in-Ok-clause-arms_quiet g c n q =
    let v = c.in-Ok.ensures.looks in
    quiet_of _ _ _ _ v.0 _ _ v.1.counts v.1.rose c.status_of.ensures n q

pub returns-in-Err-Output-clause-stops : goal.returns-in-Err-Output-clause-stops
returns-in-Err-Output-clause-stops g c = stop_early _ _ _ _ _ _ _ _ c.as_slice.ensures.value c.in-Err-Output.ensures.front (inr refl)

pub returns-in-Err-NoMemory-clause-stops : goal.returns-in-Err-NoMemory-clause-stops
returns-in-Err-NoMemory-clause-stops g c = stop_early _ _ _ _ _ _ _ _ c.as_slice.ensures.value c.in-Err-NoMemory.ensures.front (inl refl)

pub returns-in-Err-Yard-clause-stops : goal.returns-in-Err-Yard-clause-stops
returns-in-Err-Yard-clause-stops g c =
    let u = c.in-Err-Yard.ensures.unopened (cc c.in-Err-Yard.field-0-is) in
    stop_no_data_after _ _ _ _ _ _ _ _ _ _ _ _ (ap (λ p. p.failed) u.1) (ap g.S.Sink.taken u.2) (ap g.S.Sink.faults u.2) (says_or _ _ _ _ _ _ c.cannot_open_line.ensures c.say_line.ensures) u.0 (λ w h. c.in-Err-Yard.ensures.willing w h (cc c.in-Err-Yard.field-0-is))
    (counts_same _ _ _ u.3)
