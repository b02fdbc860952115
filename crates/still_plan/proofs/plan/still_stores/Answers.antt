use Rattle.still_plan.proofs.Stills.{fit_by, still_ends, still_stops, device_by}
use Rattle.still_plan.proofs.plan.still_stores.Goals as goal

pub verify_stores-requires-clause-fit : goal.verify_stores-requires-clause-fit
verify_stores-requires-clause-fit g c κs within =
    let j = c.in-Ok.ensures.recovers in
    fit_by _ _ _ j.0 _ _ c.as_slice.ensures.value j.1 c.new-found.ensures.items j.2

pub returns-in-Ok-clause-said : goal.returns-in-Ok-clause-said
returns-in-Ok-clause-said g c =
    still_ends _ _ _ _ _ _ _ _ _ _ _ c.as_slice.ensures.value c.new-found.ensures.items c.recover_stores.ensures.keeps c.recover_stores.ensures.contents c.recover_stores.ensures.counts c.in-Ok.ensures.recovers c.verify_stores.ensures.said

pub returns-in-Ok-clause-refused : goal.returns-in-Ok-clause-refused
returns-in-Ok-clause-refused g c n store is p = absurd (c.in-Ok.ensures.refused n store is p)

pub returns-in-Ok-clause-device_fault : goal.returns-in-Ok-clause-device_fault
returns-in-Ok-clause-device_fault g c e = device_by (g.Y.Yard.seen c.args.yard.now) _ _ _ _ _ _ _ c.recover_stores.ensures.counts c.verify_stores.ensures.said e

pub returns-clause-said : goal.returns-clause-said
returns-clause-said g c = still_stops _ _ _ _ _ _ c.recover_stores.ensures.contents c.recover_stores.ensures.counts c.in-Err.ensures.stops

pub returns-clause-disk_quiet : goal.returns-clause-disk_quiet
returns-clause-disk_quiet g c j m path = c.in-Err.ensures.disk_quiet (λ e. j (cc e)) (λ e. m (cc e)) path
