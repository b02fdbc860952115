use Rattle.std.proofs.Common.{◌≡◌, Some, slice_get, ap, length, refl, sym}
use Rattle.std.proofs.lemmas.Bool.{ltb-false, ltb-true}
use Rattle.std.proofs.lemmas.Option.{slice_get_past, slice_get_read}
use Rattle.run_plan.specs.Workers.{workers_at}
use Rattle.run_plan.proofs.Steps.{none_adds}
use Rattle.run_plan.proofs.workers.push_workers_at.Goals as goal

pub returns-in-None-clause-value : goal.returns-in-None-clause-value
returns-in-None-clause-value c =
    let past = slice_get_past c.args.plans.now c.args.store (ltb-false _ _ (sym c.in-None.ensures.lookup.0)) in
    none_adds _ _ (ap (λ o. workers_at o c.args.store c.args.slaves c.args.choice (length c.args.workers.now.items)) past)

pub returns-in-Some-clause-value : goal.returns-in-Some-clause-value
returns-in-Some-clause-value c =
    let h = c.in-Some.ensures.lookup in
    let here : slice_get c.args.plans.now c.args.store ≡ Some c.in-Some.plan.now =
    slice_get_read c.args.plans.now (length c.args.plans.now) c.args.store c.in-Some.plan.now refl (ltb-true _ _ (sym h.0)) h.1 in
    rw here c.push_workers.ensures.value
