use Rattle.std.proofs.Common.{◌≡◌, Some, slice_get, ap, length, refl, sym}
use Rattle.std.proofs.lemmas.Bool.{ltb-false, ltb-true}
use Rattle.std.proofs.lemmas.Option.{slice_get_past, slice_get_read}
use Rattle.run_plan.specs.Runs.{shares_at}
use Rattle.run_plan.proofs.Steps.{none_adds}
use Rattle.run_plan.proofs.runs.push_shares_at.Goals as goal

pub returns-in-None : goal.returns-in-None
returns-in-None c =
    let past = slice_get_past c.args.workloads.now c.args.pick.place (ltb-false _ _ (sym c.in-None.ensures.lookup.0)) in
    none_adds _ _ (ap (λ o. shares_at o c.args.settings c.args.pick.weight) past)

pub returns-in-Some : goal.returns-in-Some
returns-in-Some c =
    let h = c.in-Some.ensures.lookup in
    let here : slice_get c.args.workloads.now c.args.pick.place ≡ Some c.in-Some.w.now =
    slice_get_read c.args.workloads.now (length c.args.workloads.now) c.args.pick.place c.in-Some.w.now refl (ltb-true _ _ (sym h.0)) h.1 in
    rw here c.push_shares.ensures
