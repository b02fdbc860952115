use Rattle.std.proofs.Common.{◌≡◌, sym, subst}
use Rattle.std.specs.Prelude.{Option, Some, slice_get}
use Rattle.plan_types.specs.declared.store.StorePlan.{StorePlan}
use Rattle.run_report.specs.Lines.{cannot_open_text}
use Rattle.run_report.specs.Says.{printing}
use Rattle.run_report.specs.declared.status.Status.TheVariants as status
use Rattle.still_plan.specs.Lines.{SaysOr}
use Rattle.still_plan.proofs.Sayings.{says_or}
use Rattle.plan_hands.specs.Openings.{data_path}
use Rattle.plan_hands.proofs.Lists.{read_at}
use Rattle.plan_runs.proofs.running.refuse.Goals as goal

pub returns-in-Yard : goal.returns-in-Yard
returns-in-Yard g c =
    let store = c.index-as_slice-store.result in
    let is : slice_get c.args.plan.now.stores c.in-Yard.store ≡ Some store = read_at c.args.plan.now.stores c.as_slice.result.now c.in-Yard.store store c.as_slice.ensures (c.requires c.in-Yard.store c.in-Yard.is) c.index-as_slice-store.is in
    let before = printing c.args.printer.now.failed (g.S.Sink.taken c.args.out.now) (g.S.Sink.faults c.args.out.now) in
    let after = printing c.say_line.new.printer.failed (g.S.Sink.taken c.say_line.new.out) (g.S.Sink.faults c.say_line.new.out) in
    rw c.in-Yard.is
    (subst (λ (o : Option StorePlan). SaysOr (cannot_open_text (data_path o)) status.Yard c.say_line.result before after) (sym is)
    (subst (λ (s : StorePlan). SaysOr (cannot_open_text s.path) status.Yard c.say_line.result before after) (sym c.index-as_slice-store.is)
    (says_or _ _ _ _ _ _ c.cannot_open_line.ensures c.say_line.ensures)))
