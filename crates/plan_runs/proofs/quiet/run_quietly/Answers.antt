use Rattle.std.proofs.Common.{◌≡◌, ◌∙◌, refl, sym, ap, subst, arith, All, List, [], length, map}
use Rattle.std.proofs.lemmas.List.{length-map}
use Rattle.vd_yard.specs.Counts.{Counts, arm_faults}
use Rattle.key_state.specs.Quiet.{quiet_seen}
use Rattle.plan_types.specs.declared.run.RunPlan.{RunPlan}
use Rattle.slave_worker.specs.Hands.{HandSeen, IsRunOf, hand_seen}
use Rattle.run_report.specs.Says.{printing}
use Rattle.plan_hands.specs.Openings.{passes_out}
use Rattle.plan_hands.specs.Stores.{AreStores, with_books}
use Rattle.plan_hands.proofs.Outs.{passes_out_cancel}
use Rattle.plan_runs.specs.Quiet.{all_made, none_made, unwritten}
use Rattle.plan_runs.specs.Stages.{stage}
use Rattle.plan_runs.proofs.Opened.{all_there}
use Rattle.plan_runs.proofs.Parted.{as_many}
use Rattle.plan_runs.proofs.Quieted.{are_seated, can_end, nothing_out, runs_from, runs_of}
use Rattle.plan_runs.proofs.quiet.run_quietly.Goals as goal

pub returns-in_default-clause-ran : goal.returns-in_default-clause-ran
returns-in_default-clause-ran g c = ([], none_made refl refl refl refl refl)

pub returns-in_default-hands_of-clause-ran : goal.returns-in_default-hands_of-clause-ran
returns-in_default-hands_of-clause-ran g c = ([], none_made refl refl refl refl refl)

pub run_all-status-requires-clause-runs : goal.run_all-status-requires-clause-runs
run_all-status-requires-clause-runs g c κs within =
    subst (λ (l : List RunPlan). All (IsRunOf c.args.plan.now) l) (sym c.as_slice-2.ensures) (runs_of c.args.plan.now c.requires)

pub run_all-status-requires-clause-stores : goal.run_all-status-requires-clause-stores
run_all-status-requires-clause-stores g c κs within =
    let seen = hand_seen g.Y.Arm.Pass.Pass.seen quiet_seen in
    let plan = c.args.plan.now in
    let its : map seen c.in-Ok-hands_of.hands.items ≡ with_books (map unwritten plan.stores) = c.in-Ok-hands_of.ensures.hands ∙ ap with_books (c.in-Ok.ensures ∙ ap (map unwritten) c.as_slice.ensures) in
    subst (λ (l : List HandSeen). AreStores plan l) (sym its) (are_seated plan)

pub leave-requires-clause-stores : goal.leave-requires-clause-stores
leave-requires-clause-stores g c κs within =
    all_there g.Y.Arm.Pass.Pass.seen quiet_seen c.args.plan.now c.run_all-status.new.hands.items c.run_all-status.ensures.stores

pub leave-requires-clause-out : goal.leave-requires-clause-out
leave-requires-clause-out g c κs within =
    let seen = hand_seen g.Y.Arm.Pass.Pass.seen quiet_seen in
    let plan = c.args.plan.now in
    let its : map seen c.in-Ok-hands_of.hands.items ≡ with_books (map unwritten plan.stores) = c.in-Ok-hands_of.ensures.hands ∙ ap with_books (c.in-Ok.ensures ∙ ap (map unwritten) c.as_slice.ensures) in
    let out = (g.Y.Yard.seen c.args.yard.now).out in
    (out, c.run_all-status.ensures.passes out (sym (ap (λ (l : List HandSeen). passes_out plan l out) its ∙ nothing_out plan (map unwritten plan.stores) out)))

pub leave-requires-clause-room : goal.leave-requires-clause-room
leave-requires-clause-room g c κs within =
    let seen = hand_seen g.Y.Arm.Pass.Pass.seen quiet_seen in
    let plan = c.args.plan.now in
    let many = as_many plan (map seen c.run_all-status.new.hands.items) c.run_all-status.ensures.stores in
    let books = ap length (c.in-Ok.ensures ∙ ap (map unwritten) c.as_slice.ensures) in
    omega (arith, many, length-map c.run_all-status.new.hands.items seen, books, length-map c.in-Ok.books.items quiet_seen, length-map plan.stores unwritten, ap length c.in-Ok-hands_of.ensures.moved, c.in-Ok-hands_of.ensures.room, c.in-Ok.books.ok.0, c.in-Ok.books.ok.1)

pub returns-clause-ran : goal.returns-clause-ran
returns-clause-ran g c =
    let seen = hand_seen g.Y.Arm.Pass.Pass.seen quiet_seen in
    let plan = c.args.plan.now in
    let its : map seen c.in-Ok-hands_of.hands.items ≡ with_books (map unwritten plan.stores) = c.in-Ok-hands_of.ensures.hands ∙ ap with_books (c.in-Ok.ensures ∙ ap (map unwritten) c.as_slice.ensures) in
    let before = stage (with_books (map unwritten plan.stores)) (g.Y.Yard.seen c.args.yard.now) (g.C.Clock.seen c.args.clock.now) 0 (printing c.args.printer.now.failed (g.S.Sink.taken c.args.out.now) (g.S.Sink.faults c.args.out.now)) in
    let last = stage (map seen c.run_all-status.new.hands.items) (g.Y.Yard.seen c.run_all-status.new.yard) (g.C.Clock.seen c.run_all-status.new.clock) c.run_all-status.new.errors (printing c.run_all-status.new.printer.failed (g.S.Sink.taken c.run_all-status.new.out) (g.S.Sink.faults c.run_all-status.new.out)) in
    let ran = runs_from g.Y.Arm.Pass.Pass.seen plan c.as_slice-2.result.now (map seen c.in-Ok-hands_of.hands.items) before last c.run_all-status.result c.as_slice-2.ensures its c.run_all-status.ensures.ran in
    (ran.0, all_made last ran.1 refl c.leave.ensures.back refl refl)

pub returns-clause-back : goal.returns-clause-back
returns-clause-back g c =
    let seen = hand_seen g.Y.Arm.Pass.Pass.seen quiet_seen in
    let plan = c.args.plan.now in
    let its : map seen c.in-Ok-hands_of.hands.items ≡ with_books (map unwritten plan.stores) = c.in-Ok-hands_of.ensures.hands ∙ ap with_books (c.in-Ok.ensures ∙ ap (map unwritten) c.as_slice.ensures) in
    let out = (g.Y.Yard.seen c.args.yard.now).out in
    let still = c.run_all-status.ensures.passes out (sym (ap (λ (l : List HandSeen). passes_out plan l out) its ∙ nothing_out plan (map unwritten plan.stores) out)) in
    passes_out_cancel plan (map seen c.run_all-status.new.hands.items) (g.Y.Yard.seen c.leave.new.yard).out out (sym c.leave.ensures.back.out ∙ still)

pub returns-clause-device_quiet : goal.returns-clause-device_quiet
returns-clause-device_quiet g c device yard memory path =
    let seen = hand_seen g.Y.Arm.Pass.Pass.seen quiet_seen in
    let plan = c.args.plan.now in
    let its : map seen c.in-Ok-hands_of.hands.items ≡ with_books (map unwritten plan.stores) = c.in-Ok-hands_of.ensures.hands ∙ ap with_books (c.in-Ok.ensures ∙ ap (map unwritten) c.as_slice.ensures) in
    let before = stage (with_books (map unwritten plan.stores)) (g.Y.Yard.seen c.args.yard.now) (g.C.Clock.seen c.args.clock.now) 0 (printing c.args.printer.now.failed (g.S.Sink.taken c.args.out.now) (g.S.Sink.faults c.args.out.now)) in
    let last = stage (map seen c.run_all-status.new.hands.items) (g.Y.Yard.seen c.run_all-status.new.yard) (g.C.Clock.seen c.run_all-status.new.clock) c.run_all-status.new.errors (printing c.run_all-status.new.printer.failed (g.S.Sink.taken c.run_all-status.new.out) (g.S.Sink.faults c.run_all-status.new.out)) in
    let ran = runs_from g.Y.Arm.Pass.Pass.seen plan c.as_slice-2.result.now (map seen c.in-Ok-hands_of.hands.items) before last c.run_all-status.result c.as_slice-2.ensures its c.run_all-status.ensures.ran in
    let can = can_end g.Y.Arm.Pass.Pass.seen plan plan.runs before last ran.0 c.run_all-status.result ran.1 in
    ap (λ (k : Counts). arm_faults k path) c.leave.ensures.back.counts
    ∙ c.run_all-status.ensures.device_quiet device can.no_epoch_over can.no_journal_failed yard memory path

pub returns-clause-can : goal.returns-clause-can
returns-clause-can g c =
    let seen = hand_seen g.Y.Arm.Pass.Pass.seen quiet_seen in
    let plan = c.args.plan.now in
    let its : map seen c.in-Ok-hands_of.hands.items ≡ with_books (map unwritten plan.stores) = c.in-Ok-hands_of.ensures.hands ∙ ap with_books (c.in-Ok.ensures ∙ ap (map unwritten) c.as_slice.ensures) in
    let before = stage (with_books (map unwritten plan.stores)) (g.Y.Yard.seen c.args.yard.now) (g.C.Clock.seen c.args.clock.now) 0 (printing c.args.printer.now.failed (g.S.Sink.taken c.args.out.now) (g.S.Sink.faults c.args.out.now)) in
    let last = stage (map seen c.run_all-status.new.hands.items) (g.Y.Yard.seen c.run_all-status.new.yard) (g.C.Clock.seen c.run_all-status.new.clock) c.run_all-status.new.errors (printing c.run_all-status.new.printer.failed (g.S.Sink.taken c.run_all-status.new.out) (g.S.Sink.faults c.run_all-status.new.out)) in
    let ran = runs_from g.Y.Arm.Pass.Pass.seen plan c.as_slice-2.result.now (map seen c.in-Ok-hands_of.hands.items) before last c.run_all-status.result c.as_slice-2.ensures its c.run_all-status.ensures.ran in
    can_end g.Y.Arm.Pass.Pass.seen plan plan.runs before last ran.0 c.run_all-status.result ran.1
