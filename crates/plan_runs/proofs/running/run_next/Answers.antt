use Rattle.std.proofs.Common.{◌≡◌, ◌∙◌, refl, sym, ap, subst, arith, ◌<◌, All, List, ◌++◌, drop, length, map, take, Err}
use Rattle.std.specs.List.{AllZip}
use Rattle.slave_worker.specs.Hands.{hand_seen}
use Rattle.slave_worker.specs.declared.hand.RunFault.{RunFault}
use Rattle.slave_worker.specs.declared.hand.StoreHand.{StoreHand}
use Rattle.run_report.specs.Says.{printing}
use Rattle.plan_hands.specs.Openings.{Opened, StopsOpening, passes_out}
use Rattle.plan_hands.specs.Stores.{AreStores}
use Rattle.plan_runs.specs.Ready.{AreOpen, CameBack}
use Rattle.plan_runs.specs.Stages.{stage}
use Rattle.plan_runs.proofs.Chosen.{put_back}
use Rattle.plan_runs.proofs.Made.{refused_cause, unopened}
use Rattle.plan_runs.proofs.Opened.{all_there, are_open, stops_named, stores_still}
use Rattle.plan_runs.proofs.Returned.{out_back, stores_back}
use Rattle.plan_runs.proofs.running.run_next.Goals as goal

pub open_passes-requires-after_bounds : goal.open_passes-requires-after_bounds
open_passes-requires-after_bounds g c κs within =
    subst (λ (l : List (StoreHand g.row.Y-Arm-Pass.Denot g.row.B.Denot)). All (λ (hand : StoreHand g.row.Y-Arm-Pass.Denot g.row.B.Denot). hand.store < length c.args.plan.now.stores) l) (sym c.as_mut_slice.ensures.value)
    (all_there g.Y.Arm.Pass.Pass.seen g.B.Book.seen c.args.plan.now c.args.hands.now.items c.requires.stores)

pub refuse-requires : goal.refuse-requires
refuse-requires g c =
    let seen = hand_seen g.Y.Arm.Pass.Pass.seen g.B.Book.seen in
    let yard = g.Y.Yard.seen c.args.yard.now in
    let now = map seen c.open_passes.new.hands in
    let stops = subst (λ (l : List (StoreHand g.row.Y-Arm-Pass.Denot g.row.B.Denot)). StopsOpening c.args.plan.now c.args.run.now yard (map seen l) now c.in-Err.fault) c.as_mut_slice.ensures.value c.in-Err.ensures.stops in
    stops_named c.args.plan.now c.requires.run.valid c.args.run.now yard (map seen c.args.hands.now.items) now c.in-Err.fault c.requires.stores stops

pub returns-in-Err-clause-stores : goal.returns-in-Err-clause-stores
returns-in-Err-clause-stores g c =
    let seen = hand_seen g.Y.Arm.Pass.Pass.seen g.B.Book.seen in
    let yard = g.Y.Yard.seen c.args.yard.now in
    let now = map seen c.open_passes.new.hands in
    let stops = subst (λ (l : List (StoreHand g.row.Y-Arm-Pass.Denot g.row.B.Denot)). StopsOpening c.args.plan.now c.args.run.now yard (map seen l) now c.in-Err.fault) c.as_mut_slice.ensures.value c.in-Err.ensures.stops in
    let long : c.args.hands.now.len ≡ length c.open_passes.new.hands = omega (arith, c.open_passes.auto.hands, ap length c.as_mut_slice.ensures.value, c.args.hands.now.ok.0) in
    subst (λ (l : List (StoreHand g.row.Y-Arm-Pass.Denot g.row.B.Denot)). AreStores c.args.plan.now (map seen l)) (sym (put_back c.args.hands.now.items c.open_passes.new.hands c.args.hands.now.len long))
    (stores_still c.args.plan.now c.requires.run.valid c.args.run.now yard (map seen c.args.hands.now.items) now c.in-Err.fault c.requires.stores stops)

pub returns-in-Err-clause-ran : goal.returns-in-Err-clause-ran
returns-in-Err-clause-ran g c =
    let seen = hand_seen g.Y.Arm.Pass.Pass.seen g.B.Book.seen in
    let yard = g.Y.Yard.seen c.args.yard.now in
    let now = map seen c.open_passes.new.hands in
    let stops = subst (λ (l : List (StoreHand g.row.Y-Arm-Pass.Denot g.row.B.Denot)). StopsOpening c.args.plan.now c.args.run.now yard (map seen l) now c.in-Err.fault) c.as_mut_slice.ensures.value c.in-Err.ensures.stops in
    let long : c.args.hands.now.len ≡ length c.open_passes.new.hands = omega (arith, c.open_passes.auto.hands, ap length c.as_mut_slice.ensures.value, c.args.hands.now.ok.0) in
    let whole = put_back c.args.hands.now.items c.open_passes.new.hands c.args.hands.now.len long in
    let stopped = subst (λ (l : List (StoreHand g.row.Y-Arm-Pass.Denot g.row.B.Denot)). StopsOpening c.args.plan.now c.args.run.now yard (map seen c.args.hands.now.items) (map seen l) c.in-Err.fault) (sym whole) stops in
    let first = stage (map seen c.args.hands.now.items) yard (g.C.Clock.seen c.args.clock.now) c.args.errors.now (printing c.args.printer.now.failed (g.S.Sink.taken c.args.out.now) (g.S.Sink.faults c.args.out.now)) in
    let last = stage (map seen (take c.args.hands.now.len (c.open_passes.new.hands ++ drop (length c.open_passes.new.hands) c.args.hands.now.items))) (g.Y.Yard.seen c.open_passes.new.yard) (g.C.Clock.seen c.args.clock.now) c.args.errors.now (printing c.refuse.new.printer.failed (g.S.Sink.taken c.refuse.new.out) (g.S.Sink.faults c.refuse.new.out)) in
    unopened g.Y.Arm.Pass.Pass.seen g.B.Book.seen c.args.plan.now c.args.run.now first last c.in-Err.fault c.refuse.result (record {
      stops = stopped;
      opens = c.open_passes.ensures.data;
      clock = refl;
      errors = refl;
      cause = record {
        failed = λ store is. c.open_passes.ensures.cause.failed store (c.in-Err.is ∙ is);
        quiet = λ other. c.open_passes.ensures.cause.quiet (λ store is. other store (sym c.in-Err.is ∙ is));
        willing = λ store w is. c.open_passes.ensures.cause.willing store w (c.in-Err.is ∙ is);
      };
    }) c.refuse.ensures

pub returns-in-Err-clause-yard_cause : goal.returns-in-Err-clause-yard_cause
returns-in-Err-clause-yard_cause g c =
    refused_cause c.args.plan.now (g.Y.Yard.seen c.args.yard.now) (g.Y.Yard.seen c.open_passes.new.yard) c.in-Err.fault c.refuse.result _ _ c.refuse.ensures
    (λ store is. c.open_passes.ensures.cause.failed store (c.in-Err.is ∙ ap (λ (w : RunFault). Err w) is))
    (λ store w is. c.open_passes.ensures.cause.willing store w (c.in-Err.is ∙ ap (λ (f : RunFault). Err f) is))

pub run_open-requires-clause-ready : goal.run_open-requires-clause-ready
run_open-requires-clause-ready g c κs within =
    let seen = hand_seen g.Y.Arm.Pass.Pass.seen g.B.Book.seen in
    let yard = g.Y.Yard.seen c.args.yard.now in
    let now = map seen c.open_passes.new.hands in
    let opens = subst (λ (l : List (StoreHand g.row.Y-Arm-Pass.Denot g.row.B.Denot)). AllZip (Opened c.args.plan.now c.args.run.now yard) (map seen l) now) c.as_mut_slice.ensures.value c.in_default.ensures.opened in
    let long : c.args.hands.now.len ≡ length c.open_passes.new.hands = omega (arith, c.open_passes.auto.hands, ap length c.as_mut_slice.ensures.value, c.args.hands.now.ok.0) in
    subst (λ (l : List (StoreHand g.row.Y-Arm-Pass.Denot g.row.B.Denot)). AreOpen c.args.plan.now c.args.run.now (map seen l)) (sym (put_back c.args.hands.now.items c.open_passes.new.hands c.args.hands.now.len long))
    (are_open c.args.plan.now c.requires.run.valid c.args.run.now yard (map seen c.args.hands.now.items) now c.requires.stores opens)

pub returns-clause-stores : goal.returns-clause-stores
returns-clause-stores g c =
    let seen = hand_seen g.Y.Arm.Pass.Pass.seen g.B.Book.seen in
    let yard = g.Y.Yard.seen c.args.yard.now in
    let now = map seen c.open_passes.new.hands in
    let opens = subst (λ (l : List (StoreHand g.row.Y-Arm-Pass.Denot g.row.B.Denot)). AllZip (Opened c.args.plan.now c.args.run.now yard) (map seen l) now) c.as_mut_slice.ensures.value c.in_default.ensures.opened in
    let long : c.args.hands.now.len ≡ length c.open_passes.new.hands = omega (arith, c.open_passes.auto.hands, ap length c.as_mut_slice.ensures.value, c.args.hands.now.ok.0) in
    let whole = put_back c.args.hands.now.items c.open_passes.new.hands c.args.hands.now.len long in
    let are = are_open c.args.plan.now c.requires.run.valid c.args.run.now yard (map seen c.args.hands.now.items) now c.requires.stores opens in
    stores_back c.args.plan.now now (map seen c.run_open.new.hands.items)
    (subst (λ (l : List (StoreHand g.row.Y-Arm-Pass.Denot g.row.B.Denot)). CameBack c.args.plan.now (map seen l) (map seen c.run_open.new.hands.items)) whole c.run_open.ensures.back) are.stores

pub returns-clause-ran : goal.returns-clause-ran
returns-clause-ran g c =
    let seen = hand_seen g.Y.Arm.Pass.Pass.seen g.B.Book.seen in
    let yard = g.Y.Yard.seen c.args.yard.now in
    let opens = subst (λ (l : List (StoreHand g.row.Y-Arm-Pass.Denot g.row.B.Denot)). AllZip (Opened c.args.plan.now c.args.run.now yard) (map seen l) (map seen c.open_passes.new.hands)) c.as_mut_slice.ensures.value c.in_default.ensures.opened in
    let long : c.args.hands.now.len ≡ length c.open_passes.new.hands = omega (arith, c.open_passes.auto.hands, ap length c.as_mut_slice.ensures.value, c.args.hands.now.ok.0) in
    let whole = put_back c.args.hands.now.items c.open_passes.new.hands c.args.hands.now.len long in
    let opened_all = subst (λ (l : List (StoreHand g.row.Y-Arm-Pass.Denot g.row.B.Denot)). AllZip (Opened c.args.plan.now c.args.run.now yard) (map seen c.args.hands.now.items) (map seen l)) (sym whole) opens in
    let first = stage (map seen c.args.hands.now.items) yard (g.C.Clock.seen c.args.clock.now) c.args.errors.now (printing c.args.printer.now.failed (g.S.Sink.taken c.args.out.now) (g.S.Sink.faults c.args.out.now)) in
    let ran = c.run_open.ensures.ran in
    (ran.0, ran.1 first (record { opened = opened_all; opens = c.open_passes.ensures.data; faults = c.in_default.ensures.cause.quiet (λ store is. cc); clock = refl; errors = refl; printing = refl }))

pub returns-clause-passes : goal.returns-clause-passes
returns-clause-passes g c before was =
    let seen = hand_seen g.Y.Arm.Pass.Pass.seen g.B.Book.seen in
    let plan = c.args.plan.now in
    let long : c.args.hands.now.len ≡ length c.open_passes.new.hands = omega (arith, c.open_passes.auto.hands, ap length c.as_mut_slice.ensures.value, c.args.hands.now.ok.0) in
    let whole = put_back c.args.hands.now.items c.open_passes.new.hands c.args.hands.now.len long in
    let back = subst (λ (l : List (StoreHand g.row.Y-Arm-Pass.Denot g.row.B.Denot)). CameBack c.args.plan.now (map seen l) (map seen c.run_open.new.hands.items)) whole c.run_open.ensures.back in
    c.run_open.ensures.out ∙ c.open_passes.ensures.out before (was ∙ ap (λ (l : List (StoreHand g.row.Y-Arm-Pass.Denot g.row.B.Denot)). passes_out plan (map seen l) before) (sym c.as_mut_slice.ensures.value))
    ∙ sym (out_back plan (map seen c.open_passes.new.hands) (map seen c.run_open.new.hands.items) before back)
