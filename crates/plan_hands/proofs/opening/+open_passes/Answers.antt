use Rattle.std.proofs.Common.{◌<◌, ap, ◌∷◌, length, map}
use Rattle.std.specs.List.{AllZip}
use Rattle.std.proofs.lemmas.List.Elements.{All-rest}
use Rattle.slave_worker.specs.Hands.{hand_seen}
use Rattle.slave_worker.specs.declared.hand.StoreHand.{StoreHand}
use Rattle.plan_hands.specs.Openings.{Opened, StopsOpening}
use Rattle.plan_hands.proofs.Opens.{all_same, cause_then, data_then, first_kept, if_err_then, on_ok_then, opened_then, out_here, out_then, stops_here, stops_later}
use Rattle.plan_hands.proofs.opening.+open_passes.Goals as goal

pub returns-in-Err-clause-stops : goal.returns-in-Err-clause-stops
returns-in-Err-clause-stops g t c =
    let seen = hand_seen g.Y.Arm.Pass.Pass.seen g.B.Book.seen in
    stops_here c.args.plan.now c.args.run.now (g.Y.Yard.seen c.args.yard.now) (map seen c.args.hands.now) (seen c.in-Some.first.now) (map seen c.in-Some.others.now) (seen c.open_one.new.hand) c.in-Err.fault (ap (map seen) c.in-Some.ensures.cases.0) c.in-Err.ensures.refused c.in-Err.ensures.kept

pub returns-in-Err-clause-out : goal.returns-in-Err-clause-out
returns-in-Err-clause-out g t c =
    let seen = hand_seen g.Y.Arm.Pass.Pass.seen g.B.Book.seen in
    out_here c.args.plan.now c.args.run.now (seen c.in-Some.first.now) (seen c.open_one.new.hand) (map seen c.args.hands.now) (map seen c.in-Some.others.now) (g.Y.Yard.seen c.args.yard.now).out (g.Y.Yard.seen c.open_one.new.yard).out (ap (map seen) c.in-Some.ensures.cases.0) c.open_one.ensures.out

pub open_passes-requires-after_bounds : goal.open_passes-requires-after_bounds
open_passes-requires-after_bounds g t c = λ κs within.
    All-rest (λ (hand : StoreHand g.row.Y-Arm-Pass.Denot g.row.B.Denot). hand.store < length c.args.plan.now.stores) c.in-Some.first.now c.in-Some.others.now c.args.hands.now c.in-Some.ensures.cases.0 c.requires

pub returns-clause-opened : goal.returns-clause-opened
returns-clause-opened g t c =
    let seen = hand_seen g.Y.Arm.Pass.Pass.seen g.B.Book.seen in
    let plan = c.args.plan.now in
    let run = c.args.run.now in
    let before = g.Y.Yard.seen c.args.yard.now in
    let between = g.Y.Yard.seen c.open_one.new.yard in
    let first = seen c.open_one.new.hand in
    on_ok_then (AllZip (Opened plan run between) (map seen c.in-Some.others.now) (map seen c.open_passes.new.hands)) (AllZip (Opened plan run before) (map seen c.args.hands.now) (first ∷ map seen c.open_passes.new.hands)) c.open_passes.result
    (opened_then plan run before between (map seen c.args.hands.now) (seen c.in-Some.first.now) (map seen c.in-Some.others.now) (map seen c.open_passes.new.hands) first (ap (map seen) c.in-Some.ensures.cases.0) c.open_one.ensures.data c.in_default-open_one.ensures.opened)
    c.open_passes.ensures.opened

pub returns-clause-stops : goal.returns-clause-stops
returns-clause-stops g t c =
    let seen = hand_seen g.Y.Arm.Pass.Pass.seen g.B.Book.seen in
    let plan = c.args.plan.now in
    let run = c.args.run.now in
    let before = g.Y.Yard.seen c.args.yard.now in
    let between = g.Y.Yard.seen c.open_one.new.yard in
    let first = seen c.open_one.new.hand in
    if_err_then (StopsOpening plan run between (map seen c.in-Some.others.now) (map seen c.open_passes.new.hands)) (StopsOpening plan run before (map seen c.args.hands.now) (first ∷ map seen c.open_passes.new.hands)) c.open_passes.result
    (λ why. stops_later plan run before between (map seen c.args.hands.now) (seen c.in-Some.first.now) (map seen c.in-Some.others.now) (map seen c.open_passes.new.hands) first why (ap (map seen) c.in-Some.ensures.cases.0) c.open_one.ensures.data c.in_default-open_one.ensures.opened)
    c.open_passes.ensures.stops

pub returns-clause-data : goal.returns-clause-data
returns-clause-data g t c =
    data_then (g.Y.Yard.seen c.args.yard.now) (g.Y.Yard.seen c.open_one.new.yard) (g.Y.Yard.seen c.open_passes.new.yard) c.open_one.ensures.data c.open_passes.ensures.data

pub returns-clause-out : goal.returns-clause-out
returns-clause-out g t c =
    let seen = hand_seen g.Y.Arm.Pass.Pass.seen g.B.Book.seen in
    out_then c.args.plan.now c.args.run.now (seen c.in-Some.first.now) (seen c.open_one.new.hand) (map seen c.args.hands.now) (map seen c.in-Some.others.now) (map seen c.open_passes.new.hands) (g.Y.Yard.seen c.args.yard.now).out (g.Y.Yard.seen c.open_one.new.yard).out (g.Y.Yard.seen c.open_passes.new.yard).out (ap (map seen) c.in-Some.ensures.cases.0) c.open_one.ensures.out c.open_passes.ensures.out

pub returns-clause-cause : goal.returns-clause-cause
returns-clause-cause g t c =
    cause_then (g.Y.Yard.seen c.args.yard.now) (g.Y.Yard.seen c.open_one.new.yard) (g.Y.Yard.seen c.open_passes.new.yard) c.open_passes.result c.in_default-open_one.ensures.cause c.open_one.ensures.data c.open_passes.ensures.cause

pub returns-in-Err-clause-same : goal.returns-in-Err-clause-same
returns-in-Err-clause-same g t c =
    first_kept c.args.hands.now c.in-Some.others.now c.in-Some.others.now c.in-Some.first.now c.open_one.new.hand c.in-Some.ensures.cases.0 c.open_one.ensures.same (all_same c.in-Some.others.now)

pub returns-clause-same : goal.returns-clause-same
returns-clause-same g t c =
    first_kept c.args.hands.now c.in-Some.others.now c.open_passes.new.hands c.in-Some.first.now c.open_one.new.hand c.in-Some.ensures.cases.0 c.open_one.ensures.same c.open_passes.ensures.same
