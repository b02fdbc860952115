use Rattle.std.proofs.Common.{◌∙◌, ◌≤◌, refl, sym, ap, subst, arith, length, map, Err, List, Result, reverse}
use Rattle.std.specs.List.{flat_map}
use Rattle.std.proofs.lemmas.List.{length-reverse}
use Rattle.std.proofs.lemmas.List.Elements.{All-same}
use Rattle.std.specs.Vec.{vec_capacity}
use Rattle.slave_worker.specs.declared.hand.RunFault.{RunFault}
use Rattle.slave_worker.specs.declared.hand.StoreHand.{StoreHand}
use Rattle.slave_worker.specs.Hands.{IsHandIn, workers_in}
use Rattle.master_run.specs.Yards.{HasYardCause, NamesStoreIn}
use Rattle.master_run.proofs.Answering.{all_can_close, all_can_dismiss, all_can_work, all_places, arms_out, did_run, end_places, ends_out, ends_room, hand_room, left_room, manned_are, on_err_any, took_arms, word_many, word_seats}
use Rattle.master_run.proofs.Ending.{hands_in, hands_workers, some_workers, turned_all}
use Rattle.master_run.proofs.Opening.{cause_before}
use Rattle.master_run.proofs.Refusing.{did_not}
use Rattle.master_run.proofs.Reversed.{mustered_turned, workers_turned}
use Rattle.master_run.proofs.running.run_one.Goals as goal

pub make_hall-requires-clause-workers : goal.make_hall-requires-clause-workers
make_hall-requires-clause-workers g c κs within =
    some_workers c.args.plan.now c.args.run.now c.requires.run

pub muster-mustered-requires-clause-hands : goal.muster-mustered-requires-clause-hands
muster-mustered-requires-clause-hands g c κs within =
    let Is = IsHandIn g.Y.Arm.Pass.Pass.seen g.B.Book.seen c.args.plan.now c.args.run.now in
    All-same Is c.turn.new.items.items (reverse c.args.hands.items) c.turn.ensures.turned (turned_all Is c.args.hands.items (hands_in g.Y.Arm.Pass.Pass.seen g.B.Book.seen c.args.plan.now c.args.run.now c.args.hands.items c.requires.hands))

pub muster-mustered-requires-clause-seats : goal.muster-mustered-requires-clause-seats
muster-mustered-requires-clause-seats g c κs within =
    let all = ap length (hands_workers g.Y.Arm.Pass.Pass.seen g.B.Book.seen c.args.plan.now c.args.run.now c.args.hands.items c.requires.run c.requires.hands) in
    let turned = ap (λ (l : List (StoreHand _ _)). length (flat_map (workers_in c.args.run.now) (map (λ (hand : StoreHand _ _). hand.store) l))) c.turn.ensures.turned ∙ workers_turned c.args.run.now c.args.hands.items in
    omega (arith, all, turned, c.in-Ok.ensures.seats.0)

pub dismiss-requires-clause-can : goal.dismiss-requires-clause-can
dismiss-requires-clause-can g c κs within =
    all_can_dismiss g.Y.Arm.Pass.Pass.seen g.B.Book.seen g.Y.Arm.Arm.seen c.args.plan.now c.args.run.now c.in-Ok.hall.errors (g.Y.Yard.seen c.args.yard.now) (g.Y.Yard.seen c.muster-mustered.new.yard) c.turn.new.items.items c.muster-mustered.new.hands.items c.in-Ok.hall.crews.items c.muster-mustered.new.crews.items c.in-Ok.hall.left.error_seats.items c.muster-mustered.new.left.error_seats.items c.muster-mustered.result
    c.muster-mustered.ensures.taken c.in-Ok.ensures.crews.0 c.in-Ok.ensures.seats.1

pub dismiss-requires-clause-stores : goal.dismiss-requires-clause-stores
dismiss-requires-clause-stores g c κs within =
    all_places g.Y.Arm.Pass.Pass.seen g.B.Book.seen g.Y.Arm.Arm.seen c.args.plan.now c.args.run.now c.in-Ok.hall.errors (g.Y.Yard.seen c.args.yard.now) (g.Y.Yard.seen c.muster-mustered.new.yard) c.turn.new.items.items c.muster-mustered.new.hands.items c.in-Ok.hall.crews.items c.muster-mustered.new.crews.items c.in-Ok.hall.left.error_seats.items c.muster-mustered.new.left.error_seats.items c.muster-mustered.result
    c.muster-mustered.ensures.taken c.in-Ok.ensures.crews.0 c.in-Ok.ensures.seats.1

pub dismiss-requires-clause-out : goal.dismiss-requires-clause-out
dismiss-requires-clause-out g c κs within =
    arms_out g.Y.Arm.Pass.Pass.seen g.B.Book.seen g.Y.Arm.Arm.seen c.args.plan.now c.args.run.now c.in-Ok.hall.errors (g.Y.Yard.seen c.args.yard.now) (g.Y.Yard.seen c.muster-mustered.new.yard) c.turn.new.items.items c.muster-mustered.new.hands.items c.in-Ok.hall.crews.items c.muster-mustered.new.crews.items c.in-Ok.hall.left.error_seats.items c.muster-mustered.new.left.error_seats.items c.muster-mustered.result
    c.muster-mustered.ensures.taken c.in-Ok.ensures.crews.0 c.in-Ok.ensures.seats.1

pub dismiss-requires-clause-room : goal.dismiss-requires-clause-room
dismiss-requires-clause-room g c κs within =
    let many = hand_room g.Y.Arm.Pass.Pass.seen g.B.Book.seen g.Y.Arm.Arm.seen c.args.plan.now c.args.run.now c.in-Ok.hall.errors (g.Y.Yard.seen c.args.yard.now) (g.Y.Yard.seen c.muster-mustered.new.yard) c.turn.new.items.items c.muster-mustered.new.hands.items c.in-Ok.hall.crews.items c.muster-mustered.new.crews.items c.in-Ok.hall.left.error_seats.items c.muster-mustered.new.left.error_seats.items c.muster-mustered.result
    c.muster-mustered.ensures.taken c.in-Ok.ensures.crews.0 c.in-Ok.ensures.seats.1 in
    omega (arith, many, ap length c.turn.ensures.turned, length-reverse c.args.hands.items, c.args.hands.ok.0, c.args.hands.ok.1, c.turn.ensures.room, c.muster-mustered.ensures.rooms.0)

pub returns-in-Err-clause-refused : goal.returns-in-Err-clause-refused
returns-in-Err-clause-refused g c =
    let taken = c.muster-mustered.ensures.taken in
    let back = c.dismiss.ensures.back in
    on_err_any c.not_run-in-Err.result.why _
    (did_not g.Y.Arm.Pass.Pass.seen g.B.Book.seen g.Y.Arm.Arm.seen c.args.plan.now c.args.run.now c.in-Ok.hall.errors (g.Y.Yard.seen c.args.yard.now).tells c.args.errors_before (g.Y.Yard.seen c.args.yard.now) (g.Y.Yard.seen c.muster-mustered.new.yard) (g.Y.Yard.seen c.dismiss.new.yard) (g.C.Clock.seen c.args.clock.now) (g.C.Clock.seen c.args.clock.now)
    c.args.hands.items taken.rest taken.taken c.muster-mustered.new.hands.items c.muster-mustered.new.crews.items c.not_run-in-Err.result refl (sym c.turn.ensures.turned ∙ taken.hands) taken.same
    (manned_are g.Y.Arm.Pass.Pass.seen g.B.Book.seen g.Y.Arm.Arm.seen c.args.plan.now c.args.run.now c.in-Ok.hall.errors (g.Y.Yard.seen c.args.yard.now) (g.Y.Yard.seen c.muster-mustered.new.yard) c.turn.new.items.items c.muster-mustered.new.hands.items c.in-Ok.hall.crews.items c.muster-mustered.new.crews.items c.in-Ok.hall.left.error_seats.items c.muster-mustered.new.left.error_seats.items c.muster-mustered.result
    c.muster-mustered.ensures.taken c.in-Ok.ensures.crews.0 c.in-Ok.ensures.seats.1)
    (took_arms g.Y.Arm.Pass.Pass.seen g.B.Book.seen g.Y.Arm.Arm.seen c.args.plan.now c.args.run.now c.in-Ok.hall.errors (g.Y.Yard.seen c.args.yard.now) (g.Y.Yard.seen c.muster-mustered.new.yard) c.turn.new.items.items c.muster-mustered.new.hands.items c.in-Ok.hall.crews.items c.muster-mustered.new.crews.items c.in-Ok.hall.left.error_seats.items c.muster-mustered.new.left.error_seats.items c.muster-mustered.result
    c.muster-mustered.ensures.taken c.in-Ok.ensures.crews.0 c.in-Ok.ensures.seats.1)
    (back.0, c.not_run-in-Err.ensures.hands ∙ c.turn-in-Err.ensures.turned ∙ ap reverse back.1, back.2) c.dismiss.ensures.arms c.not_run-in-Err.ensures.tallies c.not_run-in-Err.ensures.ends c.not_run-in-Err.ensures.errors)

pub returns-in-Err-clause-cause : goal.returns-in-Err-clause-cause
returns-in-Err-clause-cause g c =
    let before = g.Y.Yard.seen c.args.yard.now in
    let after = g.Y.Yard.seen c.dismiss.new.yard in
    subst (λ (r : Result (Unit {0}) RunFault). HasYardCause before after r) (sym c.not_run-in-Err.ensures.why)
    (cause_before before (g.Y.Yard.seen c.muster-mustered.new.yard) after (Err c.in-Err.fault) c.in-Err.ensures.cause c.dismiss.ensures.arms.faults)

pub work_all-requires-clause-can : goal.work_all-requires-clause-can
work_all-requires-clause-can g c κs within =
    all_can_work g.Y.Arm.Pass.Pass.seen g.B.Book.seen g.Y.Arm.Arm.seen c.args.plan.now c.args.run.now c.in-Ok.hall.errors (g.Y.Yard.seen c.args.yard.now) (g.Y.Yard.seen c.muster-mustered.new.yard) c.args.hands.items c.muster-mustered.new.hands.items c.in-Ok.hall.crews.items c.turn-2.new.items.items c.in-Ok.hall.left.error_seats.items c.muster-mustered.new.left.error_seats.items c.muster-mustered.result
    (mustered_turned g.Y.Arm.Pass.Pass.seen g.B.Book.seen g.Y.Arm.Arm.seen c.args.plan.now c.args.run.now (g.Y.Yard.seen c.args.yard.now) (g.Y.Yard.seen c.muster-mustered.new.yard) c.args.hands.items c.turn.new.items.items c.muster-mustered.new.hands.items c.in-Ok.hall.crews.items c.muster-mustered.new.crews.items c.turn-2.new.items.items c.in-Ok.hall.left.error_seats.items c.muster-mustered.new.left.error_seats.items c.muster-mustered.result
    c.turn.ensures.turned c.turn-2.ensures.turned c.muster-mustered.ensures.taken c.in-Ok.ensures.crews.0 c.in_default-mustered.ensures.mustered) c.in-Ok.ensures.crews.0 c.in-Ok.ensures.seats.1

pub close-requires-clause-can : goal.close-requires-clause-can
close-requires-clause-can g c κs within =
    all_can_close g.Y.Arm.Pass.Pass.seen g.B.Book.seen g.Y.Arm.Arm.seen c.args.plan.now c.args.run.now c.in-Ok.hall.errors (g.Y.Yard.seen c.args.yard.now) (g.Y.Yard.seen c.muster-mustered.new.yard) c.args.hands.items c.muster-mustered.new.hands.items c.in-Ok.hall.crews.items c.turn-2.new.items.items c.in-Ok.hall.left.error_seats.items c.muster-mustered.new.left.error_seats.items c.muster-mustered.result
    (mustered_turned g.Y.Arm.Pass.Pass.seen g.B.Book.seen g.Y.Arm.Arm.seen c.args.plan.now c.args.run.now (g.Y.Yard.seen c.args.yard.now) (g.Y.Yard.seen c.muster-mustered.new.yard) c.args.hands.items c.turn.new.items.items c.muster-mustered.new.hands.items c.in-Ok.hall.crews.items c.muster-mustered.new.crews.items c.turn-2.new.items.items c.in-Ok.hall.left.error_seats.items c.muster-mustered.new.left.error_seats.items c.muster-mustered.result
    c.turn.ensures.turned c.turn-2.ensures.turned c.muster-mustered.ensures.taken c.in-Ok.ensures.crews.0 c.in_default-mustered.ensures.mustered) c.in-Ok.ensures.crews.0 c.in-Ok.ensures.seats.1
    c.requires.run c.requires.hands c.in_default-mustered.ensures.mustered c.in_default-mustered.is c.in-Ok.ensures.seats.0
    g.C.Clock.seen c.now-start.result (g.C.Clock.seen c.now-start.new.self) c.work_all.new.crews.items c.work_all.ensures.works

pub close-requires-clause-stores : goal.close-requires-clause-stores
close-requires-clause-stores g c κs within =
    end_places g.Y.Arm.Pass.Pass.seen g.B.Book.seen g.Y.Arm.Arm.seen c.args.plan.now c.args.run.now c.in-Ok.hall.errors (g.Y.Yard.seen c.args.yard.now) (g.Y.Yard.seen c.muster-mustered.new.yard) c.args.hands.items c.muster-mustered.new.hands.items c.in-Ok.hall.crews.items c.turn-2.new.items.items c.in-Ok.hall.left.error_seats.items c.muster-mustered.new.left.error_seats.items c.muster-mustered.result
    (mustered_turned g.Y.Arm.Pass.Pass.seen g.B.Book.seen g.Y.Arm.Arm.seen c.args.plan.now c.args.run.now (g.Y.Yard.seen c.args.yard.now) (g.Y.Yard.seen c.muster-mustered.new.yard) c.args.hands.items c.turn.new.items.items c.muster-mustered.new.hands.items c.in-Ok.hall.crews.items c.muster-mustered.new.crews.items c.turn-2.new.items.items c.in-Ok.hall.left.error_seats.items c.muster-mustered.new.left.error_seats.items c.muster-mustered.result
    c.turn.ensures.turned c.turn-2.ensures.turned c.muster-mustered.ensures.taken c.in-Ok.ensures.crews.0 c.in_default-mustered.ensures.mustered) c.in-Ok.ensures.crews.0 c.in-Ok.ensures.seats.1
    c.requires.run c.requires.hands c.in_default-mustered.ensures.mustered c.in_default-mustered.is c.in-Ok.ensures.seats.0
    g.C.Clock.seen c.now-start.result (g.C.Clock.seen c.now-start.new.self) c.work_all.new.crews.items c.work_all.ensures.works

pub close-requires-clause-out : goal.close-requires-clause-out
close-requires-clause-out g c κs within =
    ends_out g.Y.Arm.Pass.Pass.seen g.B.Book.seen g.Y.Arm.Arm.seen c.args.plan.now c.args.run.now c.in-Ok.hall.errors (g.Y.Yard.seen c.args.yard.now) (g.Y.Yard.seen c.muster-mustered.new.yard) c.args.hands.items c.muster-mustered.new.hands.items c.in-Ok.hall.crews.items c.turn-2.new.items.items c.in-Ok.hall.left.error_seats.items c.muster-mustered.new.left.error_seats.items c.muster-mustered.result
    (mustered_turned g.Y.Arm.Pass.Pass.seen g.B.Book.seen g.Y.Arm.Arm.seen c.args.plan.now c.args.run.now (g.Y.Yard.seen c.args.yard.now) (g.Y.Yard.seen c.muster-mustered.new.yard) c.args.hands.items c.turn.new.items.items c.muster-mustered.new.hands.items c.in-Ok.hall.crews.items c.muster-mustered.new.crews.items c.turn-2.new.items.items c.in-Ok.hall.left.error_seats.items c.muster-mustered.new.left.error_seats.items c.muster-mustered.result
    c.turn.ensures.turned c.turn-2.ensures.turned c.muster-mustered.ensures.taken c.in-Ok.ensures.crews.0 c.in_default-mustered.ensures.mustered) c.in-Ok.ensures.crews.0 c.in-Ok.ensures.seats.1
    c.requires.run c.requires.hands c.in_default-mustered.ensures.mustered c.in_default-mustered.is c.in-Ok.ensures.seats.0
    g.C.Clock.seen c.now-start.result (g.C.Clock.seen c.now-start.new.self) c.work_all.new.crews.items c.work_all.ensures.works

pub close-requires-clause-room : goal.close-requires-clause-room
close-requires-clause-room g c κs within =
    let many = ends_room g.Y.Arm.Pass.Pass.seen g.B.Book.seen g.Y.Arm.Arm.seen c.args.plan.now c.args.run.now c.in-Ok.hall.errors (g.Y.Yard.seen c.args.yard.now) (g.Y.Yard.seen c.muster-mustered.new.yard) c.args.hands.items c.muster-mustered.new.hands.items c.in-Ok.hall.crews.items c.turn-2.new.items.items c.in-Ok.hall.left.error_seats.items c.muster-mustered.new.left.error_seats.items c.muster-mustered.result
    (mustered_turned g.Y.Arm.Pass.Pass.seen g.B.Book.seen g.Y.Arm.Arm.seen c.args.plan.now c.args.run.now (g.Y.Yard.seen c.args.yard.now) (g.Y.Yard.seen c.muster-mustered.new.yard) c.args.hands.items c.turn.new.items.items c.muster-mustered.new.hands.items c.in-Ok.hall.crews.items c.muster-mustered.new.crews.items c.turn-2.new.items.items c.in-Ok.hall.left.error_seats.items c.muster-mustered.new.left.error_seats.items c.muster-mustered.result
    c.turn.ensures.turned c.turn-2.ensures.turned c.muster-mustered.ensures.taken c.in-Ok.ensures.crews.0 c.in_default-mustered.ensures.mustered) c.in-Ok.ensures.crews.0 c.in-Ok.ensures.seats.1
    c.requires.run c.requires.hands c.in_default-mustered.ensures.mustered c.in_default-mustered.is c.in-Ok.ensures.seats.0
    g.C.Clock.seen c.now-start.result (g.C.Clock.seen c.now-start.new.self) c.work_all.new.crews.items c.work_all.ensures.works in
    omega (arith, many, c.args.hands.ok.0, c.args.hands.ok.1, c.turn.ensures.room, c.muster-mustered.ensures.rooms.0)

pub close-requires-clause-left : goal.close-requires-clause-left
close-requires-clause-left g c κs within =
    let workers = length c.args.run.now.workers in
    let hall = c.in-Ok.hall.left in
    let rest = c.muster-mustered.new.left in
    let kept = c.muster-mustered.ensures.left in
    let made = c.in-Ok.ensures.left in
    let seat_room : workers ≤ vec_capacity rest.error_seats = omega (arith, c.in-Ok.ensures.seats.0, hall.error_seats.ok.0, hall.error_seats.ok.1, kept.2) in
    let tally_room : workers ≤ vec_capacity rest.tallies = subst (λ (v : _). workers ≤ vec_capacity v) (sym kept.0) made.2 in
    let end_room : workers ≤ vec_capacity rest.ends = subst (λ (v : _). workers ≤ vec_capacity v) (sym kept.1) made.3 in
    left_room g.Y.Arm.Pass.Pass.seen g.B.Book.seen g.Y.Arm.Arm.seen c.args.plan.now c.args.run.now c.in-Ok.hall.errors (g.Y.Yard.seen c.args.yard.now) (g.Y.Yard.seen c.muster-mustered.new.yard) c.args.hands.items c.muster-mustered.new.hands.items c.in-Ok.hall.crews.items c.turn-2.new.items.items c.in-Ok.hall.left.error_seats.items c.muster-mustered.new.left.error_seats.items c.muster-mustered.result
    (mustered_turned g.Y.Arm.Pass.Pass.seen g.B.Book.seen g.Y.Arm.Arm.seen c.args.plan.now c.args.run.now (g.Y.Yard.seen c.args.yard.now) (g.Y.Yard.seen c.muster-mustered.new.yard) c.args.hands.items c.turn.new.items.items c.muster-mustered.new.hands.items c.in-Ok.hall.crews.items c.muster-mustered.new.crews.items c.turn-2.new.items.items c.in-Ok.hall.left.error_seats.items c.muster-mustered.new.left.error_seats.items c.muster-mustered.result
    c.turn.ensures.turned c.turn-2.ensures.turned c.muster-mustered.ensures.taken c.in-Ok.ensures.crews.0 c.in_default-mustered.ensures.mustered) c.in-Ok.ensures.crews.0 c.in-Ok.ensures.seats.1
    c.requires.run c.requires.hands c.in_default-mustered.ensures.mustered c.in_default-mustered.is c.in-Ok.ensures.seats.0
    g.C.Clock.seen c.now-start.result (g.C.Clock.seen c.now-start.new.self) c.work_all.new.crews.items c.work_all.ensures.works rest refl seat_room (ap (λ (v : _). v.items) kept.0 ∙ made.0) tally_room (ap (λ (v : _). v.items) kept.1 ∙ made.1) end_room

pub close-requires-2-clause-of : goal.close-requires-2-clause-of
close-requires-2-clause-of g c =
    word_seats g.Y.Arm.Pass.Pass.seen g.B.Book.seen g.Y.Arm.Arm.seen c.args.plan.now c.args.run.now c.in-Ok.hall.errors (g.Y.Yard.seen c.args.yard.now) (g.Y.Yard.seen c.muster-mustered.new.yard) c.args.hands.items c.muster-mustered.new.hands.items c.in-Ok.hall.crews.items c.turn-2.new.items.items c.in-Ok.hall.left.error_seats.items c.muster-mustered.new.left.error_seats.items c.muster-mustered.result
    (mustered_turned g.Y.Arm.Pass.Pass.seen g.B.Book.seen g.Y.Arm.Arm.seen c.args.plan.now c.args.run.now (g.Y.Yard.seen c.args.yard.now) (g.Y.Yard.seen c.muster-mustered.new.yard) c.args.hands.items c.turn.new.items.items c.muster-mustered.new.hands.items c.in-Ok.hall.crews.items c.muster-mustered.new.crews.items c.turn-2.new.items.items c.in-Ok.hall.left.error_seats.items c.muster-mustered.new.left.error_seats.items c.muster-mustered.result
    c.turn.ensures.turned c.turn-2.ensures.turned c.muster-mustered.ensures.taken c.in-Ok.ensures.crews.0 c.in_default-mustered.ensures.mustered) c.in-Ok.ensures.crews.0 c.in-Ok.ensures.seats.1
    c.requires.run c.requires.hands c.in_default-mustered.ensures.mustered c.in_default-mustered.is c.in-Ok.ensures.seats.0
    g.C.Clock.seen c.now-start.result (g.C.Clock.seen c.now-start.new.self) c.work_all.new.crews.items c.work_all.ensures.works c.muster-mustered.new.left c.close.new.left refl c.close.ensures.left

pub close-requires-2-clause-all : goal.close-requires-2-clause-all
close-requires-2-clause-all g c =
    word_many g.Y.Arm.Pass.Pass.seen g.B.Book.seen g.Y.Arm.Arm.seen c.args.plan.now c.args.run.now c.in-Ok.hall.errors (g.Y.Yard.seen c.args.yard.now) (g.Y.Yard.seen c.muster-mustered.new.yard) c.args.hands.items c.muster-mustered.new.hands.items c.in-Ok.hall.crews.items c.turn-2.new.items.items c.in-Ok.hall.left.error_seats.items c.muster-mustered.new.left.error_seats.items c.muster-mustered.result
    (mustered_turned g.Y.Arm.Pass.Pass.seen g.B.Book.seen g.Y.Arm.Arm.seen c.args.plan.now c.args.run.now (g.Y.Yard.seen c.args.yard.now) (g.Y.Yard.seen c.muster-mustered.new.yard) c.args.hands.items c.turn.new.items.items c.muster-mustered.new.hands.items c.in-Ok.hall.crews.items c.muster-mustered.new.crews.items c.turn-2.new.items.items c.in-Ok.hall.left.error_seats.items c.muster-mustered.new.left.error_seats.items c.muster-mustered.result
    c.turn.ensures.turned c.turn-2.ensures.turned c.muster-mustered.ensures.taken c.in-Ok.ensures.crews.0 c.in_default-mustered.ensures.mustered) c.in-Ok.ensures.crews.0 c.in-Ok.ensures.seats.1
    c.requires.run c.requires.hands c.in_default-mustered.ensures.mustered c.in_default-mustered.is c.in-Ok.ensures.seats.0
    g.C.Clock.seen c.now-start.result (g.C.Clock.seen c.now-start.new.self) c.work_all.new.crews.items c.work_all.ensures.works c.muster-mustered.new.left c.close.new.left refl c.close.ensures.left ∙ sym c.in-Ok.ensures.errors.1

pub returns-clause-ran : goal.returns-clause-ran
returns-clause-ran g c =
    let kept = c.muster-mustered.ensures.left in
    let made = c.in-Ok.ensures.left in
    did_run g.Y.Arm.Pass.Pass.seen g.B.Book.seen g.Y.Arm.Arm.seen c.args.plan.now c.args.run.now c.in-Ok.hall.errors (g.Y.Yard.seen c.args.yard.now) (g.Y.Yard.seen c.muster-mustered.new.yard) c.args.hands.items c.muster-mustered.new.hands.items c.in-Ok.hall.crews.items c.turn-2.new.items.items c.in-Ok.hall.left.error_seats.items c.muster-mustered.new.left.error_seats.items c.muster-mustered.result
    (mustered_turned g.Y.Arm.Pass.Pass.seen g.B.Book.seen g.Y.Arm.Arm.seen c.args.plan.now c.args.run.now (g.Y.Yard.seen c.args.yard.now) (g.Y.Yard.seen c.muster-mustered.new.yard) c.args.hands.items c.turn.new.items.items c.muster-mustered.new.hands.items c.in-Ok.hall.crews.items c.muster-mustered.new.crews.items c.turn-2.new.items.items c.in-Ok.hall.left.error_seats.items c.muster-mustered.new.left.error_seats.items c.muster-mustered.result
    c.turn.ensures.turned c.turn-2.ensures.turned c.muster-mustered.ensures.taken c.in-Ok.ensures.crews.0 c.in_default-mustered.ensures.mustered) c.in-Ok.ensures.crews.0 c.in-Ok.ensures.seats.1
    c.requires.run c.requires.hands c.in_default-mustered.ensures.mustered c.in_default-mustered.is c.in-Ok.ensures.seats.0
    g.C.Clock.seen c.now-start.result (g.C.Clock.seen c.now-start.new.self) c.work_all.new.crews.items c.work_all.ensures.works c.muster-mustered.new.left c.close.new.left refl c.close.ensures.left
    c.args.errors_before (g.Y.Yard.seen c.close.new.yard) (g.C.Clock.seen c.args.clock.now) _ c.in_default-mustered.ensures.counts c.now-start.ensures.looked c.in-Ok.ensures.errors.0 (ap (λ (v : _). v.items) kept.0 ∙ made.0) (ap (λ (v : _). v.items) kept.1 ∙ made.1)
    c.close.ensures.back c.close.ensures.arms refl refl c.close-2.ensures.sum c.close-2.ensures.last

pub returns-in-Err-clause-named : goal.returns-in-Err-clause-named
returns-in-Err-clause-named g c =
    subst (λ (r : Result (Unit {0}) RunFault). NamesStoreIn c.args.run.now r) (sym c.not_run-in-Err.ensures.why) c.in-Err.ensures.named
