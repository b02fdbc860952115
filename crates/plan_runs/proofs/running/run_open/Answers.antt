use Rattle.std.proofs.Common.{◌≡◌, ◌∙◌, refl, sym, ap, arith, ℕ, length, map}
use Rattle.std.specs.List.{range_with_len}
use Rattle.std.specs.Prelude.{filter, not}
use Rattle.std.proofs.lemmas.List.{length-map}
use Rattle.slave_worker.specs.Hands.{hand_seen, works_in}
use Rattle.run_report.specs.Says.{printing}
use Rattle.plan_hands.specs.Stores.{not_of_run, of_run, place_of}
use Rattle.plan_runs.specs.Stages.{stage}
use Rattle.plan_runs.proofs.Going.{came_back, can_print, joined_whole, moved_whole, stores_there, works_there}
use Rattle.plan_runs.proofs.Made.{answer_cause, answered, no_room, ok_here}
use Rattle.plan_runs.proofs.Parted.{are_hands, as_many, its_places, resting_places}
use Rattle.plan_runs.proofs.Returned.{all_same_back, joined_back, places_back}
use Rattle.plan_runs.proofs.running.run_open.Goals as goal

pub returns-in_default-clause-back : goal.returns-in_default-clause-back
returns-in_default-clause-back g c = all_same_back c.args.plan.now _

pub returns-in_default-clause-ran : goal.returns-in_default-clause-ran
returns-in_default-clause-ran g c = no_room g.Y.Arm.Pass.Pass.seen g.B.Book.seen c.args.plan.now c.args.run.now _

pub returns-in_default-with_capacity-clause-back : goal.returns-in_default-with_capacity-clause-back
returns-in_default-with_capacity-clause-back g c = all_same_back c.args.plan.now _

pub returns-in_default-with_capacity-clause-ran : goal.returns-in_default-with_capacity-clause-ran
returns-in_default-with_capacity-clause-ran g c = no_room g.Y.Arm.Pass.Pass.seen g.B.Book.seen c.args.plan.now c.args.run.now _

pub run_one-answer-requires-clause-hands : goal.run_one-answer-requires-clause-hands
run_one-answer-requires-clause-hands g c κs within =
    let seen = hand_seen g.Y.Arm.Pass.Pass.seen g.B.Book.seen in
    let its = moved_whole seen c.in-Ok.active.items c.part.new.active.items (of_run c.args.run.now (map seen c.args.hands.now.items)) c.in-Ok.ensures.items c.part.ensures.active in
    are_hands g.Y.Arm.Pass.Pass.seen g.B.Book.seen c.args.plan.now c.args.run.now c.part.new.active.items (map seen c.args.hands.now.items) c.requires.ready its

pub say_answer-status-requires-clause-prints : goal.say_answer-status-requires-clause-prints
say_answer-status-requires-clause-prints g c κs within =
    can_print g.Y.Arm.Pass.Pass.seen g.B.Book.seen c.args.plan.now c.args.run.now _ _ _ _ _ c.part.new.active.items c.run_one-answer.result c.findings_have_lines.ensures c.run_one-answer.result.why c.run_one-answer.ensures.ran

pub say_answer-status-requires-clause-stores : goal.say_answer-status-requires-clause-stores
say_answer-status-requires-clause-stores g c κs within =
    let seen = hand_seen g.Y.Arm.Pass.Pass.seen g.B.Book.seen in
    let its = moved_whole seen c.in-Ok.active.items c.part.new.active.items (of_run c.args.run.now (map seen c.args.hands.now.items)) c.in-Ok.ensures.items c.part.ensures.active in
    let are = are_hands g.Y.Arm.Pass.Pass.seen g.B.Book.seen c.args.plan.now c.args.run.now c.part.new.active.items (map seen c.args.hands.now.items) c.requires.ready its in
    let back = came_back g.Y.Arm.Pass.Pass.seen g.B.Book.seen c.args.plan.now c.args.run.now _ _ _ _ _ c.part.new.active.items c.run_one-answer.result c.requires.run.valid are c.run_one-answer.result.why c.run_one-answer.ensures.ran c.run_one-answer.ensures.refused in
    ok_here c.run_one-answer.result.why _ (stores_there g.Y.Arm.Pass.Pass.seen g.B.Book.seen c.args.plan.now c.args.run.now c.part.new.active.items c.run_one-answer.result.hands.items are back)

pub say_answer-status-requires-clause-named : goal.say_answer-status-requires-clause-named
say_answer-status-requires-clause-named g c κs within store is = works_there c.args.plan.now c.args.run.now c.requires.run store (c.run_one-answer.ensures.named store is)

pub overflow_cast-many : goal.overflow_cast-many
overflow_cast-many g c =
    let seen = hand_seen g.Y.Arm.Pass.Pass.seen g.B.Book.seen in
    let many = as_many c.args.plan.now (map seen c.args.hands.now.items) c.requires.ready.stores in
    let same = length-map c.args.hands.now.items seen in
    omega (arith, many, same, c.len-many.ensures, c.args.hands.now.ok.0, c.requires.run.valid.few_stores)

pub join-requires-clause-active : goal.join-requires-clause-active
join-requires-clause-active g c κs within =
    let seen = hand_seen g.Y.Arm.Pass.Pass.seen g.B.Book.seen in
    let plan = c.args.plan.now in
    let run = c.args.run.now in
    let ready = map seen c.args.hands.now.items in
    let its = moved_whole seen c.in-Ok.active.items c.part.new.active.items (of_run run ready) c.in-Ok.ensures.items c.part.ensures.active in
    let are = are_hands g.Y.Arm.Pass.Pass.seen g.B.Book.seen plan run c.part.new.active.items ready c.requires.ready its in
    let back = came_back g.Y.Arm.Pass.Pass.seen g.B.Book.seen plan run _ _ _ _ _ c.part.new.active.items c.run_one-answer.result c.requires.run.valid are c.run_one-answer.result.why c.run_one-answer.ensures.ran c.run_one-answer.ensures.refused in
    let many : length plan.stores ≡ c.len-many.result = omega (arith, as_many plan ready c.requires.ready.stores, length-map c.args.hands.now.items seen, c.len-many.ensures, c.args.hands.now.ok.0) in
    places_back plan (map seen c.part.new.active.items) (map seen c.run_one-answer.result.hands.items) back
    ∙ its_places g.Y.Arm.Pass.Pass.seen g.B.Book.seen plan run c.part.new.active.items ready c.requires.ready its ∙ ap (λ (n : ℕ). filter (works_in run) (range_with_len 0 n)) many

pub join-requires-clause-resting : goal.join-requires-clause-resting
join-requires-clause-resting g c κs within =
    let seen = hand_seen g.Y.Arm.Pass.Pass.seen g.B.Book.seen in
    let plan = c.args.plan.now in
    let run = c.args.run.now in
    let ready = map seen c.args.hands.now.items in
    let others = moved_whole seen c.in-Ok-with_capacity.resting.items c.part.new.resting.items (not_of_run run ready) c.in-Ok-with_capacity.ensures.items c.part.ensures.resting in
    let many : length plan.stores ≡ c.len-many.result = omega (arith, as_many plan ready c.requires.ready.stores, length-map c.args.hands.now.items seen, c.len-many.ensures, c.args.hands.now.ok.0) in
    ap (map place_of) others ∙ resting_places g.Y.Arm.Pass.Pass.seen g.B.Book.seen plan run ready c.requires.ready.stores ∙ ap (λ (n : ℕ). filter (λ (place : ℕ). not (works_in run place)) (range_with_len 0 n)) many

pub returns-clause-back : goal.returns-clause-back
returns-clause-back g c =
    let seen = hand_seen g.Y.Arm.Pass.Pass.seen g.B.Book.seen in
    let plan = c.args.plan.now in
    let run = c.args.run.now in
    let ready = map seen c.args.hands.now.items in
    let after = map seen c.join.new.hands.items in
    let came = map seen c.run_one-answer.result.hands.items in
    let its = moved_whole seen c.in-Ok.active.items c.part.new.active.items (of_run run ready) c.in-Ok.ensures.items c.part.ensures.active in
    let others = moved_whole seen c.in-Ok-with_capacity.resting.items c.part.new.resting.items (not_of_run run ready) c.in-Ok-with_capacity.ensures.items c.part.ensures.resting in
    let are = are_hands g.Y.Arm.Pass.Pass.seen g.B.Book.seen plan run c.part.new.active.items ready c.requires.ready its in
    let back = came_back g.Y.Arm.Pass.Pass.seen g.B.Book.seen plan run _ _ _ _ _ c.part.new.active.items c.run_one-answer.result c.requires.run.valid are c.run_one-answer.result.why c.run_one-answer.ensures.ran c.run_one-answer.ensures.refused in
    let many : c.len-many.result ≡ length plan.stores = omega (arith, as_many plan ready c.requires.ready.stores, length-map c.args.hands.now.items seen, c.len-many.ensures, c.args.hands.now.ok.0) in
    let all = c.join.ensures.joined in
    let joins = joined_whole run c.len-many.result (length plan.stores) came (map seen c.part.new.resting.items) (not_of_run run ready) (map seen c.part.new.hands.items) after all.0 many (ap (map seen) c.part.ensures.none) others all.1 all.2 in
    joined_back plan run (length plan.stores) (map seen c.part.new.active.items) came ready after its (joins.in_order ∙ sym c.requires.ready.stores.places) joins back

pub returns-clause-ran : goal.returns-clause-ran
returns-clause-ran g c =
    let seen = hand_seen g.Y.Arm.Pass.Pass.seen g.B.Book.seen in
    let plan = c.args.plan.now in
    let run = c.args.run.now in
    let ready = map seen c.args.hands.now.items in
    let after = map seen c.join.new.hands.items in
    let came = map seen c.run_one-answer.result.hands.items in
    let its = moved_whole seen c.in-Ok.active.items c.part.new.active.items (of_run run ready) c.in-Ok.ensures.items c.part.ensures.active in
    let others = moved_whole seen c.in-Ok-with_capacity.resting.items c.part.new.resting.items (not_of_run run ready) c.in-Ok-with_capacity.ensures.items c.part.ensures.resting in
    let many : c.len-many.result ≡ length plan.stores = omega (arith, as_many plan ready c.requires.ready.stores, length-map c.args.hands.now.items seen, c.len-many.ensures, c.args.hands.now.ok.0) in
    let all = c.join.ensures.joined in
    let joins = joined_whole run c.len-many.result (length plan.stores) came (map seen c.part.new.resting.items) (not_of_run run ready) (map seen c.part.new.hands.items) after all.0 many (ap (map seen) c.part.ensures.none) others all.1 all.2 in
    let first = stage ready (g.Y.Yard.seen c.args.yard.now) (g.C.Clock.seen c.args.clock.now) c.args.errors.now (printing c.args.printer.now.failed (g.S.Sink.taken c.args.out.now) (g.S.Sink.faults c.args.out.now)) in
    let last = stage after (g.Y.Yard.seen c.run_one-answer.new.yard) (g.C.Clock.seen c.run_one-answer.new.clock) c.run_one-answer.result.errors (printing c.say_answer-status.new.printer.failed (g.S.Sink.taken c.say_answer-status.new.out) (g.S.Sink.faults c.say_answer-status.new.out)) in
    answered g.Y.Arm.Pass.Pass.seen g.B.Book.seen plan run first last c.part.new.active.items c.run_one-answer.result its (joins.in_order ∙ sym c.requires.ready.stores.places) joins refl
    c.run_one-answer.result.why c.say_answer-status.result c.run_one-answer.ensures.ran c.run_one-answer.ensures.refused c.run_one-answer.ensures.cause c.run_one-answer.ensures.named c.say_answer-status.ensures.ran c.say_answer-status.ensures.refused

pub returns-clause-cause : goal.returns-clause-cause
returns-clause-cause g c =
    answer_cause g.Y.Arm.Pass.Pass.seen g.B.Book.seen c.args.plan.now c.args.run.now _ _ c.run_one-answer.result c.run_one-answer.result.why c.say_answer-status.result _ _ c.run_one-answer.ensures.cause c.say_answer-status.ensures.ran c.say_answer-status.ensures.refused
