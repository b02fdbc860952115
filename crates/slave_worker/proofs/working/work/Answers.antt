use Rattle.std.proofs.Common.{◌≡◌, ℕ, ◌+◌, ◌*◌, ◌<◌, ◌≤◌, ◌∙◌, refl, sym, ap, subst, arith, List, [], ◌∷◌, length, nat_eq}
use Rattle.error_limit.specs.Seats.{answers_of, last_of, notes_of}
use Rattle.claim_table.specs.Seats.{view_of}
use Rattle.workload_gen.specs.Turns.{Drawing, drawn}
use Rattle.workload_gen.specs.declared.turn.Turn.{Turn}
use Rattle.slave_worker.specs.Ends.{rules_of}
use Rattle.slave_worker.specs.Standings.{AreIntervals, standing}
use Rattle.slave_worker.specs.declared.did.Rules.{Rules}
use Rattle.slave_worker.specs.declared.did.WorkEnd.TheVariants.{TimeUp, TurnsMade}
use Rattle.slave_worker.specs.Works.{HasWorked}
use Rattle.slave_worker.proofs.Going.{HasTurned, Turned, bytes_enough, ends_in_time, ends_made, ends_with, few_more, goes_on, less_than_last, none_drawn, none_turned, not_last, run_of, store_of, tally_more, turned_look}
use Rattle.slave_worker.proofs.Notings.{went_none as none_noted}
use Rattle.slave_worker.proofs.working.work.Goals as goal

pub loop-number-init : goal.loop-number-init
loop-number-init g c =
    let start = standing (view_of c.args.seat.now) c.args.tally.now (g.A.Arm.seen c.args.arm.now) (notes_of c.args.error_seat.now) (g.C.Clock.seen c.args.clock.now) in
    record {
      of = c.requires.of;
      free = c.requires.free;
      errors = c.requires.errors;
      empty = c.requires.room;
      size = refl;
      task = refl;
      drawn_so = ap (λ (d : Drawing). d.turns) c.requires.draw;
      few = λ some. omega (arith, c.requires.few_notes, ap (λ (r : Rules). r.limit) c.rules_of-rules.ensures);
      tally_on = record {
        small = c.turns_stay_small.ensures.empty c.args.tally.now c.requires.numbers c.requires.lists.0;
        intervals = subst (λ (r : Rules). AreIntervals r.intervals c.args.tally.now) (sym c.rules_of-rules.ensures) c.requires.intervals;
        findings = omega (arith, ap length c.requires.lists.1);
        room = refl;
      };
      turned = ([], refl, subst (λ (l : List Turn). Turned c.rules_of-rules.result c.args.store.now l 0 start start []) (sym (none_drawn c.args.draw.now _ c.requires.draw)) (none_turned c.rules_of-rules.result c.args.store.now start), none_noted c.rules_of-rules.result.limit (0 < c.args.run.now.turns) (answers_of c.args.error_seat.now));
    }

pub returns-then-last-rules-clause-worked : goal.returns-then-last-rules-clause-worked
returns-then-last-rules-clause-worked g c =
    let before = standing (view_of c.args.seat.now) c.args.tally.now (g.A.Arm.seen c.args.arm.now) (notes_of c.args.error_seat.now) (g.C.Clock.seen c.args.clock.now) in
    let then = standing (view_of c.loop-number.seat) c.loop-number.tally (g.A.Arm.seen c.loop-number.arm) (notes_of c.loop-number.error_seat) (g.C.Clock.seen c.loop-number.clock) in
    let after = standing (view_of c.loop-number.seat) c.loop-number.tally (g.A.Arm.seen c.loop-number.arm) (notes_of c.loop-number.error_seat) (g.C.Clock.seen c.now-last.new.self) in
    let turned = c.loop-number.invariant.turned in
    subst (λ (rules : Rules). HasWorked rules c.args.store.now c.args.run.now.turns (drawn c.loop-number.draw) before after (answers_of c.loop-number.error_seat) (TimeUp c.now-last.result)) c.rules_of-rules.ensures
    (ends_in_time c.rules_of-rules.result c.args.store.now (drawn c.loop-number.draw) c.loop-number.number c.args.run.now.turns c.now-last.result before after turned.0 (answers_of c.loop-number.error_seat) turned.1 c.loop-number-test.true
    (turned_look c.rules_of-rules.result c.args.store.now (drawn c.loop-number.draw) c.loop-number.number before then turned.0 (g.C.Clock.seen c.now-last.new.self) c.now-last.result turned.2 c.now-last.ensures.looked)
    turned.3 c.now-last.ensures.looked.last c.if-last-rules.true)

pub take_turn-left-requires-clause-size : goal.take_turn-left-requires-clause-size
take_turn-left-requires-clause-size g c κs within =
    let i = c.loop-number.invariant in
    let share = c.next-turn.ensures.share c.args.run.now c.args.worker.now c.args.store.now.geometry (i.task ∙ ap (λ (d : Drawing). d.task) c.requires.draw) in
    subst (λ (n : ℕ). c.next-turn.result.many * c.args.store.now.geometry.block_size ≤ n) (sym i.size)
    (bytes_enough c.args.run.now c.args.worker.now c.next-turn.result c.args.store.now.geometry.block_size (length c.args.buf.now) c.requires.bytes share)

pub take_turn-left-requires-clause-small : goal.take_turn-left-requires-clause-small
take_turn-left-requires-clause-small g c κs within =
    let run = run_of c.args.plan.now c.args.run.now c.args.worker.now c.args.store.now c.requires.plan in
    c.turns_stay_small.ensures.small c.loop-number.number c.loop-number.tally (omega (arith, run.turns.at_most, c.loop-number-test.true)) c.loop-number.invariant.tally_on.small

pub returns-in-Some-clause-worked : goal.returns-in-Some-clause-worked
returns-in-Some-clause-worked g c =
    let before = standing (view_of c.args.seat.now) c.args.tally.now (g.A.Arm.seen c.args.arm.now) (notes_of c.args.error_seat.now) (g.C.Clock.seen c.args.clock.now) in
    let then = standing (view_of c.loop-number.seat) c.loop-number.tally (g.A.Arm.seen c.loop-number.arm) (notes_of c.loop-number.error_seat) (g.C.Clock.seen c.loop-number.clock) in
    let middle = standing (view_of c.loop-number.seat) c.loop-number.tally (g.A.Arm.seen c.loop-number.arm) (notes_of c.loop-number.error_seat) (g.C.Clock.seen c.now-last.new.self) in
    let after = standing (view_of c.take_turn-left.new.seat) c.take_turn-left.new.tally (g.A.Arm.seen c.take_turn-left.new.arm) (notes_of c.take_turn-left.new.error_seat) (g.C.Clock.seen c.take_turn-left.new.clock) in
    let turned = c.loop-number.invariant.turned in
    let took = c.take_turn-left.ensures.did in
    let answers = answers_of c.take_turn-left.new.error_seat in
    subst (λ (l : List Turn). HasWorked (rules_of c.args.plan.now c.args.run.now c.args.worker.now c.args.start) c.args.store.now c.args.run.now.turns l before after answers c.in-Some.end) (sym c.next-turn.ensures.drawn)
    (subst (λ (rules : Rules). HasWorked rules c.args.store.now c.args.run.now.turns (c.next-turn.result ∷ drawn c.loop-number.draw) before after answers c.in-Some.end) c.rules_of-rules.ensures
    (ends_with c.rules_of-rules.result c.args.store.now (drawn c.loop-number.draw) c.next-turn.result c.loop-number.number c.args.run.now.turns before middle after took.0 turned.0 (answers_of c.loop-number.error_seat) answers c.take_turn-left.result.1 (nat_eq (c.loop-number.number + 1) c.args.run.now.turns) c.in-Some.end turned.1 c.loop-number-test.true
    (turned_look c.rules_of-rules.result c.args.store.now (drawn c.loop-number.draw) c.loop-number.number before then turned.0 (g.C.Clock.seen c.now-last.new.self) c.now-last.result turned.2 c.now-last.ensures.looked)
    turned.3
    (took.1, took.2, took.3, took.4, took.7, took.8, took.9)
    (sym c.ends_work.ensures ∙ c.in-Some.is) (not_last c.loop-number.number c.args.run.now.turns c.loop-number-test.true)))

pub loop-number-preserved : goal.loop-number-preserved
loop-number-preserved g c =
    let before = standing (view_of c.args.seat.now) c.args.tally.now (g.A.Arm.seen c.args.arm.now) (notes_of c.args.error_seat.now) (g.C.Clock.seen c.args.clock.now) in
    let then = standing (view_of c.loop-number.seat) c.loop-number.tally (g.A.Arm.seen c.loop-number.arm) (notes_of c.loop-number.error_seat) (g.C.Clock.seen c.loop-number.clock) in
    let middle = standing (view_of c.loop-number.seat) c.loop-number.tally (g.A.Arm.seen c.loop-number.arm) (notes_of c.loop-number.error_seat) (g.C.Clock.seen c.now-last.new.self) in
    let after = standing (view_of c.take_turn-left.new.seat) c.take_turn-left.new.tally (g.A.Arm.seen c.take_turn-left.new.arm) (notes_of c.take_turn-left.new.error_seat) (g.C.Clock.seen c.take_turn-left.new.clock) in
    let i = c.loop-number.invariant in
    let turned = i.turned in
    let took = c.take_turn-left.ensures.did in
    let last = last_of c.take_turn-left.new.error_seat in
    let answers = answers_of c.take_turn-left.new.error_seat in
    let ends = c.take_turn-left.ensures in
    let is_none = sym c.ends_work.ensures ∙ c.in_default.is in
    let size = store_of c.args.plan.now c.args.run.now c.args.worker.now c.args.store.now c.requires.plan in
    record {
      of = ends.of;
      free = ends.free;
      errors = ends.errors;
      empty = ends.empty;
      size = ends.size ∙ i.size;
      task = c.next-turn.ensures.task ∙ i.task;
      drawn_so = omega (arith, c.next-turn.ensures.turns, i.drawn_so);
      few = λ lt. few_more c.rules_of-rules.result took.0 (view_of c.take_turn-left.new.seat) last (notes_of c.loop-number.error_seat) (notes_of c.take_turn-left.new.error_seat) c.take_turn-left.result.1 (nat_eq (c.loop-number.number + 1) c.args.run.now.turns) is_none took.4 took.6 took.3.notes (less_than_last c.loop-number.number c.args.run.now.turns lt) (i.few c.loop-number-test.true);
      tally_on = tally_more c.rules_of-rules.result c.args.store.now took.0 c.loop-number.number (notes_of c.loop-number.error_seat) (notes_of c.take_turn-left.new.error_seat) c.args.tally.now.finding_room c.loop-number.tally c.take_turn-left.new.tally c.turns_stay_small.ensures.done c.turns_stay_small.ensures.refusal c.rows_fit.ensures size.few_bytes (subst (λ (t : Turn). t.many ≤ 64) (sym took.1) c.next-turn.ensures.many.at_most) took.2 took.3.tally took.3.notes i.tally_on;
      turned = subst (λ (l : List Turn). HasTurned c.rules_of-rules.result c.args.store.now (c.loop-number.number + 1) c.args.run.now.turns l before after answers) (sym c.next-turn.ensures.drawn)
          (goes_on c.rules_of-rules.result c.args.store.now (drawn c.loop-number.draw) c.next-turn.result c.loop-number.number c.args.run.now.turns before middle after took.0 turned.0 (answers_of c.loop-number.error_seat) answers c.take_turn-left.result.1 (nat_eq (c.loop-number.number + 1) c.args.run.now.turns) c.loop-number-test.true turned.1
          (turned_look c.rules_of-rules.result c.args.store.now (drawn c.loop-number.draw) c.loop-number.number before then turned.0 (g.C.Clock.seen c.now-last.new.self) c.now-last.result turned.2 c.now-last.ensures.looked)
          turned.3
          (took.1, took.2, took.3, took.4, took.7, took.8, took.9)
          is_none (less_than_last c.loop-number.number c.args.run.now.turns));
    }

pub returns-clause-worked : goal.returns-clause-worked
returns-clause-worked g c =
    let before = standing (view_of c.args.seat.now) c.args.tally.now (g.A.Arm.seen c.args.arm.now) (notes_of c.args.error_seat.now) (g.C.Clock.seen c.args.clock.now) in
    let after = standing (view_of c.loop-number.seat) c.loop-number.tally (g.A.Arm.seen c.loop-number.arm) (notes_of c.loop-number.error_seat) (g.C.Clock.seen c.loop-number.clock) in
    let turned = c.loop-number.invariant.turned in
    let all : c.loop-number.number ≡ c.args.run.now.turns = omega arith in
    let turned_all = subst (λ (n : ℕ). Turned c.rules_of-rules.result c.args.store.now (drawn c.loop-number.draw) n before after turned.0) all turned.2 in
    subst (λ (rules : Rules). HasWorked rules c.args.store.now c.args.run.now.turns (drawn c.loop-number.draw) before after (answers_of c.loop-number.error_seat) TurnsMade) c.rules_of-rules.ensures
    (ends_made c.rules_of-rules.result c.args.store.now (drawn c.loop-number.draw) c.args.run.now.turns before after turned.0 (answers_of c.loop-number.error_seat) (c.loop-number.number < c.args.run.now.turns) (turned.1 ∙ all) turned_all turned.3)
