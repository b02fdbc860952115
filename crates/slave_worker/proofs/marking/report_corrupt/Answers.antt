use Rattle.std.proofs.Common.{ℕ, ◌<◌, length, ap, arith, List, [], ◌∷◌, ◌+◌}
use Rattle.block_verdict.specs.declared.finding.Finding.{Finding}
use Rattle.claim_table.specs.Seats.{view_of}
use Rattle.block_ops.specs.Runs.{held_run}
use Rattle.slave_worker.proofs.Lookings.{few_found}
use Rattle.slave_worker.proofs.Markings.{IsMet, has_marked, marked_refused, met_here, not_here, refused_long, refused_made, reported_more, room_more, told_next}
use Rattle.slave_worker.proofs.Refusals.{answered_either, refuses_record}
use Rattle.slave_worker.proofs.marking.report_corrupt.Given.{Over}
use Rattle.slave_worker.proofs.marking.report_corrupt.Goals as goal
use Rattle.slave_worker.proofs.marking.report_corrupt.Goals.{In-Some}

-- the corrupt block that a turn of the loop looks at
is_corrupt : (g : Over) (c : In-Some g) → IsMet (held_run c.args.held) c.args.verdicts.now c.loop-at.at c.loop-at.many c.in-Some.finding
is_corrupt g c =
    let l = c.loop-at in
    let old = held_run c.args.held in
    let verdicts = c.args.verdicts.now in
    let inside : l.at < length old.entries = omega (arith, c.args.held.entries.ok.0) in
    let within : l.at < length verdicts = omega (arith, c.args.held.few, c.args.held.entries.ok.0) in
    met_here g.P.Pass.seen old verdicts (view_of c.args.seat.now) c.args.tally.now l.at l.many (held_run l.run) (view_of l.seat) l.tally c.index-entry.result.now c.in-Some.finding l.invariant.so inside within c.index-entry.ensures c.in-Some.ensures

pub loop-at-preserved-in_default : goal.loop-at-preserved-in_default
loop-at-preserved-in_default g c =
    let l = c.loop-at in
    let inside : l.at < length c.args.held.entries.items = omega (arith, c.args.held.entries.ok.0) in
    let within : l.at < length c.args.verdicts.now = omega (arith, c.args.held.few, c.args.held.entries.ok.0) in
    record {
      of = l.invariant.of;
      so = not_here g.P.Pass.seen (held_run c.args.held) c.args.verdicts.now (view_of c.args.seat.now) c.args.tally.now l.at l.many (held_run l.run) (view_of l.seat) l.tally c.index-entry.result.now l.invariant.so inside within c.index-entry.ensures c.in_default.ensures;
      goes_on = l.invariant.goes_on;
    }

pub push-requires : goal.push-requires
push-requires g c =
    let l = c.loop-at in
    let old = held_run c.args.held in
    let verdicts = c.args.verdicts.now in
    let met = is_corrupt g (goal.at.push-requires g c).In-Some in
    room_more old verdicts l.at l.many c.in-Some.finding c.args.tally.now l.tally met l.invariant.so.tally c.requires.room

pub overflow_add-many : goal.overflow_add-many
overflow_add-many g c =
    let old = held_run c.args.held in
    let verdicts = c.args.verdicts.now in
    let met = is_corrupt g (goal.at.overflow_add-many g c).In-Some in
    omega (arith, met.more, few_found old.first old.entries verdicts, c.args.held.few, c.args.held.entries.ok.0)

pub make_bad-requires-clause-holds : goal.make_bad-requires-clause-holds
make_bad-requires-clause-holds g c κs within = (c.loop-at.invariant.so.has c.requires.has.0 c.requires.has.1).holds

pub returns-in-Err-clause-has : goal.returns-in-Err-clause-has
returns-in-Err-clause-has g c store has =
    let l = c.loop-at in
    let u = view_of l.seat in
    let w = view_of c.make_bad.new.seat in
    let run = held_run l.run in
    let left = held_run c.in-Err.left in
    has_marked g.P.Pass.seen (held_run c.args.held) c.args.verdicts.now (view_of c.args.seat.now) c.args.tally.now l.at l.many run left u w l.tally l.invariant.so
    (refused_made u w run.first run.entries l.at left.entries c.in-Err.ensures.refused) c.in-Err.ensures.first (refused_long u w run.first run.entries l.at left.entries c.in-Err.ensures.refused) c.in-Err.ensures.holds c.in-Err.ensures.fits store has

pub returns-in-Err-clause-many : goal.returns-in-Err-clause-many
returns-in-Err-clause-many g c =
    let met = is_corrupt g (goal.at.returns-in-Err-clause-many g c).In-Some in
    met.more

pub returns-in-Err-clause-tally : goal.returns-in-Err-clause-tally
returns-in-Err-clause-tally g c =
    let l = c.loop-at in
    let old = held_run c.args.held in
    let verdicts = c.args.verdicts.now in
    let met = is_corrupt g (goal.at.returns-in-Err-clause-tally g c).In-Some in
    told_next old verdicts l.at l.many c.in-Some.finding c.args.tally.now l.tally c.push.new.self met c.push.ensures l.invariant.so.tally

pub returns-in-Err-clause-changed : goal.returns-in-Err-clause-changed
returns-in-Err-clause-changed g c =
    let l = c.loop-at in
    let old = held_run c.args.held in
    let verdicts = c.args.verdicts.now in
    let met = is_corrupt g (goal.at.returns-in-Err-clause-changed g c).In-Some in
    marked_refused g.P.Pass.seen old verdicts (view_of c.args.seat.now) c.args.tally.now l.at l.many (held_run l.run) (view_of l.seat) (view_of c.make_bad.new.seat) l.tally c.in-Some.finding c.in-Err.left.entries.items c.in-Err.fault
    l.invariant.so met c.in-Err.ensures.refused

pub returns-in-Err-clause-none : goal.returns-in-Err-clause-none
returns-in-Err-clause-none g c nothing =
    let met = is_corrupt g (goal.at.returns-in-Err-clause-none g c).In-Some in
    absurd (omega (arith, met.more, ap (λ (fs : List Finding). length fs) nothing))

pub loop-at-preserved : goal.loop-at-preserved
loop-at-preserved g c =
    let used = c.in-Ok.ensures.cause in
    let l = c.loop-at in
    let old = held_run c.args.held in
    let verdicts = c.args.verdicts.now in
    let met = is_corrupt g (goal.at.loop-at-preserved g c).In-Some in
    let used = c.in-Ok.ensures.cause in
    record {
      of = c.make_bad.ensures.of;
      so = reported_more g.P.Pass.seen old verdicts (view_of c.args.seat.now) c.args.tally.now l.at l.many (held_run l.run) (held_run c.in-Ok.marked) (view_of l.seat) (view_of c.make_bad.new.seat) l.tally c.push.new.self c.in-Some.finding
          l.invariant.so met c.push.ensures (used.1, (view_of l.seat).gave, used.3, used.4.0.2) c.in-Ok.ensures.first c.in-Ok.ensures.marked.0 c.in-Ok.ensures.marked.1 c.in-Ok.ensures.holds c.in-Ok.ensures.fits;
      goes_on = λ some. (used.1, (view_of l.seat).gave, used.3, used.4.0.2);
    }

pub returns-in-Err-clause-fault : goal.returns-in-Err-clause-fault
returns-in-Err-clause-fault g c =
    let used = c.in-Err.ensures.cause in
    let l = c.loop-at in
    answered_either (view_of l.seat) (view_of c.make_bad.new.seat) [] ((l.run.first.0 + l.at) ∷ []) _ _ c.in-Err.fault used.0 used.1 c.in-Err.ensures.refused c.in-Err.ensures.shut used.2 used.3 (refuses_record ℕ used.0 used.1 c.in-Err.fault used.4.0)
