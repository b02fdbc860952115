use Rattle.std.proofs.Common.{◌≤◌, ◌∙◌, ◌++◌, refl, sym, ap, subst, arith, [], cond, length, take, Option, IfSome, ◌==◌}
use Rattle.vd_base.specs.declared.geometry.BlockNo.{BlockNo}
use Rattle.claim_table.specs.Seats.{view_of}
use Rattle.claim_table.specs.declared.view.View.{View}
use Rattle.key_state.specs.declared.fault.BookFault.{BookFault}
use Rattle.worker_tally.specs.Dones.{ended_put, has_called}
use Rattle.worker_tally.specs.declared.done.Done.{Done}
use Rattle.seat_ops.specs.Holds.{falling}
use Rattle.slave_worker.specs.Dids.{done_of, fault_found, first_fault}
use Rattle.slave_worker.specs.Looks.{corrupt_run, started}
use Rattle.slave_worker.specs.Standings.{Changed, WasAnswered}
use Rattle.slave_worker.proofs.Holdings.{called_same, clock_twice, did_held, has_called_same, held_all, held_answered, held_findings, held_gave, held_room, held_tally, held_view, none_found, operated_of, released_view, reported_of, reports_of, started_so}
use Rattle.slave_worker.proofs.Stills.{timed_still}
use Rattle.slave_worker.proofs.turning.hold.Goals as goal

pub operate-operated-requires-clause-clean : goal.operate-operated-requires-clause-clean
operate-operated-requires-clause-clean g c κs within = λ first entries. none_found 64 first entries

pub keep_fault-requires : goal.keep_fault-requires
keep_fault-requires g c =
    let op = operated_of c.args.rules.now c.args.store.now c.args.turn.now c.args.held.entries.items c.operate-operated.result.first c.operate-operated.result.again c.operate-operated.result.put c.operate-operated.result.fault (view_of c.args.seat.now) (view_of c.operate-operated.new.seat) c.args.held.first (λ (b : BlockNo). corrupt_run b.0 c.operate-operated.result.held.entries.items c.operate-operated.new.verdicts) c.requires.turn.0 c.requires.turn.1 c.operate-operated.ensures.follows c.operate-operated.ensures.changed c.operate-operated.ensures.corrupt c.operate-operated.ensures.found c.operate-operated.ensures.refused c.operate-operated.ensures.fault c.operate-operated.ensures.goes_on in
    let block_is = c.operate-operated.ensures.first ∙ c.requires.turn.0 in
    let rep = reported_of c.args.turn.now c.report_corrupt-held.result.1 c.report_corrupt-held.result.2 (view_of c.operate-operated.new.seat) (view_of c.report_corrupt-held.new.seat) c.operate-operated.result.held.first (λ (b : BlockNo). corrupt_run b.0 c.operate-operated.result.held.entries.items c.operate-operated.new.verdicts) block_is c.report_corrupt-held.ensures.many c.report_corrupt-held.ensures.changed c.report_corrupt-held.ensures.none c.report_corrupt-held.ensures.fault c.report_corrupt-held.ensures.some c.report_corrupt-held.ensures.goes_on in
    let made : Done = record {
      many = c.args.turn.now.many;
      read = c.args.turn.now.read;
      first = c.reporting.result;
      put = c.operate-operated.result.put;
      again = c.reporting-2.result;
      timed = c.timed-timed.result;
    } in
    let reports = reports_of c.args.rules.now c.args.store.now c.args.turn.now c.args.held.entries.items c.operate-operated.result.first c.operate-operated.result.again c.operate-operated.result.put (corrupt_run c.args.turn.now.block.0 c.operate-operated.result.held.entries.items c.operate-operated.new.verdicts) c.report_corrupt-held.result.1 c.operate-operated.result.fault c.report_corrupt-held.result.2 (view_of c.args.seat.now) (view_of c.operate-operated.new.seat) (view_of c.report_corrupt-held.new.seat) made op rep c.reporting.ensures refl c.reporting-2.ensures in
    let all = held_all c.args.rules.now c.args.store.now c.args.turn.now c.args.held.entries.items c.operate-operated.result.first c.operate-operated.result.again c.operate-operated.result.put (corrupt_run c.args.turn.now.block.0 c.operate-operated.result.held.entries.items c.operate-operated.new.verdicts) c.report_corrupt-held.result.1 c.operate-operated.result.fault c.report_corrupt-held.result.2 (view_of c.args.seat.now) (view_of c.operate-operated.new.seat) (view_of c.report_corrupt-held.new.seat) made op rep reports refl refl in
    let few : c.args.turn.now.many ≤ 64 = omega (arith, c.requires.turn.1, c.args.held.few, c.args.held.entries.ok.0) in
    held_room (λ (b : BlockNo). corrupt_run b.0 c.operate-operated.result.held.entries.items c.operate-operated.new.verdicts) c.operate-operated.result.held.first c.args.turn.now.block c.report_corrupt-held.result.1 c.args.turn.now.block.0 c.args.rules.now c.args.held.entries.items made c.args.tally.now c.report_corrupt-held.new.tally block_is c.report_corrupt-held.ensures.tally all.follows all.as_many few c.requires.room

pub release_run-room-requires-clause-newest : goal.release_run-room-requires-clause-newest
release_run-room-requires-clause-newest g c κs within =
    let has = c.report_corrupt-held.ensures.has c.args.store.now c.operate-operated.ensures.has in
    ([], has.holds.held)

pub release_run-room-requires-clause-fits : goal.release_run-room-requires-clause-fits
release_run-room-requires-clause-fits g c κs within =
    let has = c.report_corrupt-held.ensures.has c.args.store.now c.operate-operated.ensures.has in
    has.passes

pub returns-clause-free : goal.returns-clause-free
returns-clause-free g c =
    let has = c.report_corrupt-held.ensures.has c.args.store.now c.operate-operated.ensures.has in
    let gone = c.release_run-room.ensures.gone [] has.holds.held in
    (ap (λ (v : View). v.held) gone, ap (λ (v : View). v.loan) gone ∙ has.holds.loan)

pub returns-clause-did : goal.returns-clause-did
returns-clause-did g c =
    let op = operated_of c.args.rules.now c.args.store.now c.args.turn.now c.args.held.entries.items c.operate-operated.result.first c.operate-operated.result.again c.operate-operated.result.put c.operate-operated.result.fault (view_of c.args.seat.now) (view_of c.operate-operated.new.seat) c.args.held.first (λ (b : BlockNo). corrupt_run b.0 c.operate-operated.result.held.entries.items c.operate-operated.new.verdicts) c.requires.turn.0 c.requires.turn.1 c.operate-operated.ensures.follows c.operate-operated.ensures.changed c.operate-operated.ensures.corrupt c.operate-operated.ensures.found c.operate-operated.ensures.refused c.operate-operated.ensures.fault c.operate-operated.ensures.goes_on in
    let block_is = c.operate-operated.ensures.first ∙ c.requires.turn.0 in
    let rep = reported_of c.args.turn.now c.report_corrupt-held.result.1 c.report_corrupt-held.result.2 (view_of c.operate-operated.new.seat) (view_of c.report_corrupt-held.new.seat) c.operate-operated.result.held.first (λ (b : BlockNo). corrupt_run b.0 c.operate-operated.result.held.entries.items c.operate-operated.new.verdicts) block_is c.report_corrupt-held.ensures.many c.report_corrupt-held.ensures.changed c.report_corrupt-held.ensures.none c.report_corrupt-held.ensures.fault c.report_corrupt-held.ensures.some c.report_corrupt-held.ensures.goes_on in
    let made : Done = record {
      many = c.args.turn.now.many;
      read = c.args.turn.now.read;
      first = c.reporting.result;
      put = c.operate-operated.result.put;
      again = c.reporting-2.result;
      timed = c.timed-timed.result;
    } in
    let reports = reports_of c.args.rules.now c.args.store.now c.args.turn.now c.args.held.entries.items c.operate-operated.result.first c.operate-operated.result.again c.operate-operated.result.put (corrupt_run c.args.turn.now.block.0 c.operate-operated.result.held.entries.items c.operate-operated.new.verdicts) c.report_corrupt-held.result.1 c.operate-operated.result.fault c.report_corrupt-held.result.2 (view_of c.args.seat.now) (view_of c.operate-operated.new.seat) (view_of c.report_corrupt-held.new.seat) made op rep c.reporting.ensures refl c.reporting-2.ensures in
    let has = c.report_corrupt-held.ensures.has c.args.store.now c.operate-operated.ensures.has in
    let gone = c.release_run-room.ensures.gone [] has.holds.held in
    let one = did_held c.args.turn.now c.args.held.entries.items made (take c.report_corrupt-held.result.1 (corrupt_run c.args.turn.now.block.0 c.operate-operated.result.held.entries.items c.operate-operated.new.verdicts)) rep.changed.1 (rep.changed.3.gave.0 ++ op.changed.2.gave.0) (first_fault c.operate-operated.result.fault c.report_corrupt-held.result.2) in (
      one,
      record { turn = refl; had = refl; refusal = refl; done = refl; fault = sym c.first_fault.ensures },
      held_all c.args.rules.now c.args.store.now c.args.turn.now c.args.held.entries.items c.operate-operated.result.first c.operate-operated.result.again c.operate-operated.result.put (corrupt_run c.args.turn.now.block.0 c.operate-operated.result.held.entries.items c.operate-operated.new.verdicts) c.report_corrupt-held.result.1 c.operate-operated.result.fault c.report_corrupt-held.result.2 (view_of c.args.seat.now) (view_of c.operate-operated.new.seat) (view_of c.report_corrupt-held.new.seat) made op rep reports refl refl,
      subst (λ (v : View). Changed (length (rep.changed.3.gave.0 ++ op.changed.2.gave.0)) (view_of c.args.seat.now) v (cond (ended_put made.put == 0) [] (falling c.args.turn.now.block.0 c.args.turn.now.many)) rep.changed.1) (sym gone)
          (released_view (length (rep.changed.3.gave.0 ++ op.changed.2.gave.0)) (view_of c.args.seat.now) (view_of c.report_corrupt-held.new.seat) (cond (ended_put made.put == 0) [] (falling c.args.turn.now.block.0 c.args.turn.now.many)) rep.changed.1 (held_view c.args.rules.now c.args.store.now c.args.turn.now c.args.held.entries.items c.operate-operated.result.first c.operate-operated.result.again c.operate-operated.result.put (corrupt_run c.args.turn.now.block.0 c.operate-operated.result.held.entries.items c.operate-operated.new.verdicts) c.report_corrupt-held.result.1 c.operate-operated.result.fault c.report_corrupt-held.result.2 (view_of c.args.seat.now) (view_of c.operate-operated.new.seat) (view_of c.report_corrupt-held.new.seat) made op rep refl)),
      ap (λ (v : View). v.gave) gone ∙ held_gave c.args.rules.now c.args.store.now c.args.turn.now c.args.held.entries.items c.operate-operated.result.first c.operate-operated.result.again c.operate-operated.result.put (corrupt_run c.args.turn.now.block.0 c.operate-operated.result.held.entries.items c.operate-operated.new.verdicts) c.report_corrupt-held.result.1 c.operate-operated.result.fault c.report_corrupt-held.result.2 (view_of c.args.seat.now) (view_of c.operate-operated.new.seat) (view_of c.report_corrupt-held.new.seat) op rep,
      held_tally (λ (b : BlockNo). corrupt_run b.0 c.operate-operated.result.held.entries.items c.operate-operated.new.verdicts) c.operate-operated.result.held.first c.args.turn.now.block c.report_corrupt-held.result.1 (fault_found c.args.turn.now.block.0 made) c.args.tally.now c.report_corrupt-held.new.tally c.keep_fault.new.tally block_is c.report_corrupt-held.ensures.tally c.keep_fault.ensures (held_findings c.args.rules.now c.args.store.now c.args.turn.now c.args.held.entries.items c.operate-operated.result.first c.operate-operated.result.again c.operate-operated.result.put (corrupt_run c.args.turn.now.block.0 c.operate-operated.result.held.entries.items c.operate-operated.new.verdicts) c.report_corrupt-held.result.1 c.operate-operated.result.fault c.report_corrupt-held.result.2 (view_of c.args.seat.now) (view_of c.operate-operated.new.seat) (view_of c.report_corrupt-held.new.seat) made c.args.tally.now op rep reports refl refl),
    )

pub returns-clause-called : goal.returns-clause-called
returns-clause-called g c =
    let op = operated_of c.args.rules.now c.args.store.now c.args.turn.now c.args.held.entries.items c.operate-operated.result.first c.operate-operated.result.again c.operate-operated.result.put c.operate-operated.result.fault (view_of c.args.seat.now) (view_of c.operate-operated.new.seat) c.args.held.first (λ (b : BlockNo). corrupt_run b.0 c.operate-operated.result.held.entries.items c.operate-operated.new.verdicts) c.requires.turn.0 c.requires.turn.1 c.operate-operated.ensures.follows c.operate-operated.ensures.changed c.operate-operated.ensures.corrupt c.operate-operated.ensures.found c.operate-operated.ensures.refused c.operate-operated.ensures.fault c.operate-operated.ensures.goes_on in
    let block_is = c.operate-operated.ensures.first ∙ c.requires.turn.0 in
    let rep = reported_of c.args.turn.now c.report_corrupt-held.result.1 c.report_corrupt-held.result.2 (view_of c.operate-operated.new.seat) (view_of c.report_corrupt-held.new.seat) c.operate-operated.result.held.first (λ (b : BlockNo). corrupt_run b.0 c.operate-operated.result.held.entries.items c.operate-operated.new.verdicts) block_is c.report_corrupt-held.ensures.many c.report_corrupt-held.ensures.changed c.report_corrupt-held.ensures.none c.report_corrupt-held.ensures.fault c.report_corrupt-held.ensures.some c.report_corrupt-held.ensures.goes_on in
    let made : Done = record {
      many = c.args.turn.now.many;
      read = c.args.turn.now.read;
      first = c.reporting.result;
      put = c.operate-operated.result.put;
      again = c.reporting-2.result;
      timed = c.timed-timed.result;
    } in
    let reports = reports_of c.args.rules.now c.args.store.now c.args.turn.now c.args.held.entries.items c.operate-operated.result.first c.operate-operated.result.again c.operate-operated.result.put (corrupt_run c.args.turn.now.block.0 c.operate-operated.result.held.entries.items c.operate-operated.new.verdicts) c.report_corrupt-held.result.1 c.operate-operated.result.fault c.report_corrupt-held.result.2 (view_of c.args.seat.now) (view_of c.operate-operated.new.seat) (view_of c.report_corrupt-held.new.seat) made op rep c.reporting.ensures refl c.reporting-2.ensures in
    called_same c.operate-operated.result.first c.operate-operated.result.again c.operate-operated.result.put c.report_corrupt-held.result.1 (length c.args.held.entries.items) made (g.A.Arm.seen c.args.arm.now) (g.A.Arm.seen c.operate-operated.new.arm) reports (sym c.requires.turn.1) c.operate-operated.ensures.called

pub returns-clause-clock : goal.returns-clause-clock
returns-clause-clock g c =
    let op = operated_of c.args.rules.now c.args.store.now c.args.turn.now c.args.held.entries.items c.operate-operated.result.first c.operate-operated.result.again c.operate-operated.result.put c.operate-operated.result.fault (view_of c.args.seat.now) (view_of c.operate-operated.new.seat) c.args.held.first (λ (b : BlockNo). corrupt_run b.0 c.operate-operated.result.held.entries.items c.operate-operated.new.verdicts) c.requires.turn.0 c.requires.turn.1 c.operate-operated.ensures.follows c.operate-operated.ensures.changed c.operate-operated.ensures.corrupt c.operate-operated.ensures.found c.operate-operated.ensures.refused c.operate-operated.ensures.fault c.operate-operated.ensures.goes_on in
    let block_is = c.operate-operated.ensures.first ∙ c.requires.turn.0 in
    let rep = reported_of c.args.turn.now c.report_corrupt-held.result.1 c.report_corrupt-held.result.2 (view_of c.operate-operated.new.seat) (view_of c.report_corrupt-held.new.seat) c.operate-operated.result.held.first (λ (b : BlockNo). corrupt_run b.0 c.operate-operated.result.held.entries.items c.operate-operated.new.verdicts) block_is c.report_corrupt-held.ensures.many c.report_corrupt-held.ensures.changed c.report_corrupt-held.ensures.none c.report_corrupt-held.ensures.fault c.report_corrupt-held.ensures.some c.report_corrupt-held.ensures.goes_on in
    let made : Done = record {
      many = c.args.turn.now.many;
      read = c.args.turn.now.read;
      first = c.reporting.result;
      put = c.operate-operated.result.put;
      again = c.reporting-2.result;
      timed = c.timed-timed.result;
    } in
    let reports = reports_of c.args.rules.now c.args.store.now c.args.turn.now c.args.held.entries.items c.operate-operated.result.first c.operate-operated.result.again c.operate-operated.result.put (corrupt_run c.args.turn.now.block.0 c.operate-operated.result.held.entries.items c.operate-operated.new.verdicts) c.report_corrupt-held.result.1 c.operate-operated.result.fault c.report_corrupt-held.result.2 (view_of c.args.seat.now) (view_of c.operate-operated.new.seat) (view_of c.report_corrupt-held.new.seat) made op rep c.reporting.ensures refl c.reporting-2.ensures in
    let same = has_called_same c.operate-operated.result.first c.operate-operated.result.again c.operate-operated.result.put c.report_corrupt-held.result.1 (length c.args.held.entries.items) c.args.turn.now.read made reports in
    clock_twice (has_called (done_of (length c.args.held.entries.items) c.args.turn.now.read c.operate-operated.result.first c.operate-operated.result.put c.operate-operated.result.again)) (has_called made) (started c.operate-operated.new.watch) (g.C.Clock.seen c.args.clock.now) (g.C.Clock.seen c.operate-operated.new.clock) (g.C.Clock.seen c.timed-timed.new.clock) same c.operate-operated.ensures.watch c.operate-operated.ensures.clock c.timed-timed.ensures.clock

pub returns-clause-time : goal.returns-clause-time
returns-clause-time g c =
    let op = operated_of c.args.rules.now c.args.store.now c.args.turn.now c.args.held.entries.items c.operate-operated.result.first c.operate-operated.result.again c.operate-operated.result.put c.operate-operated.result.fault (view_of c.args.seat.now) (view_of c.operate-operated.new.seat) c.args.held.first (λ (b : BlockNo). corrupt_run b.0 c.operate-operated.result.held.entries.items c.operate-operated.new.verdicts) c.requires.turn.0 c.requires.turn.1 c.operate-operated.ensures.follows c.operate-operated.ensures.changed c.operate-operated.ensures.corrupt c.operate-operated.ensures.found c.operate-operated.ensures.refused c.operate-operated.ensures.fault c.operate-operated.ensures.goes_on in
    let block_is = c.operate-operated.ensures.first ∙ c.requires.turn.0 in
    let rep = reported_of c.args.turn.now c.report_corrupt-held.result.1 c.report_corrupt-held.result.2 (view_of c.operate-operated.new.seat) (view_of c.report_corrupt-held.new.seat) c.operate-operated.result.held.first (λ (b : BlockNo). corrupt_run b.0 c.operate-operated.result.held.entries.items c.operate-operated.new.verdicts) block_is c.report_corrupt-held.ensures.many c.report_corrupt-held.ensures.changed c.report_corrupt-held.ensures.none c.report_corrupt-held.ensures.fault c.report_corrupt-held.ensures.some c.report_corrupt-held.ensures.goes_on in
    let made : Done = record {
      many = c.args.turn.now.many;
      read = c.args.turn.now.read;
      first = c.reporting.result;
      put = c.operate-operated.result.put;
      again = c.reporting-2.result;
      timed = c.timed-timed.result;
    } in
    let reports = reports_of c.args.rules.now c.args.store.now c.args.turn.now c.args.held.entries.items c.operate-operated.result.first c.operate-operated.result.again c.operate-operated.result.put (corrupt_run c.args.turn.now.block.0 c.operate-operated.result.held.entries.items c.operate-operated.new.verdicts) c.report_corrupt-held.result.1 c.operate-operated.result.fault c.report_corrupt-held.result.2 (view_of c.args.seat.now) (view_of c.operate-operated.new.seat) (view_of c.report_corrupt-held.new.seat) made op rep c.reporting.ensures refl c.reporting-2.ensures in
    let same = has_called_same c.operate-operated.result.first c.operate-operated.result.again c.operate-operated.result.put c.report_corrupt-held.result.1 (length c.args.held.entries.items) c.args.turn.now.read made reports in
    λ called. c.timed-timed.ensures.after (started_so (has_called (done_of (length c.args.held.entries.items) c.args.turn.now.read c.operate-operated.result.first c.operate-operated.result.put c.operate-operated.result.again)) (has_called made) (started c.operate-operated.new.watch) same c.operate-operated.ensures.watch called)

pub returns-clause-still : goal.returns-clause-still
returns-clause-still g c =
    let op = operated_of c.args.rules.now c.args.store.now c.args.turn.now c.args.held.entries.items c.operate-operated.result.first c.operate-operated.result.again c.operate-operated.result.put c.operate-operated.result.fault (view_of c.args.seat.now) (view_of c.operate-operated.new.seat) c.args.held.first (λ (b : BlockNo). corrupt_run b.0 c.operate-operated.result.held.entries.items c.operate-operated.new.verdicts) c.requires.turn.0 c.requires.turn.1 c.operate-operated.ensures.follows c.operate-operated.ensures.changed c.operate-operated.ensures.corrupt c.operate-operated.ensures.found c.operate-operated.ensures.refused c.operate-operated.ensures.fault c.operate-operated.ensures.goes_on in
    let block_is = c.operate-operated.ensures.first ∙ c.requires.turn.0 in
    let rep = reported_of c.args.turn.now c.report_corrupt-held.result.1 c.report_corrupt-held.result.2 (view_of c.operate-operated.new.seat) (view_of c.report_corrupt-held.new.seat) c.operate-operated.result.held.first (λ (b : BlockNo). corrupt_run b.0 c.operate-operated.result.held.entries.items c.operate-operated.new.verdicts) block_is c.report_corrupt-held.ensures.many c.report_corrupt-held.ensures.changed c.report_corrupt-held.ensures.none c.report_corrupt-held.ensures.fault c.report_corrupt-held.ensures.some c.report_corrupt-held.ensures.goes_on in
    let made : Done = record {
      many = c.args.turn.now.many;
      read = c.args.turn.now.read;
      first = c.reporting.result;
      put = c.operate-operated.result.put;
      again = c.reporting-2.result;
      timed = c.timed-timed.result;
    } in
    let reports = reports_of c.args.rules.now c.args.store.now c.args.turn.now c.args.held.entries.items c.operate-operated.result.first c.operate-operated.result.again c.operate-operated.result.put (corrupt_run c.args.turn.now.block.0 c.operate-operated.result.held.entries.items c.operate-operated.new.verdicts) c.report_corrupt-held.result.1 c.operate-operated.result.fault c.report_corrupt-held.result.2 (view_of c.args.seat.now) (view_of c.operate-operated.new.seat) (view_of c.report_corrupt-held.new.seat) made op rep c.reporting.ensures refl c.reporting-2.ensures in
    let same = has_called_same c.operate-operated.result.first c.operate-operated.result.again c.operate-operated.result.put c.report_corrupt-held.result.1 (length c.args.held.entries.items) c.args.turn.now.read made reports in
    timed_still made c.operate-operated.new.watch _ _ _ _ (g.C.Clock.seen c.args.clock.now) (g.C.Clock.seen c.operate-operated.new.clock) (g.C.Clock.seen c.timed-timed.new.clock) c.operate-operated.ensures.clock c.timed-timed.ensures.clock
    (λ called. started_so (has_called (done_of (length c.args.held.entries.items) c.args.turn.now.read c.operate-operated.result.first c.operate-operated.result.put c.operate-operated.result.again)) (has_called made) (started c.operate-operated.new.watch) same c.operate-operated.ensures.watch called)
    c.timed-timed.ensures.after c.timed-timed.ensures.before (λ still. c.operate-operated.ensures.at still tt)

pub returns-clause-fault : goal.returns-clause-fault
returns-clause-fault g c =
    let op = operated_of c.args.rules.now c.args.store.now c.args.turn.now c.args.held.entries.items c.operate-operated.result.first c.operate-operated.result.again c.operate-operated.result.put c.operate-operated.result.fault (view_of c.args.seat.now) (view_of c.operate-operated.new.seat) c.args.held.first (λ (b : BlockNo). corrupt_run b.0 c.operate-operated.result.held.entries.items c.operate-operated.new.verdicts) c.requires.turn.0 c.requires.turn.1 c.operate-operated.ensures.follows c.operate-operated.ensures.changed c.operate-operated.ensures.corrupt c.operate-operated.ensures.found c.operate-operated.ensures.refused c.operate-operated.ensures.fault c.operate-operated.ensures.goes_on in
    let block_is = c.operate-operated.ensures.first ∙ c.requires.turn.0 in
    let rep = reported_of c.args.turn.now c.report_corrupt-held.result.1 c.report_corrupt-held.result.2 (view_of c.operate-operated.new.seat) (view_of c.report_corrupt-held.new.seat) c.operate-operated.result.held.first (λ (b : BlockNo). corrupt_run b.0 c.operate-operated.result.held.entries.items c.operate-operated.new.verdicts) block_is c.report_corrupt-held.ensures.many c.report_corrupt-held.ensures.changed c.report_corrupt-held.ensures.none c.report_corrupt-held.ensures.fault c.report_corrupt-held.ensures.some c.report_corrupt-held.ensures.goes_on in
    let made : Done = record {
      many = c.args.turn.now.many;
      read = c.args.turn.now.read;
      first = c.reporting.result;
      put = c.operate-operated.result.put;
      again = c.reporting-2.result;
      timed = c.timed-timed.result;
    } in
    let reports = reports_of c.args.rules.now c.args.store.now c.args.turn.now c.args.held.entries.items c.operate-operated.result.first c.operate-operated.result.again c.operate-operated.result.put (corrupt_run c.args.turn.now.block.0 c.operate-operated.result.held.entries.items c.operate-operated.new.verdicts) c.report_corrupt-held.result.1 c.operate-operated.result.fault c.report_corrupt-held.result.2 (view_of c.args.seat.now) (view_of c.operate-operated.new.seat) (view_of c.report_corrupt-held.new.seat) made op rep c.reporting.ensures refl c.reporting-2.ensures in
    let has = c.report_corrupt-held.ensures.has c.args.store.now c.operate-operated.ensures.has in
    let gone = c.release_run-room.ensures.gone [] has.holds.held in
    let answered = held_answered c.args.rules.now c.args.store.now c.args.turn.now c.args.held.entries.items c.operate-operated.result.first c.operate-operated.result.again c.operate-operated.result.put (corrupt_run c.args.turn.now.block.0 c.operate-operated.result.held.entries.items c.operate-operated.new.verdicts) c.report_corrupt-held.result.1 c.operate-operated.result.fault c.report_corrupt-held.result.2 (view_of c.args.seat.now) (view_of c.operate-operated.new.seat) (view_of c.report_corrupt-held.new.seat) op rep in
    subst (λ (f : Option BookFault). IfSome f (λ fault. WasAnswered (view_of c.release_run-room.new.seat) fault)) (sym c.first_fault.ensures)
    (subst (λ (v : View). IfSome (first_fault c.operate-operated.result.fault c.report_corrupt-held.result.2) (λ fault. WasAnswered v fault)) (sym gone) answered)
