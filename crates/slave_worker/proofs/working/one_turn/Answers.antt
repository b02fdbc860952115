use Rattle.std.proofs.Common.{subst}
use Rattle.error_limit.specs.Seats.{answers_of}
use Rattle.claim_table.specs.Seats.{view_of}
use Rattle.slave_worker.specs.declared.did.Rules.{Rules}
use Rattle.slave_worker.specs.Works.{TakenAs}
use Rattle.slave_worker.proofs.working.one_turn.Goals as goal

pub returns-clause-did : goal.returns-clause-did
returns-clause-did g c =
    subst
    (λ (rules : Rules).
    TakenAs rules c.args.store.now c.args.turn.now (view_of c.args.seat.now) (view_of c.take_turn.new.seat) c.args.tally.now c.take_turn.new.tally (g.A.Arm.seen c.args.arm.now) (g.A.Arm.seen c.take_turn.new.arm) (answers_of c.args.error_seat.now) (answers_of c.take_turn.new.error_seat) (g.C.Clock.seen c.args.clock.now) (g.C.Clock.seen c.take_turn.new.clock) c.take_turn.result.1)
    c.rules_of-rules.ensures c.take_turn.ensures.did
