use Rattle.std.proofs.Common.{ap, map}
use Rattle.slave_worker.specs.Hands.{hand_seen}
use Rattle.plan_runs.proofs.Made.{ok_here, said_along}
use Rattle.plan_runs.proofs.running.say_answer.Goals as goal

pub returns-in-Ok-clause-ran : goal.returns-in-Ok-clause-ran
returns-in-Ok-clause-ran g c =
    let seen = hand_seen g.P.Pass.seen g.B.Book.seen in
    ok_here c.args.answer.now.why _
    (said_along c.args.run.now _ _ _ _ _ _ _ _ c.say_ran.result _ _ c.as_slice.ensures c.as_slice-in-Ok.ensures.value c.as_slice-in-Ok-2.ensures.value (ap (map seen) c.as_slice-in-Ok-3.ensures.value) c.say_ran.ensures)
