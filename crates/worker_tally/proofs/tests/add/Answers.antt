use Rattle.std.proofs.Common.{arith}
use Rattle.worker_tally.specs.declared.row.Intervals.{Intervals}
use Rattle.worker_tally.proofs.tests.add.Goals as goal

abbrev run : Intervals
run = record { start = 1000; length = 500; many = 4 }

pub returns-clause-turns : goal.returns-clause-turns
returns-clause-turns c =
    rw c.add.ensures (c.turns_stay_small.ensures.done c.args.turns run 4096 c.args.done.now c.args.tally.now (omega arith) c.requires.many c.requires.corrupt c.requires.turns)

pub returns-clause-rows : goal.returns-clause-rows
returns-clause-rows c =
    rw c.add.ensures (c.rows_fit.ensures run 4096 c.args.done.now c.args.tally.now (omega arith) c.requires.rows.0, c.requires.rows.1)
