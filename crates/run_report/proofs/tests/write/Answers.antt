use Rattle.std.proofs.Common.{arith, false}
use Rattle.worker_tally.specs.declared.done.Done.{Done}
use Rattle.worker_tally.specs.declared.done.Look.TheVariants as look
use Rattle.worker_tally.specs.declared.done.Put.TheVariants as put
use Rattle.worker_tally.specs.declared.row.Intervals.{Intervals}
use Rattle.run_report.proofs.tests.write.Goals as goal

abbrev run : Intervals
run = record { start = 0; length = 1000000; many = 1 }

abbrev one_write : Done
one_write = record { many = 1; read = false; first = look.Skipped; put = put.Ended; again = look.Skipped; timed = record { before = 0; after = 0 } }

pub returns-clause-turns : goal.returns-clause-turns
returns-clause-turns c = rw c.add.ensures (c.turns_stay_small.ensures.done c.args.turns run 4096 one_write c.args.tally.now (omega arith) (omega arith) (omega arith) c.requires.turns)

pub returns-clause-rows : goal.returns-clause-rows
returns-clause-rows c = rw c.add.ensures (c.rows_fit.ensures run 4096 one_write c.args.tally.now (omega arith) c.requires.rows.0, c.requires.rows.1)
