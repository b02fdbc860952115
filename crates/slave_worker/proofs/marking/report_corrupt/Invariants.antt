use Rattle.std.proofs.Common.{◌<◌}
use Rattle.claim_table.specs.Seats.{view_of, IsSeatOf}
use Rattle.block_ops.specs.Runs.{held_run}
use Rattle.slave_worker.specs.Standings.{GaveOpen}
use Rattle.slave_worker.proofs.Markings.{Reported}
use Rattle.slave_worker.proofs.marking.report_corrupt.Given as goal

abbrev pub invariant-loop-at : goal.invariant-loop-at
invariant-loop-at g l = record {
  of : IsSeatOf l.table l.seat;
  so : Reported g.P.Pass.seen (held_run l.fn.held) l.fn.verdicts (view_of l.fn.seat) l.fn.tally l.at l.many (held_run l.run) (view_of l.seat) l.tally;
  goes_on : 0 < l.many → GaveOpen (view_of l.seat);
}
