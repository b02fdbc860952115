use Rattle.std.proofs.Common.{◌≡◌, take}
use Rattle.run_report.specs.Runs.{row_sums as sums_of}
use Rattle.run_report.specs.RunSteps.{AreRowsUpTo}
use Rattle.run_report.proofs.run_sums.row_sums.Given as goal

abbrev pub invariant-loop-tally : goal.invariant-loop-tally
invariant-loop-tally l = record {
  so_far : l.sums ≡ sums_of l.place (take l.tally-index l.tallies);
  small : AreRowsUpTo l.tally-index l.sums;
}
