use Rattle.std.proofs.Common.{◌≡◌, take}
use Rattle.std.specs.List.{zip}
use Rattle.run_report.specs.Runs.{group_totals}
use Rattle.run_report.specs.RunSteps.{AreTotalsUpTo}
use Rattle.run_report.proofs.run_sums.totals_of.Given as goal

abbrev pub invariant-loop-i : goal.invariant-loop-i
invariant-loop-i l = record {
  so_far : l.totals ≡ group_totals l.group (take l.i (zip l.workers l.tallies));
  small : AreTotalsUpTo l.i l.totals;
}
