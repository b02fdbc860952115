use Rattle.std.proofs.Common.{◌≡◌, take}
use Rattle.run_report.specs.Runs.{most_rows}
use Rattle.run_report.proofs.run_sums.rows_of_longest.Given as goal

abbrev pub invariant-loop-tally : goal.invariant-loop-tally
invariant-loop-tally l = l.most ≡ most_rows (take l.tally-index l.tallies)
