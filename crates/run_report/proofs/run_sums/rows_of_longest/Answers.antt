use Rattle.std.proofs.Common.{arith, ◌≡◌, ◌∙◌, ◌+◌, ap, length, take}
use Rattle.std.proofs.lemmas.List.{take_all}
use Rattle.run_report.specs.Runs.{most_rows}
use Rattle.run_report.proofs.RunSums.{most_more}
use Rattle.run_report.proofs.run_sums.rows_of_longest.Goals as goal
use Rattle.run_report.proofs.run_sums.rows_of_longest.Goals.{then-most-many, else-most-many}

pub loop-tally-preserved : goal.loop-tally-preserved
loop-tally-preserved c =
    let more = most_more c.loop-tally.tally-index c.args.tallies.now c.tally-item.result c.loop-tally-test.true c.tally-item.is in
    let many : length c.rows-many.result.now ≡ length c.tally-item.result.rows = ap length c.rows-many.ensures in
    let before : c.loop-tally.most ≡ most_rows (take c.loop-tally.tally-index c.args.tallies.now) = c.loop-tally.invariant in
    let after : c.if-most-many.most ≡ most_rows (take (c.loop-tally.tally-index + 1) c.args.tallies.now)
    = elim c.if-most-many.branch [ then-most-many w ↦ omega (arith, more, many, before) | else-most-many w ↦ omega (arith, more, many, before) ] in
    after

pub returns : goal.returns
returns c = c.loop-tally.invariant ∙ ap most_rows (take_all c.loop-tally.tally-index c.args.tallies.now c.loop-tally-test.false)
