use Rattle.std.proofs.Common.{arith, ◌∙◌, ap, sym}
use Rattle.std.proofs.lemmas.List.{take_all}
use Rattle.run_report.specs.Runs.{row_sums as sums_of}
use Rattle.run_report.specs.RunSteps.{with_row}
use Rattle.run_report.proofs.RunSums.{no_rows, rows_step}
use Rattle.run_report.proofs.run_sums.row_sums.Goals as goal

pub loop-tally-init : goal.loop-tally-init
loop-tally-init c = record {
  so_far = sym (no_rows c.args.place);
  small = record { turns = omega arith; reads = omega arith; writes = omega arith; bytes = omega arith; micros = omega arith };
}

pub loop-tally-preserved : goal.loop-tally-preserved
loop-tally-preserved c = record {
  so_far = rows_step c.args.place c.loop-tally.tally-index c.args.tallies.now c.tally-item.result c.loop-tally.sums c.with-sums.result c.loop-tally-test.true c.tally-item.is c.loop-tally.invariant.so_far (c.with-sums.ensures.value ∙ ap (with_row c.loop-tally.sums) c.row_at.ensures);
  small = c.with-sums.ensures.small c.loop-tally.tally-index c.loop-tally.invariant.small;
}

pub returns : goal.returns
returns c = c.loop-tally.invariant.so_far ∙ ap (sums_of c.args.place) (take_all c.loop-tally.tally-index c.args.tallies.now c.loop-tally-test.false)
