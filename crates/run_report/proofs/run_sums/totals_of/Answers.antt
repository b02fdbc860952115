use Rattle.std.proofs.Common.{arith, ◌∙◌, ap, sym, length, ◌≤◌}
use Rattle.std.proofs.lemmas.List.{take_all}
use Rattle.std.specs.List.{zip}
use Rattle.run_report.specs.Runs.{group_totals}
use Rattle.run_report.proofs.RunSums.{group_step, no_totals, zip_long}
use Rattle.run_report.proofs.run_sums.totals_of.Goals as goal

pub loop-i-init : goal.loop-i-init
loop-i-init c = record {
  so_far = sym (no_totals c.args.group);
  small = record {
    workers = omega arith;
    turns = omega arith;
    reads = omega arith;
    prereads = omega arith;
    rereads = omega arith;
    writes = omega arith;
    busy = omega arith;
    badskip = omega arith;
    bytes = omega arith;
    faults = omega arith;
    corrupt = omega arith;
  };
}

pub loop-i-preserved : goal.loop-i-preserved
loop-i-preserved c = record {
  so_far = group_step c.args.group c.args.workers.now c.args.tallies.now c.loop-i.i _ c.index-tallies-i.result _ _ c.requires c.loop-i-test.true c.index-tallies-i.is c.loop-i.invariant.so_far c.counted-totals.ensures.value;
  small = c.counted-totals.ensures.small c.loop-i.i c.loop-i.invariant.small;
}

pub returns : goal.returns
returns c =
    let all : length c.args.workers.now ≤ c.loop-i.i = omega arith in
    c.loop-i.invariant.so_far ∙ ap (group_totals c.args.group) (take_all c.loop-i.i (zip c.args.workers.now c.args.tallies.now) (omega (arith, zip_long c.args.workers.now c.args.tallies.now c.requires)))
