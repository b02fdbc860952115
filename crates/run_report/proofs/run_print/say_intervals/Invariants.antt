use Rattle.std.proofs.Common.{take}
use Rattle.std.specs.List.{flat_map, range_with_len}
use Rattle.run_report.specs.Runs.{interval_text, most_rows}
use Rattle.run_report.specs.Says.{Says, printing}
use Rattle.run_report.proofs.run_print.say_intervals.Given as goal

-- what stands before the interval was printed
abbrev pub invariant-loop-place : goal.invariant-loop-place
invariant-loop-place g l = Says (printing l.fn.printer.failed (g.S.Sink.taken l.fn.out) (g.S.Sink.faults l.fn.out)) (printing l.printer.failed (g.S.Sink.taken l.out) (g.S.Sink.faults l.out)) (flat_map (interval_text l.tallies) (take l.place (range_with_len 0 (most_rows l.tallies))))
