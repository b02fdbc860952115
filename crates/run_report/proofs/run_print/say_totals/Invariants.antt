use Rattle.std.proofs.Common.{take, length}
use Rattle.std.specs.List.{flat_map, range_with_len, zip}
use Rattle.run_report.specs.Runs.{store_total_text}
use Rattle.run_report.specs.Says.{Says, printing}
use Rattle.run_report.proofs.run_print.say_totals.Given as goal

-- what stands before the store was printed
abbrev pub invariant-loop-place : goal.invariant-loop-place
invariant-loop-place g l = Says (printing l.fn.printer.failed (g.S.Sink.taken l.fn.out) (g.S.Sink.faults l.fn.out)) (printing l.printer.failed (g.S.Sink.taken l.out) (g.S.Sink.faults l.out)) (flat_map (store_total_text l.stores (zip l.workers l.tallies)) (take l.place (range_with_len 0 (length l.stores))))
