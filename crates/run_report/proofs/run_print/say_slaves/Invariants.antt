use Rattle.std.proofs.Common.{take}
use Rattle.std.specs.List.{flat_map, range_with_len, zip}
use Rattle.run_report.specs.Runs.{slave_text}
use Rattle.run_report.specs.Says.{Says, printing}
use Rattle.run_report.proofs.run_print.say_slaves.Given as goal

-- what stands before the slave was printed
abbrev pub invariant-loop-before : goal.invariant-loop-before
invariant-loop-before g l = Says (printing l.fn.printer.failed (g.S.Sink.taken l.fn.out) (g.S.Sink.faults l.fn.out)) (printing l.printer.failed (g.S.Sink.taken l.out) (g.S.Sink.faults l.out)) (flat_map (slave_text (zip l.workers l.tallies)) (take l.before (range_with_len 1 l.slaves)))
