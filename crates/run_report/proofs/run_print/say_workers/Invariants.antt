use Rattle.std.proofs.Common.{take}
use Rattle.std.specs.List.{flat_map, zip}
use Rattle.run_report.specs.Runs.{findings_text}
use Rattle.run_report.specs.Says.{Says, printing}
use Rattle.run_report.proofs.run_print.say_workers.Given as goal

-- what stands before the worker was printed
abbrev pub invariant-loop-i : goal.invariant-loop-i
invariant-loop-i g l = Says (printing l.fn.printer.failed (g.S.Sink.taken l.fn.out) (g.S.Sink.faults l.fn.out)) (printing l.printer.failed (g.S.Sink.taken l.out) (g.S.Sink.faults l.out)) (flat_map (findings_text l.stores) (take l.i (zip l.workers l.tallies)))
