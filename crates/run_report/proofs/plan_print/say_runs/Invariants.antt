use Rattle.std.proofs.Common.{take}
use Rattle.std.specs.List.{flat_map}
use Rattle.run_report.specs.Plans.{run_lines_text}
use Rattle.run_report.specs.Says.{Says, printing}
use Rattle.run_report.proofs.plan_print.say_runs.Given as goal

-- what stands before the run was printed
abbrev pub invariant-loop-run : goal.invariant-loop-run
invariant-loop-run g l = Says (printing l.fn.printer.failed (g.S.Sink.taken l.fn.out) (g.S.Sink.faults l.fn.out)) (printing l.printer.failed (g.S.Sink.taken l.out) (g.S.Sink.faults l.out)) (flat_map (run_lines_text l.stores) (take l.run-index l.runs))
