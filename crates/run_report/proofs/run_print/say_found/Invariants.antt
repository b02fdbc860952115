use Rattle.std.proofs.Common.{take}
use Rattle.std.specs.List.{flat_map}
use Rattle.run_report.specs.Findings.{finding_text}
use Rattle.run_report.specs.Says.{Says, printing}
use Rattle.run_report.proofs.run_print.say_found.Given as goal

-- what stands before the finding was printed
abbrev pub invariant-loop-finding : goal.invariant-loop-finding
invariant-loop-finding g l = Says (printing l.fn.printer.failed (g.S.Sink.taken l.fn.out) (g.S.Sink.faults l.fn.out)) (printing l.printer.failed (g.S.Sink.taken l.out) (g.S.Sink.faults l.out)) (flat_map (finding_text l.store) (take l.finding-index (l.findings)))
