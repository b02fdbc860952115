use Rattle.std.proofs.Common.{take}
use Rattle.std.specs.List.{flat_map}
use Rattle.run_report.specs.Plans.{store_text}
use Rattle.run_report.specs.Says.{Says, printing}
use Rattle.run_report.proofs.plan_print.say_stores.Given as goal

-- what stands before the store was printed
abbrev pub invariant-loop-store : goal.invariant-loop-store
invariant-loop-store g l = Says (printing l.fn.printer.failed (g.S.Sink.taken l.fn.out) (g.S.Sink.faults l.fn.out)) (printing l.printer.failed (g.S.Sink.taken l.out) (g.S.Sink.faults l.out)) (flat_map store_text (take l.store-index l.stores))
