use Rattle.std.proofs.Common.{take}
use Rattle.std.specs.List.{flat_map}
use Rattle.run_report.specs.Plans.{share_text}
use Rattle.run_report.specs.Says.{Says, printing}
use Rattle.run_report.proofs.plan_print.say_shares.Given as goal

-- what stands before the share was printed
abbrev pub invariant-loop-share : goal.invariant-loop-share
invariant-loop-share g l = Says (printing l.fn.printer.failed (g.S.Sink.taken l.fn.out) (g.S.Sink.faults l.fn.out)) (printing l.printer.failed (g.S.Sink.taken l.out) (g.S.Sink.faults l.out)) (flat_map (share_text l.stores) (take l.share-index l.shares))
