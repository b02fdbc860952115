use Rattle.std.proofs.Common.{◌≡◌, ◌≤◌, ◌-◌, List, length, take, map, true, IsTrue}
use Rattle.recover_run.specs.declared.look.Look.{Look}
use Rattle.recover_run.specs.Looks.{AreLooks, settled_from}
use Rattle.recover_run.specs.Part.{Called}
use Rattle.run_report.specs.Says.{Says, printing}
use Rattle.still_store.specs.Verification.{counted_of, lines_of, StopsCalling}
use Rattle.still_store.proofs.verification.verify_blocks.Given as goal

abbrev pub invariant-loop-at : goal.invariant-loop-at
invariant-loop-at g l = record {
  within : l.at ≤ length l.entries;
  room : length l.room.block.items ≡ l.store.geometry.block_size;
  collects : l.room.collects ≡ l.fn.room.collects;
  done : (looks : List Look)
      × AreLooks l.store (take l.at l.entries) (take l.at (map g.A.Pass.Pass.seen l.passes)) looks
      × (l.total ≡ counted_of (take l.at l.entries) looks)
      × Called looks (g.A.Arm.seen l.fn.arm) (g.A.Arm.seen l.arm)
      × Says (printing l.fn.printer.failed (g.S.Sink.taken l.fn.out) (g.S.Sink.faults l.fn.out)) (printing l.printer.failed (g.S.Sink.taken l.out) (g.S.Sink.faults l.out))
      (lines_of l.store (take l.at l.entries) looks)
      × (IsTrue l.fn.room.collects → l.room.settled.items ≡ settled_from (take l.at l.entries) looks);
  stops : l.printer.failed ≡ true → StopsCalling l.store l.entries (map g.A.Pass.Pass.seen l.passes) (g.A.Arm.seen l.fn.arm) (g.A.Arm.seen l.arm)
      (printing l.fn.printer.failed (g.S.Sink.taken l.fn.out) (g.S.Sink.faults l.fn.out)) (printing l.printer.failed (g.S.Sink.taken l.out) (g.S.Sink.faults l.out));
}

abbrev pub decreases-loop-at : goal.decreases-loop-at
decreases-loop-at g l = length l.entries - l.at
