use Rattle.std.proofs.Common.{◌≡◌}
use Rattle.vd_disk.specs.Disk.{WhenTold}
use Rattle.journal_core.specs.Changes.{Changed}
use Rattle.journal_core.specs.Writes.{IsZeroIn, ReadsZero}
use Rattle.journal_core.proofs.device.zero_between.Given as goal

abbrev pub invariant-loop-at : goal.invariant-loop-at
invariant-loop-at g l = record {
  changed : Changed (IsZeroIn l.from l.to) (g.D.Disk.seen l.initial.disk) (g.D.Disk.seen l.disk);
  faults : (g.D.Disk.seen l.disk).faults ≡ (g.D.Disk.seen l.initial.disk).faults;
  zeros : WhenTold (g.D.Disk.seen l.disk).told (ReadsZero l.from l.at);
}
