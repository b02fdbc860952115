use Rattle.std.proofs.Common.{◌≡◌}
use Rattle.vd_disk.specs.Disk.{WhenTold}
use Rattle.journal_core.specs.Changes.{Changed}
use Rattle.journal_core.specs.Writes.{HasMapTo, InMap}
use Rattle.journal_core.proofs.device.write_map.Given as goal

abbrev pub invariant-loop-i : goal.invariant-loop-i
invariant-loop-i g l = record {
  changed : Changed (InMap l.live) (g.D.Disk.seen l.initial.disk) (g.D.Disk.seen l.disk);
  faults : (g.D.Disk.seen l.disk).faults ≡ (g.D.Disk.seen l.initial.disk).faults;
  has_map : WhenTold (g.D.Disk.seen l.disk).told (HasMapTo l.live l.entries l.i);
}
