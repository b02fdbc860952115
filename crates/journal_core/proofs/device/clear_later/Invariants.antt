use Rattle.std.proofs.Common.{◌≡◌}
use Rattle.vd_disk.specs.Disk.{WhenTold}
use Rattle.journal_core.specs.Changes.{Changed}
use Rattle.journal_core.specs.Writes.{ClearsLog, HasNoLater}
use Rattle.journal_core.proofs.device.clear_later.Given as goal

abbrev pub invariant-loop-place : goal.invariant-loop-place
invariant-loop-place g l = record {
  changed : Changed (ClearsLog l.live l.epoch (g.D.Disk.seen l.initial.disk).told) (g.D.Disk.seen l.initial.disk) (g.D.Disk.seen l.disk);
  faults : (g.D.Disk.seen l.disk).faults ≡ (g.D.Disk.seen l.initial.disk).faults;
  cleared : WhenTold (g.D.Disk.seen l.disk).told (HasNoLater l.live l.epoch l.place);
}
