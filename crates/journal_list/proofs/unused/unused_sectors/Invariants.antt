use Rattle.std.proofs.Common.{◌≡◌, ◌≤◌, ◌+◌, ◌/◌, length}
use Rattle.vd_disk.specs.Disk.{WhenTold}
use Rattle.journal_layout.specs.Recovery.{Sectors, log_start}
use Rattle.journal_list.specs.Lists.{AreThose, IsHeaded}
use Rattle.journal_list.proofs.unused.unused_sectors.Given as goal

abbrev pub invariant-loop-place : goal.invariant-loop-place
invariant-loop-place g l = record {
  seen : g.D.Disk.seen l.disk ≡ g.D.Disk.seen l.initial.disk;
  from : (l.records + 29) / 30 ≤ l.place;
  few : length l.unused.items ≤ l.place;
  those : WhenTold (g.D.Disk.seen l.initial.disk).told
      (λ (sectors : Sectors). AreThose (IsHeaded sectors l.live) (log_start l.live + (l.records + 29) / 30) (log_start l.live + l.place) l.unused.items);
}
