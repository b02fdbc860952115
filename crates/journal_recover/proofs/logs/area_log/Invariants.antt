use Rattle.std.proofs.Common.{◌≡◌, ◌*◌, length}
use Rattle.vd_disk.specs.Disk.{WhenTold}
use Rattle.key_state.specs.Entries.{AreEntries}
use Rattle.journal_layout.specs.Recovery.{Sectors, blocks_of, log_of}
use Rattle.journal_recover.specs.Sinks.{HandsMany}
use Rattle.journal_recover.proofs.LogRecords.{SoFar}
use Rattle.journal_recover.proofs.logs.area_log.Given as goal

abbrev pub invariant-loop-place : goal.invariant-loop-place
invariant-loop-place g l = record {
  seen : g.D.Disk.seen l.disk ≡ g.D.Disk.seen l.initial.disk;
  one_each : length l.entries ≡ blocks_of l.live;
  valid : AreEntries l.entries;
  counts : l.records ≡ 30 * l.place;
  handed : HandsMany (30 * l.place) (g.S.RecordSink.kept l.initial.sink) (g.S.RecordSink.kept l.sink);
  so_far : WhenTold (g.D.Disk.seen l.initial.disk).told
      (λ (sectors : Sectors). SoFar l.live l.initial.entries (log_of sectors l.live) (30 * l.place) l.entries (g.S.RecordSink.kept l.initial.sink) (g.S.RecordSink.kept l.sink));
}
