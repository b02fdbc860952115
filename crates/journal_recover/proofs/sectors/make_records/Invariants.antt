use Rattle.std.proofs.Common.{◌≡◌, length}
use Rattle.key_state.specs.Entries.{AreEntries}
use Rattle.journal_layout.specs.Recovery.{blocks_of}
use Rattle.journal_recover.specs.Logs.{AddsUpTo}
use Rattle.journal_recover.proofs.sectors.make_records.Given as goal

abbrev pub invariant-loop-j : goal.invariant-loop-j
invariant-loop-j g l = record {
  valid : AreEntries l.entries;
  one_each : length l.entries ≡ blocks_of l.live;
  adds : AddsUpTo l.live l.place l.initial.entries l.sector l.j l.entries (g.S.RecordSink.kept l.initial.sink) (g.S.RecordSink.kept l.sink);
}
