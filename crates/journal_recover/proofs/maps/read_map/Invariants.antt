use Rattle.std.proofs.Common.{◌≡◌, ◌*◌, length, min}
use Rattle.vd_disk.specs.Disk.{WhenTold}
use Rattle.key_state.specs.Entries.{AreEntries}
use Rattle.journal_layout.specs.Recovery.{Sectors, IsMapSlot, Fills}
use Rattle.journal_recover.proofs.maps.read_map.Given as goal

abbrev pub invariant-loop-i : goal.invariant-loop-i
invariant-loop-i g l = record {
  seen : g.D.Disk.seen l.disk ≡ g.D.Disk.seen l.initial.disk;
  so_far : length l.entries.items ≡ min (256 * l.i) l.blocks;
  valid : AreEntries l.entries.items;
  filled : WhenTold (g.D.Disk.seen l.initial.disk).told (λ (sectors : Sectors). Fills (IsMapSlot sectors l.at l.blocks) l.blocks 0 (256 * l.i) l.entries.items);
}
