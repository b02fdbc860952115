use Rattle.std.proofs.Common.{◌≡◌, ◌+◌, length, take}
use Rattle.journal_layout.specs.Recovery.{IsSlot, Fills}
use Rattle.journal_recover.proofs.maps.push_entries.Given as goal

abbrev pub invariant-loop-j : goal.invariant-loop-j
invariant-loop-j l =
    Fills (IsSlot l.sector l.blocks) l.blocks l.first (l.first + l.j) l.entries.items × (take (length l.initial.entries.items) l.entries.items ≡ l.initial.entries.items)
