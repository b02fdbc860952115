use Rattle.std.proofs.Common.{ℕ, ◌+◌, ◌*◌, ◌<◌}
use Rattle.journal_layout.specs.Map.{IsEntryOf}
use Rattle.journal_core.specs.Parts.{slot_at}
use Rattle.journal_core.proofs.sector.map_of.Given as goal

abbrev pub invariant-loop-j : goal.invariant-loop-j
invariant-loop-j l = (m : ℕ) → m < l.j → IsEntryOf l.sector m (slot_at l.entries (256 * l.i + m))
