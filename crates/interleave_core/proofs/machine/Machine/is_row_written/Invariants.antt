use Rattle.std.specs.Prelude.{◌≡◌, ◌<◌, ℕ, true}
use Rattle.interleave_core.specs.World.{is_written}
use Rattle.interleave_core.proofs.machine.Machine.is_row_written.Given as goal

abbrev pub invariant-loop-sector : goal.invariant-loop-sector
invariant-loop-sector l = (t : ℕ) → t < l.sector → is_written l.self l.block.0 t ≡ true
