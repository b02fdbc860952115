use Rattle.std.specs.Prelude.{◌≢◌, ◌<◌, ℕ, slice_index_or}
use Rattle.interleave_core.specs.World.{no_hold, Lists}
use Rattle.interleave_core.proofs.hold.is_busy.Given as goal

abbrev pub invariant-loop-c : goal.invariant-loop-c
invariant-loop-c l = (d : ℕ) → d < l.c → d ≢ l.worker → Lists (slice_index_or l.holds d no_hold) l.block.0 → ⊥
