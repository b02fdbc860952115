use Rattle.std.specs.Prelude.{◌<◌, ◌+◌, ℕ, slice_index_or}
use Rattle.interleave_core.specs.Fits.{Fits}
use Rattle.interleave_core.proofs.entries.all_fit.Given as goal

abbrev pub invariant-loop-s : goal.invariant-loop-s
invariant-loop-s l = (t : ℕ) → t < l.s → Fits l.entry (slice_index_or l.keys (l.from + t) 0)
