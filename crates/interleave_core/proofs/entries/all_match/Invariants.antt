use Rattle.std.specs.Prelude.{◌<◌, ◌+◌, ℕ, slice_index_or}
use Rattle.interleave_core.specs.Fits.{Matches}
use Rattle.interleave_core.proofs.entries.all_match.Given as goal

abbrev pub invariant-loop-s : goal.invariant-loop-s
invariant-loop-s l = (t : ℕ) → t < l.s → Matches (slice_index_or l.keys (l.from + t) 0) l.key
