use Rattle.std.specs.Prelude.{◌≡◌, ◌<◌, ◌+◌, ◌*◌, ℕ, length, slice_index_or}
use Rattle.interleave_core.specs.Fits.{Settles}
use Rattle.interleave_core.specs.Journal.{entry_in}
use Rattle.interleave_core.proofs.journal.settle_all.Given as goal

abbrev pub invariant-loop-block : goal.invariant-loop-block
invariant-loop-block l = record {
  size : length l.base ≡ length l.fn.base;
  each : (b : ℕ) → b < l.block → Settles (λ s. slice_index_or l.keys (b * l.sectors + s) 0) l.sectors (entry_in l.current b) (entry_in l.base b);
}
