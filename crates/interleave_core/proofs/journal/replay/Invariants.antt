use Rattle.std.specs.Prelude.{◌≡◌, ◌<◌, ℕ, take, length}
use Rattle.key_state.specs.Entries.{state}
use Rattle.interleave_core.specs.Journal.{entry_in}
use Rattle.interleave_core.proofs.journal.replay.Given as goal

abbrev pub invariant-loop-made : goal.invariant-loop-made
invariant-loop-made l = record {
  size : length l.current ≡ length l.base;
  each : (b : ℕ) → b < length l.base → entry_in l.current b ≡ state l.base (take l.made-index l.records) b;
}
