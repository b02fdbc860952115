use Rattle.std.proofs.Common.{◌≡◌, ◌<◌, ◌≤◌, ◌-◌, ℕ, length}
use Rattle.key_state.specs.Entries.{entry_at}
use Rattle.journal_list.proofs.window.copy_window.Given as goal

abbrev pub invariant-loop-block : goal.invariant-loop-block
invariant-loop-block l = record {
  long : length l.window ≡ length l.initial.window;
  copied : (k : ℕ) → l.low ≤ k → k < l.block → entry_at l.window (k - l.low) ≡ entry_at l.base k;
}
