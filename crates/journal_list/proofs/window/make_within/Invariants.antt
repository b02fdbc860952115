use Rattle.std.proofs.Common.{◌≡◌, ◌<◌, ◌≤◌, ◌-◌, ℕ, length}
use Rattle.key_state.specs.Entries.{Takes, entry_at, first_of}
use Rattle.journal_list.proofs.window.make_within.Given as goal

abbrev pub invariant-loop-block : goal.invariant-loop-block
invariant-loop-block l = record {
  long : length l.window ≡ length l.initial.window;
  from : l.low ≤ l.block;
  last : (k : ℕ) → l.low ≤ k → first_of l.made ≤ k → l.end ≤ k → l.block ≤ k;
  first : first_of l.made ≤ l.block;
  stepped : (k : ℕ) → first_of l.made ≤ k → l.low ≤ k → k < l.block → Takes l.made (entry_at l.initial.window (k - l.low)) (entry_at l.window (k - l.low));
  before : (k : ℕ) → k < first_of l.made → l.low ≤ k → entry_at l.window (k - l.low) ≡ entry_at l.initial.window (k - l.low);
  behind : (k : ℕ) → l.block ≤ k → l.low ≤ k → entry_at l.window (k - l.low) ≡ entry_at l.initial.window (k - l.low);
}
