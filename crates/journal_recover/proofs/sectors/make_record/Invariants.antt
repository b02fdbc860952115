use Rattle.std.proofs.Common.{◌≡◌, ◌<◌, ◌≤◌, ℕ, length}
use Rattle.key_state.specs.Entries.{Takes, entry_at, first_of}
use Rattle.journal_recover.proofs.sectors.make_record.Given as goal

abbrev pub invariant-loop-block : goal.invariant-loop-block
invariant-loop-block l = record {
  one_each : length l.entries ≡ length l.initial.entries;
  stepped : (k : ℕ) → first_of l.made ≤ k → k < l.block → Takes l.made (entry_at l.initial.entries k) (entry_at l.entries k);
  before : (k : ℕ) → k < first_of l.made → entry_at l.entries k ≡ entry_at l.initial.entries k;
  behind : (k : ℕ) → l.block ≤ k → entry_at l.entries k ≡ entry_at l.initial.entries k;
}
