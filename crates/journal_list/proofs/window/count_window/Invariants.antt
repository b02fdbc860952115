use Rattle.std.proofs.Common.{◌≡◌, ◌≤◌, map, sum_by}
use Rattle.std.specs.List.{range_with_len}
use Rattle.key_state.specs.Entries.{entry_at}
use Rattle.journal_list.specs.Audits.{bad_in, pending_in}
use Rattle.journal_list.proofs.window.count_window.Given as goal

abbrev pub invariant-loop-j : goal.invariant-loop-j
invariant-loop-j l = record {
  pending : l.pending ≡ sum_by pending_in (map (entry_at l.window) (range_with_len 0 l.j));
  bad : l.bad ≡ sum_by bad_in (map (entry_at l.window) (range_with_len 0 l.j));
  few_pending : l.pending ≤ l.j;
  few_bad : l.bad ≤ l.j;
}
