use Rattle.std.proofs.Common.{◌≡◌, ◌≤◌, map, sum_by}
use Rattle.std.specs.List.{range_with_len}
use Rattle.key_state.specs.Entries.{entry_at}
use Rattle.journal_list.specs.Lists.{differs}
use Rattle.journal_list.proofs.before.count_differing.Given as goal

abbrev pub invariant-loop-i : goal.invariant-loop-i
invariant-loop-i l =
    (l.count ≡ sum_by differs (map (λ block. (entry_at l.base block, entry_at l.there block)) (range_with_len 0 l.i))) × (l.count ≤ l.i)
