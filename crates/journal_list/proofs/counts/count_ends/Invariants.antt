use Rattle.std.proofs.Common.{◌≡◌, ◌≤◌, ◌*◌, take}
use Rattle.key_state.specs.Entries.{ends}
use Rattle.journal_list.specs.Audits.{made_of}
use Rattle.journal_list.proofs.counts.count_ends.Given as goal

abbrev pub invariant-loop-i : goal.invariant-loop-i
invariant-loop-i l = (l.count ≡ ends (take l.i (made_of l.records))) × (l.count ≤ 4294967296 * l.i)
