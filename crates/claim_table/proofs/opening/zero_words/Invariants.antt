use Rattle.std.proofs.Common.{◌≡◌, ◌≤◌, length}
use Rattle.std.specs.Vec.{vec_capacity}
use Rattle.claim_table.specs.Sums.{total}
use Rattle.claim_table.proofs.opening.zero_words.Given as goal

abbrev pub invariant-loop : goal.invariant-loop
invariant-loop l = (length l.words.items ≡ l.counter) × (total (λ n. n) l.words.items ≡ 0) × (l.count ≤ vec_capacity l.words)
