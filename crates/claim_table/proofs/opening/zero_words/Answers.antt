use Rattle.std.proofs.Common.{rules, arith, ap, ◌∷◌, []}
use Rattle.claim_table.specs.Sums.{total}
use Rattle.claim_table.proofs.Sums.{total-append}
use Rattle.claim_table.proofs.opening.zero_words.Goals as goal

pub loop-preserved : goal.loop-preserved
loop-preserved c = (search rules, omega (arith, c.loop.invariant.1, ap (total (λ n. n)) c.push_reserved.ensures.items, total-append (λ n. n) c.loop.words.items (0 ∷ [])), search rules)
