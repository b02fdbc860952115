use Rattle.std.proofs.Common.{ap, ◌∙◌, ℕ, ◌*◌, ◌^◌}
use Rattle.claim_table.proofs.TestParts.{parts_of_all}
use Rattle.claim_table.proofs.tests.closed.Goals as goal

pub close-requires-clause-all : goal.close-requires-clause-all
close-requires-clause-all c κs = parts_of_all c.args.seats.items (λ k d low. (c.requires.each k d low).1) ∙ ap (λ (n : ℕ). n * 2 ^ 32) c.requires.many
