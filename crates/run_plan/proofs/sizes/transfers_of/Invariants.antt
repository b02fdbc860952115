use Rattle.std.proofs.Common.{◌≡◌, take}
use Rattle.run_plan.specs.Sizes.{transfers_of}
use Rattle.run_plan.proofs.sizes.transfers_of.Given as goal

abbrev pub invariant-loop-draft : goal.invariant-loop-draft
invariant-loop-draft l = l.sizes.items ≡ transfers_of l.store (take l.draft-index l.drafts)
