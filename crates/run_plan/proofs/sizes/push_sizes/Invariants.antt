use Rattle.std.proofs.Common.{◌≡◌, ◌++◌, take}
use Rattle.run_plan.specs.Sizes.{sizes_in}
use Rattle.run_plan.proofs.sizes.push_sizes.Given as goal

abbrev pub invariant-loop-share : goal.invariant-loop-share
invariant-loop-share l = l.sizes.items ≡ l.fn.sizes.items ++ sizes_in l.store (take l.share-index l.shares)
