use Rattle.std.proofs.Common.{◌≡◌, map, take}
use Rattle.run_plan.proofs.plan.store_threads.Given as goal

abbrev pub invariant-loop-d : goal.invariant-loop-d
invariant-loop-d l = l.threads.items ≡ map (λ sd. sd.threads) (take l.d-index l.sds)
