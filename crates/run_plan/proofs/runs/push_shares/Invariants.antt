use Rattle.std.proofs.Common.{◌≡◌, ◌++◌, map, take}
use Rattle.run_plan.specs.Runs.{share_of}
use Rattle.run_plan.proofs.runs.push_shares.Given as goal

abbrev pub invariant-loop-store : goal.invariant-loop-store
invariant-loop-store l = l.shares.items ≡ l.fn.shares.items ++ map (share_of l.w l.settings l.weight) (take l.store-index l.w.stores)
