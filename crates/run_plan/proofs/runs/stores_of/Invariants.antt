use Rattle.std.proofs.Common.{◌≡◌, ◌≤◌, length}
use Rattle.run_plan.specs.Runs.{stores_of}
use Rattle.run_plan.proofs.runs.stores_of.Given as goal

abbrev pub invariant-loop-store : goal.invariant-loop-store
invariant-loop-store l = record { value : l.stores.items ≡ stores_of l.store l.shares; few : length l.stores.items ≤ l.store }
