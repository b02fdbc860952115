-- The invariant of `store_shares`.
use Rattle.std.proofs.Common.{◌≡◌, ◌≤◌, take, length}
use Rattle.workload_gen.proofs.task.store_shares.Given as goal
use Rattle.workload_gen.specs.Task.{shares_of}

abbrev pub invariant-loop-place : goal.invariant-loop-place
invariant-loop-place l = (l.found.items ≡ shares_of l.block_size l.store (take l.place l.shares)) × (length l.found.items ≤ l.place)
