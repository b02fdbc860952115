use Rattle.std.proofs.Common.{◌≡◌, ◌≤◌, length, take}
use Rattle.slave_worker.specs.Hands.{workers_at}
use Rattle.master_run.proofs.crew.workers_of.Given as goal

abbrev pub invariant-loop-worker : goal.invariant-loop-worker
invariant-loop-worker l = (l.many ≡ length (workers_at l.store (take l.worker-index l.workers))) × (l.many ≤ l.worker-index)
