use Rattle.std.proofs.Common.{ap}
use Rattle.std.specs.Prelude.{nat_lt}
use Rattle.run_plan.proofs.Crowds.{crowded, uncrowded}
use Rattle.run_plan.proofs.runs.is_crowded.Goals as goal

pub returns-then-has_threads : goal.returns-then-has_threads
returns-then-has_threads c =
    crowded c.args.threads.now c.args.stores.now c.args.d.now _ _ _ _ c.requires.ranges.loops c.as_slice.ensures c.as_slice-then-has_threads.ensures
    c.has_threads.ensures c.if-has_threads.true c.any_crowds.ensures

pub returns-else-has_threads : goal.returns-else-has_threads
returns-else-has_threads c =
    uncrowded c.args.threads.now c.args.stores.now c.args.d.now _ _ _ c.requires.ranges.loops c.as_slice.ensures
    c.has_threads.ensures c.if-has_threads.false (ap (λ n. nat_lt 512 n) c.workers_many.ensures)
