use Rattle.std.proofs.Common.{◌≡◌, Some, false, take}
use Rattle.std.specs.Prelude.{nat_lt}
use Rattle.std.specs.List.{list_any}
use Rattle.run_plan.specs.Runs.{workers_many}
use Rattle.run_plan.proofs.runs.any_crowds.Given as goal

abbrev pub invariant-loop-value : goal.invariant-loop-value
invariant-loop-value l = list_any (λ value. nat_lt 512 (workers_many l.threads l.stores (Some value))) (take l.value-index l.values) ≡ false
