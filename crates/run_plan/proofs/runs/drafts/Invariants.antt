use Rattle.std.proofs.Common.{◌≡◌, ◌≤◌, [], All, drop, length}
use Rattle.run_plan.specs.Drafts.{IsDraft}
use Rattle.run_plan.specs.Outcomes.{in_turn}
use Rattle.run_plan.specs.Runs.{runs_at}
use Rattle.run_plan.proofs.runs.drafts.Given as goal

abbrev pub invariant-loop-d : goal.invariant-loop-d
invariant-loop-d l = record {
  value : in_turn (runs_at l.work) [] l.rds ≡ in_turn (runs_at l.work) l.runs.items (drop l.d-index l.rds);
  few : length l.runs.items ≤ 1000;
  all : All IsDraft l.runs.items;
}
