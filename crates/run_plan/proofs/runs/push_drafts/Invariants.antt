use Rattle.std.proofs.Common.{◌≡◌, ◌++◌, ◌+◌, drop, length}
use Rattle.run_plan.specs.Runs.{drafts_of}
use Rattle.run_plan.proofs.runs.push_drafts.Given as goal

abbrev pub invariant-loop-settings : goal.invariant-loop-settings
invariant-loop-settings l = record {
  value : l.runs.items ++ drafts_of l.work l.d l.picks (length l.runs.items + 1) (drop l.settings-index l.all) ≡ l.fn.runs.items ++ drafts_of l.work l.d l.picks (length l.fn.runs.items + 1) l.all;
  many : length l.runs.items ≡ length l.fn.runs.items + l.settings-index;
}
