use Rattle.std.proofs.Common.{◌≡◌, ◌++◌, length, take}
use Rattle.std.specs.List.{flat_map}
use Rattle.run_plan.specs.Loops.{replaced, settings_of}
use Rattle.run_plan.proofs.loops.+push_settings.Given as goal

abbrev pub decreases-push_settings : goal.decreases-push_settings
decreases-push_settings l = length l.words.now

-- the runs of the values so far are added
abbrev pub invariant-loop-value : goal.invariant-loop-value
invariant-loop-value l = l.runs.items ≡ l.fn.runs.items ++ flat_map (λ value. settings_of l.d l.inner (replaced l.settings l.word value)) (take l.value-index l.value-items)
