use Rattle.std.specs.Prelude.{◌<◌, ◌≤◌, ◌+◌, ℕ, drop}
use Rattle.interleave_core.specs.Event.{IsSafe}
use Rattle.interleave_core.specs.Journal.{now_of}
use Rattle.interleave_core.proofs.journal.Journal.are_safe.Given as goal

abbrev pub invariant-loop-at : goal.invariant-loop-at
invariant-loop-at l = (b : ℕ) → l.hold.first.0 ≤ b → b < l.hold.first.0 + l.at → IsSafe (now_of l.self b) (drop l.self.synced l.self.records) b
