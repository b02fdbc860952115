use Rattle.std.specs.Prelude.{◌<◌, ◌≤◌, ◌+◌, ℕ}
use Rattle.interleave_core.specs.Event.{IsSettled}
use Rattle.interleave_core.specs.Journal.{now_of}
use Rattle.interleave_core.proofs.journal.Journal.some_settled.Given as goal

abbrev pub invariant-loop-at : goal.invariant-loop-at
invariant-loop-at l = (b : ℕ) → l.hold.first.0 ≤ b → b < l.hold.first.0 + l.at → IsSettled (now_of l.self b) → ⊥
