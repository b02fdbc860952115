use Rattle.std.specs.Prelude.{◌≡◌, ◌<◌, ◌≤◌, ◌+◌, ℕ, true}
use Rattle.interleave_core.specs.World.{is_written}
use Rattle.interleave_core.proofs.machine.Machine.are_written.Given as goal

abbrev pub invariant-loop-at : goal.invariant-loop-at
invariant-loop-at l = (b s : ℕ) → l.hold.first.0 ≤ b → b < l.hold.first.0 + l.at → s < l.self.sectors → is_written l.self b s ≡ true
