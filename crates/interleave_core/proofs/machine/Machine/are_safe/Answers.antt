use Rattle.std.proofs.Common.{◌↔◌, ℕ, IsTrue, drop, subst}
use Rattle.interleave_core.specs.Event.{IsSafe}
use Rattle.interleave_core.specs.World.{World, Lists, entry_of}
use Rattle.interleave_core.proofs.machine.Machine.are_safe.Goals as goal

pub returns : goal.returns
returns c = subst (λ (w : World). IsTrue c.are_safe.result ↔ ((b : ℕ) → Lists c.args.hold b → IsSafe (entry_of w b) (drop w.synced w.records) b)) c.self.view_is c.are_safe.ensures
