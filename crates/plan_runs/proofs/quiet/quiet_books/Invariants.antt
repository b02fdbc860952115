use Rattle.std.proofs.Common.{◌≡◌, ◌≤◌, length, map, take}
use Rattle.std.specs.Vec.{vec_capacity}
use Rattle.key_state.specs.Quiet.{quiet_seen}
use Rattle.plan_runs.specs.Quiet.{unwritten}
use Rattle.plan_runs.proofs.quiet.quiet_books.Given as goal

abbrev pub invariant-loop-store : goal.invariant-loop-store
invariant-loop-store l = (map quiet_seen l.books.items ≡ map unwritten (take l.store-index l.stores)) × (length l.stores ≤ vec_capacity l.books)
