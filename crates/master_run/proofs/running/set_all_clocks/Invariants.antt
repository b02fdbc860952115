use Rattle.std.proofs.Common.{◌≡◌, ℕ, ◌<◌, ◌≤◌, get_or}
use Rattle.master_run.specs.Posts.{AllClocks, StaysManned}
use Rattle.master_run.proofs.running.set_all_clocks.Given as goal

abbrev pub invariant-loop-crew : goal.invariant-loop-crew
invariant-loop-crew g l =
    ((k : ℕ) (d : _) → k < l.crew-index → AllClocks g.C.Clock.seen (g.C.Clock.seen l.clock) (get_or l.crews k d) × StaysManned g.A.Pass.Pass.seen g.B.Book.seen g.A.Arm.seen (get_or l.initial.crews k d) (get_or l.crews k d))
    × ((k : ℕ) (d : _) → l.crew-index ≤ k → get_or l.crews k d ≡ get_or l.initial.crews k d)
