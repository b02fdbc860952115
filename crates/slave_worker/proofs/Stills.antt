-- What a clock that stands still tells of a turn.
use Rattle.std.proofs.Common.{◌≡◌, ℕ, Bool, true, IsTrue, sym, subst, ◌∙◌}
use Rattle.vd_outside.specs.Clocks.{ClockSeen, rested}
use Rattle.worker_tally.specs.Dones.{has_called}
use Rattle.worker_tally.specs.declared.done.Done.{Done}
use Rattle.slave_worker.specs.Dids.{TimedAt}
use Rattle.slave_worker.specs.Looks.{StartedAt, started}
use Rattle.slave_worker.specs.Standings.{Ticked}
use Rattle.slave_worker.specs.declared.watch.Watch.{Watch}

-- It goes on standing.
pub still_after : (more time : ℕ) (old new : ClockSeen) → Ticked more time old new → IsTrue old.still → IsTrue new.still
still_after more time old new ticked still = subst (λ (b : Bool). IsTrue b) (sym ticked.still) still

-- One step of a turn after another.
pub started_then : (more time : ℕ) (old mid : ClockSeen) (first then last : Watch) → Ticked more time old mid → (IsTrue old.still → StartedAt old.last first → StartedAt old.last then) → (IsTrue mid.still → StartedAt mid.last then → StartedAt mid.last last) → IsTrue old.still → StartedAt old.last first → StartedAt old.last last
started_then more time old mid first then last ticked one two still was =
    let same = ticked.last still in
    subst (λ (n : ℕ). StartedAt n last) same
    (two (still_after more time old mid ticked still) (subst (λ (n : ℕ). StartedAt n then) (sym same) (one still was)))

-- Both readings are the time at which it stands.
pub timed_still : (made : Done) (watch : Watch) (more next time_one time_two : ℕ) (old mid new : ClockSeen) → Ticked more time_one old mid → Ticked next time_two mid new → (has_called made ≡ true → started watch ≡ 1) → (started watch ≡ 1 → made.timed.after ≡ new.last) → ((time : ℕ) → started watch ≡ 1 → StartedAt time watch → made.timed.before ≡ time) → (IsTrue old.still → StartedAt old.last watch) → IsTrue old.still → TimedAt old.last made
timed_still made watch more next time_one time_two old mid new one two some after before at still is = (
  before old.last (some is) (at still),
  after (some is) ∙ two.last (still_after more time_one old mid one still) ∙ one.last still,
)

-- A rest doesn't move it.
pub timed_rested : (made : Done) (due : ℕ) (before rested_at : ClockSeen) → rested_at ≡ rested due before → (IsTrue rested_at.still → TimedAt rested_at.last made) → IsTrue before.still → TimedAt before.last made
timed_rested made due before rested_at is timed = subst (λ (c : ClockSeen). IsTrue c.still → TimedAt c.last made) is timed
