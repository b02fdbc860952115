-- What has one outcome at most.
use Rattle.std.specs.Prelude.{◌≡◌, ℕ, List}
use Rattle.interleave_core.specs.declared.event.Event.{Event}
use Rattle.interleave_core.specs.declared.summary.Summary.{Summary}
use Rattle.interleave_core.specs.Event.{Run, Step}
use Rattle.interleave_core.specs.Schedule.{Simulates}
use Rattle.interleave_core.specs.World.{World}

-- An event leaves one world.
abbrev pub OneStep : Type 0
OneStep = (w : World) (e : Event) (one other : World) → Step w e one → Step w e other → one ≡ other

-- A list of events leaves one world.
abbrev pub OneRun : Type 0
OneRun = (w : World) (list : List Event) (one other : World) → Run w list one → Run w list other → one ≡ other

-- A number has one schedule, with one set of counts.
abbrev pub OneSchedule : Type 0
OneSchedule = (n : ℕ) (one other : Summary) → Simulates n one → Simulates n other → one ≡ other
