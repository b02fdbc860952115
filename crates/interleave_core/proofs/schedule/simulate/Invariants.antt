use Rattle.std.specs.Prelude.{◌-◌}
use Rattle.interleave_core.specs.declared.summary.Summary.{Summary}
use Rattle.interleave_core.specs.Summary.{AreFew}
use Rattle.interleave_core.specs.Schedule.{Turns, no_counts, seeded}
use Rattle.interleave_core.specs.World.{World, first_world}
use Rattle.interleave_core.proofs.schedule.simulate.Given as goal

abbrev pub invariant-loop-i : goal.invariant-loop-i
invariant-loop-i l = record {
  runs : (new : World) (after : Summary) → Turns (l.n - l._i) l.world l.generator l.counts new after
      → Turns l.n (first_world 64 8 4) (seeded l.n) no_counts new after;
  few : AreFew l._i l.counts;
}
