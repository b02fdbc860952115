use Rattle.std.specs.Prelude.{◌≡◌, ◌≤◌, sum_by}
use Rattle.std.specs.List.{range_with_len}
use Rattle.interleave_core.specs.Schedule.{wrong_at}
use Rattle.interleave_core.proofs.schedule.wrong_in.Given as goal

abbrev pub invariant-loop-sector : goal.invariant-loop-sector
invariant-loop-sector l = record {
  value : l.wrong ≡ sum_by (wrong_at l.world l.block.0) (range_with_len 0 l.sector);
  few : l.wrong ≤ l.sector;
}
