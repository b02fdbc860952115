use Rattle.std.specs.Prelude.{◌≡◌, ◌≤◌, ◌*◌, sum_by}
use Rattle.std.specs.List.{range_with_len}
use Rattle.interleave_core.specs.Schedule.{wrong_in}
use Rattle.interleave_core.proofs.schedule.wrong_of.Given as goal

abbrev pub invariant-loop-block : goal.invariant-loop-block
invariant-loop-block l = record {
  value : l.wrong ≡ sum_by (wrong_in l.world) (range_with_len 0 l.block);
  few : l.wrong ≤ l.block * l.world.sectors;
}
