use Rattle.std.proofs.Common.{take}
use Rattle.vd_disk.specs.Disk.{present}
use Rattle.vd_disk.specs.Step.{HasRow, now_after, tables_from}
use Rattle.vd_disk.proofs.memory.held_at.Given as goal

abbrev pub invariant-loop-step : goal.invariant-loop-step
invariant-loop-step l =
    HasRow l.place (present (tables_from l.first (take l.step-index l.steps))) (now_after l.first (take l.step-index l.steps)) l.row.held.items l.row.current l.row.end
