-- The line of a schedule.
use Rattle.std.specs.Prelude.{ℕ, List, codes, decimal}
use Rattle.run_report.specs.declared.simulation.Simulated.{Simulated}
use Rattle.run_report.specs.Texts.{◌⧺◌}

abbrev pub steps_text : Simulated → List ℕ
steps_text counted =
    codes "sim " ⧺ decimal counted.steps ⧺ codes " taken " ⧺ decimal counted.taken ⧺ codes " idle " ⧺ decimal counted.idle

abbrev pub simulation_text : Simulated → List ℕ
simulation_text counted =
    steps_text counted ⧺ codes " ends " ⧺ decimal counted.ends ⧺ codes " stops " ⧺ decimal counted.stops ⧺ codes " wrong "
    ⧺ decimal counted.wrong ⧺ codes "\n"
