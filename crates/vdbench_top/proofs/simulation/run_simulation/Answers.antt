use Rattle.std.proofs.Common.{refl, []}
use Rattle.run_report.specs.Says.{says_none}
use Rattle.vdbench_top.specs.Simulation.{too_little_memory}
use Rattle.vdbench_top.proofs.Schedules.{simulated_by}
use Rattle.vdbench_top.proofs.simulation.run_simulation.Goals as goal

pub returns-in_default : goal.returns-in_default
returns-in_default g c = ([], says_none _, too_little_memory refl refl)

pub returns : goal.returns
returns g c = simulated_by c.args.steps c.in-Ok.counts _ _ _ _ c.in-Ok.ensures.counts c.simulation_line.ensures c.say_line.ensures
