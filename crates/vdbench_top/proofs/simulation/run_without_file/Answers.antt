use Rattle.std.proofs.Common.{refl, sym}
use Rattle.run_report.specs.declared.status.Status.TheVariants as status
use Rattle.vdbench_top.specs.Simulation.{no_command, schedule}
use Rattle.vdbench_top.proofs.Schedules.{not_this}
use Rattle.vdbench_top.proofs.simulation.run_without_file.Goals as goal

pub returns-in-Some-clause-said : goal.returns-in-Some-clause-said
returns-in-Some-clause-said g c =
    let v = c.run_simulation.ensures in
    (v.0, v.1, schedule c.in-Some.steps (sym c.in-Some.ensures) v.2)

pub returns-in-Some-clause-usage_only : goal.returns-in-Some-clause-usage_only
returns-in-Some-clause-usage_only g c e = absurd (not_this _ _ _ status.Usage c.run_simulation.ensures.2 (λ x. cc) (λ x. cc) e)

pub returns-in-Some-clause-no_yard : goal.returns-in-Some-clause-no_yard
returns-in-Some-clause-no_yard g c e = not_this _ _ _ status.Yard c.run_simulation.ensures.2 (λ x. cc) (λ x. cc) e

pub returns-in-Some-clause-no_source : goal.returns-in-Some-clause-no_source
returns-in-Some-clause-no_source g c e = not_this _ _ _ status.Source c.run_simulation.ensures.2 (λ x. cc) (λ x. cc) e

pub returns-in-Some-clause-no_device : goal.returns-in-Some-clause-no_device
returns-in-Some-clause-no_device g c e = not_this _ _ _ status.Device c.run_simulation.ensures.2 (λ x. cc) (λ x. cc) e

pub returns-in-Some-clause-no_sink : goal.returns-in-Some-clause-no_sink
returns-in-Some-clause-no_sink g c e = not_this _ _ _ status.Sink c.run_simulation.ensures.2 (λ x. cc) (λ x. cc) e

pub returns-in-Some-clause-no_epoch : goal.returns-in-Some-clause-no_epoch
returns-in-Some-clause-no_epoch g c e = not_this _ _ _ status.EpochEnd c.run_simulation.ensures.2 (λ x. cc) (λ x. cc) e

pub returns-in-None-clause-said : goal.returns-in-None-clause-said
returns-in-None-clause-said g c = (_, c.say.ensures.says, no_command (sym c.in-None.ensures) c.usage_line.ensures refl)
