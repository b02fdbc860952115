use Rattle.std.proofs.Common.{[], ap, get_or, length, arith}
use Rattle.wildcards.specs.Selection.{fits_some}
use Rattle.run_plan.proofs.Lists.{filter_short}
use Rattle.run_plan.proofs.hosts.selected.Goals as goal

pub returns-in-Ok-clause-few : goal.returns-in-Ok-clause-few
returns-in-Ok-clause-few c =
    omega (
      arith,
      ap length c.of.ensures,
      ap length c.in-Ok.ensures.chosen,
      filter_short (λ place. fits_some c.args.patterns.now (get_or c.args.names.now place [])) (length c.args.names.now),
    )
