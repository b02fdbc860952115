use Rattle.std.proofs.Common.{arith}
use Rattle.slave_worker.proofs.Lookings.{few_found}
use Rattle.slave_worker.proofs.device.+count_corrupt.Goals as goal

pub overflow_add-result : goal.overflow_add-result
overflow_add-result t c = omega (arith, c.count_corrupt-many.ensures 0, few_found 0, c.in-Some.ensures.cases.1, c.requires)
