use Rattle.lfsr_pattern.proofs.Fronts.{bits_that_follow}
use Rattle.lfsr_pattern.proofs.making.byte_step.Goals as goal

pub returns : goal.returns
returns c = bits_that_follow
