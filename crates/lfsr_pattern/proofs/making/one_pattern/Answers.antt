use Rattle.lfsr_pattern.proofs.OnePattern.{pattern_once}
use Rattle.lfsr_pattern.proofs.making.one_pattern.Goals as goal

pub returns : goal.returns
returns c = pattern_once
