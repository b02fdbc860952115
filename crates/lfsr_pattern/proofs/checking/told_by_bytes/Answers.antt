use Rattle.lfsr_pattern.proofs.FarBytes.{told_by_bytes}
use Rattle.lfsr_pattern.proofs.checking.told_by_bytes.Goals as goal

pub returns : goal.returns
returns c = told_by_bytes
