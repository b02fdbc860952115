use Rattle.lfsr_pattern.proofs.BitLemmas.{sound_where_no_fault, no_fault_where_sound}
use Rattle.lfsr_pattern.proofs.checking.fault.Goals as goal

pub returns : goal.returns
returns c = (sound_where_no_fault c.args.word, no_fault_where_sound c.args.word)
