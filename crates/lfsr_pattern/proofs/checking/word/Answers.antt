use Rattle.std.proofs.Common.{ap, ◌∙◌, arith}
use Rattle.std.specs.Int.{bit_at}
use Rattle.lfsr_pattern.proofs.BitLemmas.{bits_of_load}
use Rattle.lfsr_pattern.proofs.checking.word.Goals as goal

pub returns : goal.returns
returns c m le =
    ap (λ n. bit_at n m) c.from_le_bytes.ensures
    ∙ bits_of_load c.args.bytes.now c.args.at 7 m _ c.eight.ensures (omega arith) (λ i. (c.type_inv.bytes i).fits) le
