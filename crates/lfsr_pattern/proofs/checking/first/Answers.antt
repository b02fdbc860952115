use Rattle.std.proofs.Common.{ap, ◌∙◌, arith, zero-add}
use Rattle.std.specs.Int.{bit_at}
use Rattle.lfsr_pattern.specs.Pattern.{bit}
use Rattle.lfsr_pattern.proofs.BitLemmas.{bits_at}
use Rattle.lfsr_pattern.proofs.checking.first.Goals as goal

pub returns : goal.returns
returns c m le =
    ap (λ n. bit_at n m) c.from_le_bytes.ensures
    ∙ (bits_at c.args.bytes.now 0 3 m (omega arith) (λ i. (c.type_inv.bytes i).fits) le ∙ ap (bit c.args.bytes.now) (zero-add m))
