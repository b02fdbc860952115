use Rattle.std.proofs.Common.{◌∙◌, sym, rules}
use Rattle.lfsr_pattern.proofs.FarBytes.{told_by_bytes}
use Rattle.lfsr_pattern.proofs.checking.is_pattern.Goals as goal

pub returns-then-not-begins : goal.returns-then-not-begins
returns-then-not-begins c = (
  (λ no. search rules),
  (λ pattern. sym c.if-not-begins.true ∙ c.begins.ensures.1 ((told_by_bytes c.args.seed c.args.bytes.now c.told-bytes).0 pattern).0),
)

pub returns : goal.returns
returns c =
    let told = told_by_bytes c.args.seed c.args.bytes.now c.told-bytes in (
      (λ far. told.1 (c.begins.ensures.0 c.if-not-begins.false, c.goes_on.ensures.0 far)),
      (λ pattern. c.goes_on.ensures.1 (told.0 pattern).1),
    )
