use Rattle.std.proofs.Common.{◌≡◌, ◌*◌, ◌∙◌, ◌↔◌, subst, sym, arith, refl, ℕ}
use Rattle.std.specs.Prelude.{bit_or}
use Rattle.std.proofs.lemmas.Bool.{eqb-true, eq-eqb}
use Rattle.std.proofs.lemmas.Simd.{length-zip2, get_or-replicate}
use Rattle.lfsr_pattern.specs.Recurrences.{AreFar}
use Rattle.lfsr_pattern.proofs.FarBytes.{AreZeros, far_more, zeros_of_or, or_of_zeros}
use Rattle.lfsr_pattern.proofs.checking.goes_on.Goals as goal

pub loop-j-init : goal.loop-j-init
loop-j-init c = record {
  long = refl;
  far = ((λ zeros i le. absurd (omega arith)), (λ far m le. get_or-replicate 32 m 0 0 le));
}

pub loop-j-preserved : goal.loop-j-preserved
loop-j-preserved c =
    let bad = c.loop-j.bad in
    let more = c.far_fault-bad.result in
    record {
      long = length-zip2 bit_or bad more (c.loop-j.invariant.long ∙ sym c.far_fault-bad.ensures.long) ∙ c.loop-j.invariant.long;
      far = far_more c.args.bytes.now c.loop-j.j bad more c.loop-j.invariant.long c.far_fault-bad.ensures.long c.far_fault-bad.ensures.each c.loop-j.invariant.far;
    }

pub returns : goal.returns
returns c =
    let bad = c.loop-j.bad in
    let e : 256 * c.loop-j.j ≡ 3584 = omega arith in
    let all : AreZeros bad ↔ AreFar c.args.bytes.now 3584 = subst (λ (n : ℕ). AreZeros bad ↔ AreFar c.args.bytes.now n) e c.loop-j.invariant.far in (
      (λ none. all.0 (λ m le. (zeros_of_or bad 0 m (eqb-true _ _ none)).1)),
      (λ far. eq-eqb _ _ (or_of_zeros bad (λ m le. all.1 far m (omega (arith, le, c.loop-j.invariant.long))))),
    )
