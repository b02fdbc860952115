use Rattle.std.proofs.Common.{◌≡◌, ◌+◌, ◌*◌, ◌↔◌, ap, ◌∙◌, arith, subst, ℕ}
use Rattle.lfsr_pattern.specs.Pattern.{bit, AreLater}
use Rattle.lfsr_pattern.proofs.BitLemmas.{ReadsAt, more_later, front_by}
use Rattle.std.proofs.lemmas.Bool.{eqb-true, eq-eqb}
use Rattle.lfsr_pattern.proofs.checking.begins.Goals as goal

pub loop-j-preserved : goal.loop-j-preserved
loop-j-preserved c =
    let bytes = c.args.bytes.now in
    let j = c.loop-j.j in
    let reads : ReadsAt bytes j c.word.result = λ m le. c.word.ensures m le ∙ (let e : 8 * (4 * j) + m ≡ 32 * j + m = omega arith in ap (bit bytes) e) in
    more_later bytes j c.word.result c.loop-j.bad c.fault-bad.result reads c.fault-bad.ensures c.loop-j.invariant

pub returns : goal.returns
returns c =
    let bytes = c.args.bytes.now in
    let e : 32 * c.loop-j.j ≡ 224 = omega arith in
    let all : c.loop-j.bad ≡ 0 ↔ AreLater bytes 224 = subst (λ (n : ℕ). c.loop-j.bad ≡ 0 ↔ AreLater bytes n) e c.loop-j.invariant in
    let p = front_by bytes c.args.seed c.first.result c.loop-j.bad 224 (omega arith) (omega arith) c.first.ensures (omega arith) all in
    (λ same. p.0 (eqb-true _ _ same), λ q. eq-eqb _ _ (p.1 q))
