use Rattle.std.proofs.Common.{◌≢◌, ◌<◌, ℕ, ◌+◌, ◌*◌, ◌∙◌, arith, length, subst}
use Rattle.std.specs.Prelude.{slice_range}
use Rattle.std.proofs.lemmas.List.Elements.{at_read}
use Rattle.key_state.specs.declared.entry.Entry.{Entry}
use Rattle.key_state.specs.declared.entry.Entry.TheVariants.{Bad}
use Rattle.block_verdict.specs.Fits.{BytesFit}
use Rattle.block_verdict.specs.Verdicts.{IsVerdict, IsCorrupt}
use Rattle.block_ops.proofs.Judging.{judged_more, slice_get-set_other}
use Rattle.block_ops.proofs.bytes.judge_run.Goals as goal

pub loop-i-preserved : goal.loop-i-preserved
loop-i-preserved c =
    let store = c.args.store.now in
    let block : ℕ = c.args.first.0 + c.loop-i.i in
    let i : ℕ = c.loop-i.i in
    let exact = subst (λ (n : ℕ). IsVerdict store block c.index-entries-i.result (slice_range c.args.bytes.now (i * n) (i * n + n)) c.verdict.result) c.block_size-size.ensures.value c.verdict.ensures.exact in
    let sound = subst (λ (n : ℕ). BytesFit store block c.index-entries-i.result (slice_range c.args.bytes.now (i * n) (i * n + n)) → IsCorrupt c.verdict.result → ⊥) c.block_size-size.ensures.value (λ fits corrupt. c.verdict.ensures.sound.1 fits corrupt) in
    let size = store.geometry.block_size in
    let within : i < length c.args.entries.now = omega arith in
    record {
      judged = judged_more store c.args.first.0 c.args.entries.now c.args.bytes.now i c.loop-i.verdicts c.verdict.result c.loop-i.invariant.judged record {
        exact = at_read c.args.entries.now (λ (e : Entry). IsVerdict store block e (slice_range c.args.bytes.now (i * size) (i * size + size)) c.verdict.result) i c.index-entries-i.result within c.index-entries-i.is exact Bad;
        sound = at_read c.args.entries.now (λ (e : Entry). BytesFit store block e (slice_range c.args.bytes.now (i * size) (i * size + size)) → IsCorrupt c.verdict.result → ⊥) i c.index-entries-i.result within c.index-entries-i.is sound Bad;
      };
      others = λ k le.
          let apart : k ≢ i = λ same. absurd (omega (arith, same, le)) in
          slice_get-set_other c.loop-i.verdicts i k c.verdict.result apart ∙ c.loop-i.invariant.others k (omega (arith, le));
    }

pub returns-clause-sound : goal.returns-clause-sound
returns-clause-sound c i verdict le at = (c.loop-i.invariant.judged i verdict (omega (arith, le)) at).sound
