use Rattle.std.proofs.Common.{◌≡◌, ◌∙◌, arith}
use Rattle.std.proofs.lemmas.List.Elements.{at_read}
use Rattle.key_state.specs.declared.entry.Entry.{Entry}
use Rattle.key_state.specs.declared.entry.Entry.TheVariants.{Bad}
use Rattle.block_verdict.specs.Verdicts.{newest_of}
use Rattle.block_ops.proofs.Stamping.{stamps_more}
use Rattle.block_ops.proofs.bytes.stamp_run.Goals as goal

pub loop-i-preserved : goal.loop-i-preserved
loop-i-preserved c =
    let is = at_read c.args.entries.now (λ (e : Entry). c.new_key.result ≡ newest_of e) c.loop-i.i c.index-entries-i.result (omega arith) c.index-entries-i.is c.new_key.ensures.value Bad in
    record {
      long = c.stamp_part.ensures.size ∙ c.loop-i.invariant.long;
      stamps = stamps_more c.args.store.now c.args.first.0 c.args.entries.now c.loop-i.i c.new_key.result c.loop-i.buf c.stamp_part.new.buf c.loop-i.invariant.stamps is c.stamp_part.ensures.here c.stamp_part.ensures.below;
    }
