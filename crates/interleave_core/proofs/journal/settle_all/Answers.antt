use Rattle.std.proofs.Common.{◌≡◌, inl, inr, ◌<◌, ◌+◌, ◌*◌, length, slice_index_or, slice_set, sym, ◌∙◌, subst, arith}
use Rattle.std.proofs.lemmas.List.{get_or-set_same, get_or-set_other, length-set, get_or_read}
use Rattle.std.proofs.lemmas.Bool.{cases_eq}
use Rattle.key_state.specs.declared.entry.Entry.TheVariants.{Settled}
use Rattle.key_state.specs.declared.entry.Entry.{Entry}
use Rattle.interleave_core.specs.Fits.{Settles}
use Rattle.interleave_core.specs.Journal.{entry_in}
use Rattle.interleave_core.proofs.journal.settle_all.Goals as goal

pub loop-block-preserved : goal.loop-block-preserved
loop-block-preserved c =
    let within : c.loop-block.block < length c.loop-block.base = omega (arith, c.loop-block-test.true, c.loop-block.invariant.size, c.requires.sizes) in
    let read : c.index-current-block.result ≡ entry_in c.args.current.now c.loop-block.block
    = get_or_read c.args.current.now c.loop-block.block c.index-current-block.result c.loop-block-test.true c.index-current-block.is (Settled 0) in
    record {
      size = length-set c.loop-block.base c.loop-block.block c.settle.result ∙ c.loop-block.invariant.size;
      each = λ b below. elim (cases_eq b c.loop-block.block) [
        | inl same ↦
            subst (λ k. Settles (λ s. slice_index_or c.args.keys.now (k * c.args.sectors + s) 0) c.args.sectors (entry_in c.args.current.now k) (entry_in (slice_set c.loop-block.base c.loop-block.block c.settle.result) k)) (sym same)
            (subst (λ (e : Entry). Settles (λ s. slice_index_or c.args.keys.now (c.loop-block.block * c.args.sectors + s) 0) c.args.sectors (entry_in c.args.current.now c.loop-block.block) e) (sym (get_or-set_same c.loop-block.base c.loop-block.block c.settle.result (Settled 0) within))
            (subst (λ (e : Entry). Settles (λ s. slice_index_or c.args.keys.now (c.loop-block.block * c.args.sectors + s) 0) c.args.sectors e c.settle.result) read c.settle.ensures))
        | inr other ↦
            subst (λ (e : Entry). Settles (λ s. slice_index_or c.args.keys.now (b * c.args.sectors + s) 0) c.args.sectors (entry_in c.args.current.now b) e) (sym (get_or-set_other c.loop-block.base c.loop-block.block b c.settle.result (Settled 0) other)) (c.loop-block.invariant.each b (omega (arith, other)))
      ];
    }
