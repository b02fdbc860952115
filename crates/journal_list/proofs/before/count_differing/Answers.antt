use Rattle.std.proofs.Common.{◌≡◌, ◌<◌, length, arith, ap, ◌∙◌}
use Rattle.std.proofs.lemmas.List.{get_or_read}
use Rattle.std.proofs.lemmas.List.FromFn.{sum_by-map-range_with_len_more}
use Rattle.key_state.specs.declared.entry.Entry.{Entry}
use Rattle.key_state.specs.declared.entry.Entry.TheVariants.{Bad}
use Rattle.key_state.specs.Entries.{entry_at}
use Rattle.journal_list.specs.Lists.{differs}
use Rattle.journal_list.proofs.before.count_differing.Goals as goal
use Rattle.journal_list.proofs.before.count_differing.Goals.{then-differ, else-differ}

pub loop-i-preserved : goal.loop-i-preserved
loop-i-preserved c =
    let base = c.args.base.now in
    let there = c.args.there.now in
    let i = c.loop-i.i in
    let here : i < length base = omega arith in
    let here_too : i < length there = omega (arith, c.requires.as_many) in
    let one : c.index-base-i.result ≡ entry_at base i = get_or_read base i c.index-base-i.result here c.index-base-i.is Bad in
    let other : c.index-there-i.result ≡ entry_at there i = get_or_read there i c.index-there-i.result here_too c.index-there-i.is Bad in
    let more = sum_by-map-range_with_len_more differs (λ block. (entry_at base block, entry_at there block)) 0 i i (omega arith) in
    let same : differs (c.index-base-i.result, c.index-there-i.result) ≡ differs (entry_at base i, entry_at there i) =
    ap (λ (e : Entry). differs (e, c.index-there-i.result)) one ∙ ap (λ (e : Entry). differs (entry_at base i, e)) other in
    elim c.if-differ.branch [
      | then-differ w ↦ (omega (arith, more, same, w.count-is, c.loop-i.invariant.0, c.differ.ensures), omega (arith, w.count-is, c.loop-i.invariant.1))
      | else-differ w ↦ (omega (arith, more, same, w.count-is, c.loop-i.invariant.0, c.differ.ensures), omega (arith, w.count-is, c.loop-i.invariant.1))
    ]
