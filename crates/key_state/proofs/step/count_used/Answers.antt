use Rattle.std.proofs.Common.{◌≡◌, ◌<◌, ◌≤◌, ◌+◌, ℕ, length, refl, arith, sym, ap, ◌∙◌}
use Rattle.std.proofs.lemmas.List.{get_or_read}
use Rattle.std.proofs.lemmas.List.FromFn.{sum_by-map-range_with_len_more}
use Rattle.key_state.specs.declared.entry.Entry.TheVariants.{Bad}
use Rattle.key_state.specs.Books.{used, used_among}
use Rattle.key_state.specs.Entries.{entry_at}
use Rattle.key_state.proofs.step.count_used.Goals as goal
use Rattle.key_state.proofs.step.count_used.Goals.{then-is_used, else-is_used}

pub loop-i-preserved : goal.loop-i-preserved
loop-i-preserved c =
    let place = c.args.first.0 + c.loop-i.i in
    let here : place < length c.args.entries.now = omega (arith, c.requires, c.loop-i-test.true) in
    let read : c.index-entries-first.result ≡ entry_at c.args.entries.now place = get_or_read c.args.entries.now place c.index-entries-first.result here c.index-entries-first.is Bad in
    let more = sum_by-map-range_with_len_more used (entry_at c.args.entries.now) c.args.first.0 c.loop-i.i place refl in
    let same = ap used read in
    elim c.if-is_used.branch [
      | then-is_used w ↦ omega (arith, more, same, w.count-is, c.loop-i.invariant.0, c.loop-i.invariant.1, c.is_used.ensures)
      | else-is_used w ↦ omega (arith, more, same, w.count-is, c.loop-i.invariant.0, c.loop-i.invariant.1, c.is_used.ensures)
    ]
