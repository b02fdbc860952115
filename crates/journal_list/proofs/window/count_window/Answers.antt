use Rattle.std.proofs.Common.{◌≡◌, ◌<◌, length, ap, arith}
use Rattle.std.proofs.lemmas.List.{get_or_read}
use Rattle.std.proofs.lemmas.List.FromFn.{sum_by-map-range_with_len_more}
use Rattle.key_state.specs.declared.entry.Entry.TheVariants.{Bad}
use Rattle.key_state.specs.Entries.{entry_at}
use Rattle.journal_list.specs.Audits.{bad_in, pending_in}
use Rattle.journal_list.proofs.window.count_window.Goals as goal

pub loop-j-preserved : goal.loop-j-preserved
loop-j-preserved c =
    let window = c.args.window.now in
    let j = c.loop-j.j in
    let here : j < length window = omega (arith, c.requires.inside) in
    let read : c.index-window-j.result ≡ entry_at window j = get_or_read window j c.index-window-j.result here c.index-window-j.is Bad in
    let again : c.index-window-j-in-loop-j.result ≡ entry_at window j = get_or_read window j c.index-window-j-in-loop-j.result here c.index-window-j-in-loop-j.is Bad in
    let pending = sum_by-map-range_with_len_more pending_in (entry_at window) 0 j j (omega arith) in
    let bad = sum_by-map-range_with_len_more bad_in (entry_at window) 0 j j (omega arith) in
    record {
      pending = omega (arith, pending, ap pending_in read, c.count_pending-pending.ensures.value, c.loop-j.invariant.pending);
      bad = omega (arith, bad, ap bad_in again, c.count_bad-bad.ensures.value, c.loop-j.invariant.bad);
      few_pending = omega (arith, c.loop-j.invariant.few_pending, c.count_pending-pending.ensures.few);
      few_bad = omega (arith, c.loop-j.invariant.few_bad, c.count_bad-bad.ensures.few);
    }
