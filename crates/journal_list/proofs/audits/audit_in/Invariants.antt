use Rattle.std.proofs.Common.{◌≡◌, ◌≤◌, ◌<◌, ◌*◌, length, map, min, sum_by}
use Rattle.std.specs.List.{range_with_len}
use Rattle.key_state.specs.Entries.{state}
use Rattle.journal_list.specs.Audits.{AreInside, AreLegalIn, IsRefused, bad_in, made_of, pending_in}
use Rattle.journal_list.proofs.audits.audit_in.Given as goal

abbrev pub invariant-loop-part : goal.invariant-loop-part
invariant-loop-part l = record {
  long : length l.window ≡ 65536;
  most : l.legal ≤ length l.records;
  inside : AreInside (length l.base) (made_of l.records) l.legal;
  legal : AreLegalIn l.base (made_of l.records) 0 (min (65536 * l.part) (length l.base)) l.legal;
  refused : l.legal < length l.records → IsRefused l.base (made_of l.records) l.legal;
  pending : l.legal ≡ length l.records → l.pending ≡ sum_by pending_in (map (state l.base (made_of l.records)) (range_with_len 0 (min (65536 * l.part) (length l.base))));
  bad : l.legal ≡ length l.records → l.bad ≡ sum_by bad_in (map (state l.base (made_of l.records)) (range_with_len 0 (min (65536 * l.part) (length l.base))));
  few_pending : l.pending ≤ 65536 * l.part;
  few_bad : l.bad ≤ 65536 * l.part;
}
