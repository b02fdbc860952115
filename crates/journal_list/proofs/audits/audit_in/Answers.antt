use Rattle.std.proofs.Common.{rules, ◌≡◌, inl, inr, ℕ, ◌+◌, ◌*◌, ◌-◌, ◌≤◌, List, length, map, min, sum_by, take, refl, ap, ◌∙◌, subst, arith}
use Rattle.std.specs.List.{range_with_len}
use Rattle.std.proofs.lemmas.Bool.{cases_lt}
use Rattle.std.proofs.lemmas.List.{take_all, length-map}
use Rattle.key_state.specs.declared.entry.Entry.{Entry}
use Rattle.key_state.specs.declared.record.Record.{Record}
use Rattle.key_state.specs.Entries.{IsHistory, entry_at, state}
use Rattle.journal_list.specs.Audits.{AreLegalIn, IsRefused, Shows, bad_in, made_of, pending_in, record_in}
use Rattle.journal_list.proofs.Legal.{history_of, legal_joined, not_legal, sum_window}
use Rattle.journal_list.proofs.audits.audit_in.Goals as goal

-- a count over all windows so far
counted : (f : Entry → ℕ) (base : List Entry) (records : List Record) (window : List Entry) (part low high old more : ℕ)
    → low ≡ 65536 * part → high ≡ min (length base) (low + 65536) → low ≤ length base → Shows base records low high window
    → old ≡ sum_by f (map (state base records) (range_with_len 0 (min (65536 * part) (length base)))) → more ≡ sum_by f (map (entry_at window) (range_with_len 0 (high - low)))
    → old + more ≡ sum_by f (map (state base records) (range_with_len 0 (min (65536 * (part + 1)) (length base))))
counted f base records window part low high old more is_low is_high within shows was is =
    let sum = sum_window f (state base records) window low (high - low) (λ block from below. shows block from (omega (arith, below, is_high, within))) in
    let front : min (65536 * part) (length base) ≡ low = omega (arith, is_low, within) in
    let whole : min (65536 * (part + 1)) (length base) ≡ low + (high - low) = omega (arith, is_low, is_high, within) in
    let a = ap (λ n. sum_by f (map (state base records) (range_with_len 0 n))) front in
    let b = ap (λ n. sum_by f (map (state base records) (range_with_len 0 n))) whole in
    omega (arith, sum, a, b, was, is)

pub loop-part-preserved : goal.loop-part-preserved
loop-part-preserved c =
    let base = c.args.base.now in
    let listed = c.args.records.now in
    let records = made_of listed in
    let part = c.loop-part.part in
    let low = 65536 * part in
    let high = c.min-high.result in
    let old = c.loop-part.legal in
    let now = c.make_window-legal.result in
    let window = c.make_window-legal.new.window in
    let within : low ≤ length base = omega (arith, c.loop-part-test.true) in
    let is_high : high ≡ min (length base) (low + 65536) = omega (arith, c.min-high.ensures) in
    let long : length records ≡ length listed = length-map listed record_in in
    let front : min (65536 * part) (length base) ≡ low = omega (arith, within) in
    let shows = λ (all : now ≡ length listed).
    let same : now ≡ old = omega (arith, all, c.make_window-legal.ensures.most, c.loop-part.invariant.most) in
    let shown : Shows base (take old records) low high window = c.make_window-legal.ensures.shows same in
    subst (λ (l : List Record). Shows base l low high window) (take_all old records (omega (arith, same, all, long))) shown in
    record {
      long = search rules;
      most = omega (arith, c.make_window-legal.ensures.most, c.loop-part.invariant.most);
      inside = λ k made order is block it. c.loop-part.invariant.inside k made (omega (arith, order, c.make_window-legal.ensures.most)) is block it;
      legal = legal_joined base records low high (min (65536 * (part + 1)) (length base)) old now c.make_window-legal.ensures.most (omega (arith, is_high, within))
          (subst (λ n. AreLegalIn base records 0 n old) front c.loop-part.invariant.legal) c.make_window-legal.ensures.legal;
      refused = λ less. elim (cases_lt now old) [
        | inl fewer ↦ c.make_window-legal.ensures.refused fewer
        | inr same ↦
            let is : old ≡ now = omega (arith, same, c.make_window-legal.ensures.most) in
            subst (IsRefused base records) is (c.loop-part.invariant.refused (omega (arith, is, less)))
      ];
      pending = λ all.
          let before : old ≡ length listed = omega (arith, all, c.make_window-legal.ensures.most, c.loop-part.invariant.most) in
          counted pending_in base records window part low high c.loop-part.pending c.count_window-counts.result.pending refl is_high within (shows all)
          (c.loop-part.invariant.pending before) c.count_window-counts.ensures.pending;
      bad = λ all.
          let before : old ≡ length listed = omega (arith, all, c.make_window-legal.ensures.most, c.loop-part.invariant.most) in
          counted bad_in base records window part low high c.loop-part.bad c.count_window-counts.result.bad refl is_high within (shows all)
          (c.loop-part.invariant.bad before) c.count_window-counts.ensures.bad;
      few_pending = omega (arith, c.loop-part.invariant.few_pending, c.count_window-counts.ensures.few_pending, is_high, within);
      few_bad = omega (arith, c.loop-part.invariant.few_bad, c.count_window-counts.ensures.few_bad, is_high, within);
    }

pub returns-then-legal-records : goal.returns-then-legal-records
returns-then-legal-records c =
    let base = c.args.base.now in
    let records = made_of c.args.records.now in
    let n = c.loop-part.legal in
    let all : min (65536 * c.loop-part.part) (length base) ≡ length base = omega (arith, c.loop-part-test.false) in
    record {
      audits = (
        history_of base records n c.loop-part.invariant.inside (subst (λ m. AreLegalIn base records 0 m n) all c.loop-part.invariant.legal),
        not_legal base records n (c.loop-part.invariant.refused (omega (arith, c.if-legal-records.true))),
      );
    }

pub returns-else-legal-records : goal.returns-else-legal-records
returns-else-legal-records c =
    let base = c.args.base.now in
    let listed = c.args.records.now in
    let records = made_of listed in
    let n = c.loop-part.legal in
    let all : min (65536 * c.loop-part.part) (length base) ≡ length base = omega (arith, c.loop-part-test.false) in
    let every : n ≡ length listed = omega (arith, c.if-legal-records.false, c.loop-part.invariant.most) in
    let long : length records ≡ length listed = length-map listed record_in in
    let history = history_of base records n c.loop-part.invariant.inside (subst (λ m. AreLegalIn base records 0 m n) all c.loop-part.invariant.legal) in
    let each = λ (f : Entry → ℕ). ap (λ m. sum_by f (map (state base records) (range_with_len 0 m))) all in
    record {
      audits = (
        subst (IsHistory base) (take_all n records (omega (arith, every, long))) history,
        c.count_ends.ensures,
        c.loop-part.invariant.pending every ∙ each pending_in,
        c.loop-part.invariant.bad every ∙ each bad_in,
      );
    }
