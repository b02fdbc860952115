-- One record more of a log sector.
use Rattle.std.proofs.Common.{◌≡◌, inl, inr, ℕ, ◌+◌, ◌*◌, ◌<◌, List, [], ◌∷◌, ◌++◌, length, Option, sym, ap, ◌∙◌, subst, arith}
use Rattle.std.proofs.lemmas.Bool.{cases_lt}
use Rattle.std.proofs.lemmas.List.{length_push}
use Rattle.key_state.specs.declared.entry.Entry.{Entry}
use Rattle.key_state.specs.declared.record.Record.{Record}
use Rattle.key_state.specs.Entries.{IsLegalOn, AreEntries, states}
use Rattle.key_state.proofs.Histories.{history_more, history_of_one, states-append, states_valid, states_nil, history_nil}
use Rattle.journal_layout.specs.Log.{IsRecordOf}
use Rattle.journal_layout.specs.Recovery.{blocks_of, log_start}
use Rattle.journal_layout.specs.declared.live.Live.{Live}
use Rattle.journal_recover.specs.Logs.{AddsUpTo}
use Rattle.journal_recover.specs.Sinks.{Placed, grown}
use Rattle.journal_recover.proofs.Handed.{hands_none, hands_one, hands_joined}
use Rattle.journal_recover.proofs.Gets.{get_front, get_last}

pub adds_none : (live : Live) (place : ℕ) (base : List Entry) (sector : List ℕ) (kept : Option (List Placed)) → AddsUpTo live place base sector 0 base kept kept
adds_none live place base sector kept =
    ([], omega arith, record { spelled = λ i made is. cc; legal = history_nil base }, sym (states_nil base), hands_none live (30 * place) kept)

pub one_more : (live : Live) (place at : ℕ) (base : List Entry) (sector : List ℕ) (j : ℕ) (entries after : List Entry) (made : Record) (first mid last : Option (List Placed))
    → at ≡ log_start live + place → j < 30 → AddsUpTo live place base sector j entries first mid
    → IsRecordOf live.version (blocks_of live) sector j made → IsLegalOn entries made → after ≡ states entries (made ∷ []) → last ≡ grown mid ((at, j, made) ∷ [])
    → AddsUpTo live place base sector (j + 1) after first last
one_more live place at base sector j entries after made first mid last is_at small adds spelled legal stepped kept =
    let added = adds.0 in
    let long : length (added ++ made ∷ []) ≡ length added + 1 = length_push added made in
    let behind : 30 * place + j ≡ 30 * place + length added = omega (arith, adds.1) in (
      added ++ made ∷ [],
      long ∙ ap (λ n. n + 1) adds.1,
      record {
        spelled = λ i m is. elim (cases_lt i (length added)) [
          | inl early ↦ adds.2.spelled i m (sym (get_front added (made ∷ []) i early) ∙ is)
          | inr late ↦
              let last = get_last added made i m late is in
              subst (λ (r : Record). IsRecordOf live.version (blocks_of live) sector i r) last.1 (subst (λ n. IsRecordOf live.version (blocks_of live) sector n made) (sym adds.1 ∙ sym last.0) spelled)
        ];
        legal = history_more base added made adds.2.legal (subst (λ (es : List Entry). IsLegalOn es made) adds.3 legal);
      },
      stepped ∙ ap (λ (es : List Entry). states es (made ∷ [])) adds.3 ∙ sym (states-append base added (made ∷ [])),
      hands_joined live (30 * place) (30 * place + j) added (made ∷ []) first mid last adds.4 behind (hands_one live place j at made mid last is_at small kept),
    )

pub valid_more : (entries after : List Entry) (made : Record) → AreEntries entries → IsLegalOn entries made → after ≡ states entries (made ∷ []) → AreEntries after
valid_more entries after made valid legal stepped = subst AreEntries (sym stepped) (states_valid entries (made ∷ []) valid (history_of_one entries made legal))
