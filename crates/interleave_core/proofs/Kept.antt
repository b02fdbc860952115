-- What the journal and the sectors keep through every event.
use Rattle.std.proofs.Common.{◌≡◌, ◌≢◌, inl, inr, ℕ, ◌*◌, ◌<◌, ◌≤◌, true, List, [], ◌∷◌, ◌++◌, length, take, drop, slice_set, refl, sym, ap, ◌∙◌, subst, arith}
use Rattle.std.proofs.lemmas.List.{length-set, take-append-le, take_all, length_push, length-take-le, take-take}
use Rattle.std.proofs.lemmas.List.FromFn.{get_or-map-range_with_len, length-map-range_with_len}
use Rattle.std.proofs.Math.Seq.{take-nil}
use Rattle.std.proofs.lemmas.Bool.{cases_lt, cases_Bool}
use Rattle.key_state.specs.declared.entry.Entry.{Entry}
use Rattle.key_state.specs.declared.entry.Entry.TheVariants.{Settled, Pending, Bad}
use Rattle.key_state.specs.declared.record.Record.{Record}
use Rattle.key_state.specs.Entries.{names_block, IsLegalAt, leaves, records_of, entry_at, state, states, IsChain, IsHistory, IsPending}
use Rattle.interleave_core.specs.Event.{IsSafe, pending_key}
use Rattle.interleave_core.specs.Fits.{Fits, Settles}
use Rattle.interleave_core.specs.World.{World, entry_of, entry_after, place, key_of}
use Rattle.interleave_core.proofs.Chains.{own-push_of, own-push_other, state-push_of, state-push_other, chain_push, chain_take, own-take_nil, state_front}
use Rattle.interleave_core.proofs.Sectors.{sector-set}

pub record Kept (w : World) : Type 0 where
  pub synced : w.synced ≤ length w.records
  pub keyed : length w.keys ≡ length w.base * w.sectors
  pub marked : length w.written ≡ length w.base * w.sectors
  pub legal : IsHistory w.base w.records
  pub fits : (count b s : ℕ) → w.synced ≤ count → count ≤ length w.records → b < length w.base → s < w.sectors → Fits (entry_after w count b) (key_of w b s)

-- all the records: the entry now
pub fits_now : (w : World) → Kept w → (b s : ℕ) → b < length w.base → s < w.sectors → Fits (entry_of w b) (key_of w b s)
fits_now w kept b s within in_block =
    subst (λ (l : List Record). Fits (state w.base l b) (key_of w b s)) (take_all (length w.records) w.records (omega arith))
    (kept.fits (length w.records) b s kept.synced (omega arith) within in_block)

-- A record is appended that is legal at each block that it names, and leaves it an entry that its sectors fit.
pub kept_push : (w : World) (made : Record) → Kept w
    → ((b : ℕ) → names_block b made ≡ true → b < length w.base)
    → ((b : ℕ) → b < length w.base → names_block b made ≡ true → IsLegalAt (entry_of w b) made)
    → ((b s : ℕ) → b < length w.base → s < w.sectors → names_block b made ≡ true → Fits (leaves made (entry_of w b)) (key_of w b s))
    → Kept (record w { records = w.records ++ made ∷ [] })
kept_push w made kept inside legal fits = record {
  synced = omega (arith, kept.synced, length_push w.records made);
  keyed = kept.keyed;
  marked = kept.marked;
  legal = record {
    chains = λ b within. elim (cases_Bool (names_block b made)) [
      | inl is ↦ subst (IsChain (entry_at w.base b)) (sym (own-push_of b w.records made is))
          (chain_push (entry_at w.base b) (records_of b w.records) made (kept.legal.chains b within) (legal b within is))
      | inr other ↦ subst (IsChain (entry_at w.base b)) (sym (own-push_other b w.records made other)) (kept.legal.chains b within)
    ];
    within = λ b past. elim (cases_Bool (names_block b made)) [
      | inl is ↦ absurd (omega (arith, inside b is))
      | inr other ↦ own-push_other b w.records made other ∙ kept.legal.within b past
    ];
  };
  fits = λ count b s low high within in_block. elim (cases_lt (length w.records) count) [
    | inl last ↦
        let all : take count (w.records ++ made ∷ []) ≡ w.records ++ made ∷ [] = take_all count (w.records ++ made ∷ []) (omega (arith, length_push w.records made)) in
        subst (λ (l : List Record). Fits (state w.base l b) (key_of w b s)) (sym all)
        (elim (cases_Bool (names_block b made)) [
          | inl is ↦ subst (λ (e : Entry). Fits e (key_of w b s)) (sym (state-push_of w.base b w.records made is)) (fits b s within in_block is)
          | inr other ↦ subst (λ (e : Entry). Fits e (key_of w b s)) (sym (state-push_other w.base b w.records made other)) (fits_now w kept b s within in_block)
        ])
    | inr earlier ↦
        subst (λ (l : List Record). Fits (state w.base l b) (key_of w b s)) (sym (take-append-le count w.records (made ∷ []) earlier))
        (kept.fits count b s low earlier within in_block)
  ];
}

pub kept_sync : (w : World) → Kept w → Kept (record w { synced = length w.records })
kept_sync w kept = record {
  synced = omega arith;
  keyed = kept.keyed;
  marked = kept.marked;
  legal = kept.legal;
  fits = λ count b s low high within in_block. kept.fits count b s (omega (arith, kept.synced)) high within in_block;
}

fits_pending : (e : Entry) → IsPending e → Fits e (pending_key e)
fits_pending (Settled key) pending = absurd (let e = pending.2 in cc)
fits_pending (Pending old new) pending = inr (inr refl)
fits_pending Bad pending = absurd (let e = pending.2 in cc)

-- A sector gets the pending key, while no record of its block stands behind the synced ones.
pub kept_write : (w : World) (b s : ℕ) → Kept w → b < length w.base → s < w.sectors → IsSafe (entry_of w b) (drop w.synced w.records) b
    → Kept (record w { keys = slice_set w.keys (place w b s) (pending_key (entry_of w b)); written = slice_set w.written (place w b s) true })
kept_write w b s kept within in_block safe = record {
  synced = kept.synced;
  keyed = length-set w.keys (place w b s) (pending_key (entry_of w b)) ∙ kept.keyed;
  marked = length-set w.written (place w b s) true ∙ kept.marked;
  legal = kept.legal;
  fits = λ count c t low high inside in_other. elim (sector-set w.keys (length w.base) w.sectors b s c t (pending_key (entry_of w b)) 0 kept.keyed within in_block in_other) [
    | inl same ↦
        subst (λ k. Fits (entry_after w count c) k) (sym same.2)
        (subst (λ d. Fits (entry_after w count d) (pending_key (entry_of w b))) (sym same.0)
        (subst (λ (e : Entry). Fits e (pending_key (entry_of w b))) (sym (state_front w.base b w.synced count w.records low safe.1))
        (fits_pending (entry_of w b) safe.0)))
    | inr other ↦ subst (λ k. Fits (entry_after w count c) k) (sym other.1) (kept.fits count c t low high inside in_other)
  ];
}

-- The journal began anew with entries that the sectors fit.
pub kept_anew : (w : World) (base : List Entry) → Kept w → length base ≡ length w.base
    → ((b s : ℕ) → b < length w.base → s < w.sectors → Fits (entry_at base b) (key_of w b s))
    → Kept (record w { base = base; records = []; synced = 0 })
kept_anew w base kept same fits = record {
  synced = omega arith;
  keyed = kept.keyed ∙ ap (λ k. k * w.sectors) (sym same);
  marked = kept.marked ∙ ap (λ k. k * w.sectors) (sym same);
  legal = record { chains = λ b within. tt; within = λ b past. refl };
  fits = λ count b s low high within in_block.
      subst (λ (l : List Record). Fits (state base l b) (key_of w b s)) (sym (take-nil count)) (fits b s (omega arith) in_block);
}

pub kept_stop : (w : World) (keep : ℕ) → Kept w → w.synced ≤ keep → keep ≤ length w.records → Kept (record w { records = take keep w.records })
kept_stop w keep kept low high = record {
  synced = omega (arith, length-take-le keep w.records high);
  keyed = kept.keyed;
  marked = kept.marked;
  legal = record {
    chains = λ b within. chain_take (entry_at w.base b) b keep w.records (kept.legal.chains b within);
    within = λ b past. own-take_nil b keep w.records (kept.legal.within b past);
  };
  fits = λ count b s from to within in_block.
      let le : count ≤ keep = omega (arith, length-take-le keep w.records high) in
      subst (λ (l : List Record). Fits (state w.base l b) (key_of w b s)) (sym (take-take count keep w.records le))
      (kept.fits count b s from (omega arith) within in_block);
}

-- the entries of all blocks, one by one
pub states_length : (base : List Entry) (records : List Record) → length (states base records) ≡ length base
states_length base records = length-map-range_with_len (state base records) 0 (length base)

pub states_at : (base : List Entry) (records : List Record) (b : ℕ) → b < length base → entry_at (states base records) b ≡ state base records b
states_at base records b within = get_or-map-range_with_len (state base records) 0 (length base) b b Bad within (omega arith)

-- The sectors fit the entry that a recovery gives.
pub settled_fits : (key : ℕ → ℕ) (many : ℕ) (e to : Entry) → Settles key many e to → (s : ℕ) → s < many → Fits to (key s)
settled_fits key many Bad to settles s within = subst (λ (x : Entry). Fits x (key s)) (sym settles) tt
settled_fits key many (Settled k) to settles s within = elim settles [
  | inl all ↦ subst (λ (x : Entry). Fits x (key s)) (sym all.1) (all.0 s within)
  | inr bad ↦ subst (λ (x : Entry). Fits x (key s)) (sym bad.1) tt
]
settled_fits key many (Pending old new) to settles s within = elim settles [
  | inl all ↦ subst (λ (x : Entry). Fits x (key s)) (sym all.1) (all.0 s within)
  | inr rest ↦ elim rest [
    | inl all ↦ subst (λ (x : Entry). Fits x (key s)) (sym all.2) (all.1 s within)
    | inr more ↦ elim more [
      | inl mixed ↦ subst (λ (x : Entry). Fits x (key s)) (sym mixed.3) (mixed.2 s within)
      | inr bad ↦ subst (λ (x : Entry). Fits x (key s)) (sym bad.1) tt
    ]
  ]
]

-- A recovery makes no entry bad that its sectors fit.
pub never_bad : (key : ℕ → ℕ) (many : ℕ) (e to : Entry) → Settles key many e to → ((s : ℕ) → s < many → Fits e (key s)) → e ≢ Bad → to ≢ Bad
never_bad key many Bad to settles fits good = absurd (good refl)
never_bad key many (Settled k) to settles fits good = elim settles [
  | inl all ↦ λ is. absurd (let e = sym all.1 ∙ is in cc)
  | inr bad ↦ absurd (bad.0 fits)
]
never_bad key many (Pending old new) to settles fits good = elim settles [
  | inl all ↦ λ is. absurd (let e = sym all.1 ∙ is in cc)
  | inr rest ↦ elim rest [
    | inl all ↦ λ is. absurd (let e = sym all.2 ∙ is in cc)
    | inr more ↦ elim more [
      | inl mixed ↦ λ is. absurd (let e = sym mixed.3 ∙ is in cc)
      | inr bad ↦ absurd (bad.0 fits)
    ]
  ]
]
