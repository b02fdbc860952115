-- A log whose sectors hold parts of one list of records stores a front of that list.
use Rattle.std.proofs.Common.{◌≡◌, ◌⊎◌, inl, inr, ℕ, zero, suc, ◌+◌, ◌-◌, ◌*◌, ◌/◌, ◌%◌, ◌<◌, ◌≤◌, min, List, [], ◌∷◌, length, take, drop, slice_get, Some, refl, sym, ap, ◌∙◌, subst, arith, length-take}
use Rattle.std.proofs.lemmas.Bool.{cases_lt}
use Rattle.std.proofs.lemmas.List.{take-append-drop}
use Rattle.std.proofs.lemmas.Option.{slice_get_within}
use Rattle.key_state.specs.declared.entry.Entry.{Entry}
use Rattle.key_state.specs.declared.record.Record.{Record}
use Rattle.key_state.specs.Entries.{IsHistory}
use Rattle.key_state.proofs.Histories.{history_split}
use Rattle.journal_layout.specs.declared.live.Live.{Live}
use Rattle.journal_layout.specs.Log.{HasCount, IsForeign, IsRecordOf, IsZeroPast}
use Rattle.journal_layout.specs.Recovery.{Sectors, blocks_of, place_at, Reads, Complete, EndsAt, Stores}
use Rattle.journal_layout.proofs.SameRecord.{same_count}

get_in_front : {X : Type 0} (n : ℕ) (xs : List X) (i : ℕ) → i < n → slice_get (take n xs) i ≡ slice_get xs i
get_in_front zero xs i early = absurd (omega (arith, early))
get_in_front (suc n) [] i early = refl
get_in_front (suc n) (x ∷ xs) zero early = refl
get_in_front (suc n) (x ∷ xs) (suc i) early = get_in_front n xs i (omega (arith, early))

-- a log sector with so many first records of its place in a list, and no others
pub record HoldsPart (live : Live) (past : List Record) (q : ℕ) (sector : List ℕ) (count : ℕ) : Type 0 where
  pub counted : HasCount live.version live.epoch q sector count
  pub there : 30 * q + count ≤ length past
  pub spelled : (j : ℕ) (made : Record) → j < count → slice_get past (30 * q + j) ≡ Some made → IsRecordOf live.version (blocks_of live) sector j made
  pub zeros : IsZeroPast sector count

module _ (live : Live) (base : List Entry) (log : Sectors) (past : List Record) (history : IsHistory base past) where
  -- The first n of them are read, where each of their sectors holds its part.
  pub reads_of_parts : (n : ℕ) → n ≤ length past → n ≤ 30 * length log
      → ((q : ℕ) → 30 * q < n → (count : ℕ) × HoldsPart live past q (place_at log q) count × (min 30 (n - 30 * q) ≤ count)) → Reads live base log (take n past)
  reads_of_parts n there room parts =
      let long : length (take n past) ≡ n = omega (arith, length-take n past, there) in
      record {
        room = omega (arith, long, room);
        counted = λ q some.
            let part = parts q (omega (arith, some, long)) in
            (part.0, part.1.counted, omega (arith, part.2, long));
        spelled = λ i made is.
            let inside : i < n = omega (arith, slice_get_within (take n past) i made is, long) in
            let whole : 30 * (i / 30) + i % 30 ≡ i = omega arith in
            let part = parts (i / 30) (omega (arith, inside)) in
            let own = sym (get_in_front n past i inside) ∙ is in
            part.1.spelled (i % 30) made (omega (arith, part.2, inside)) (ap (slice_get past) whole ∙ own);
        legal = (history_split base (take n past) (drop n past) (subst (IsHistory base) (sym (take-append-drop n past)) history)).0;
      }

  pub ends_at : (n q j : ℕ) → n ≤ length past → n ≡ 30 * q + j → j < 30 → Reads live base log (take n past) → EndsAt live base log (take n past) q j Complete → Stores live base log (take n past) Complete
  ends_at n q j there is small reads ends =
      let long : length (take n past) ≡ n = omega (arith, length-take n past, there) in
      let place : q ≡ length (take n past) / 30 = omega (arith, long, is, small) in
      let at : j ≡ length (take n past) % 30 = omega (arith, long, is, small) in
      record {
        reads = reads;
        ends = subst (λ m. EndsAt live base log (take n past) m (length (take n past) % 30) Complete) place (subst (λ m. EndsAt live base log (take n past) q m Complete) at ends);
      }

  abbrev StoresFront : Type 0
  StoresFront = (n : ℕ) × (n ≤ length past) × Stores live base log (take n past) Complete

  abbrev FullBefore : ℕ → Type 0
  FullBefore q = (p : ℕ) → p < q → HoldsPart live past p (place_at log p) 30

  full_reads : (q : ℕ) → q ≤ length log → 30 * q ≤ length past → FullBefore q → Reads live base log (take (30 * q) past)
  full_reads q inside there full = reads_of_parts (30 * q) there (omega (arith, inside)) (λ p some. (30, full p (omega (arith, some)), omega arith))

  full_more : (q : ℕ) → FullBefore q → HoldsPart live past q (place_at log q) 30 → FullBefore (suc q)
  full_more q full own p below = elim (cases_lt p q) [
    | inl early ↦ full p early
    | inr late ↦ let same : q ≡ p = omega (arith, below, late) in subst (λ n. HoldsPart live past n (place_at log n) 30) same own
  ]

  part_reads : (q count : ℕ) → q < length log → count ≤ 30 → FullBefore q → HoldsPart live past q (place_at log q) count → Reads live base log (take (30 * q + count) past)
  part_reads q count inside most full own =
      reads_of_parts (30 * q + count) own.there (omega (arith, inside, most))
      (λ p some. elim (cases_lt p q) [
        | inl early ↦ (30, full p early, omega arith)
        | inr late ↦
            let same : q ≡ p = omega (arith, late, some, most) in
            (count, subst (λ n. HoldsPart live past n (place_at log n) count) same own, omega (arith, same))
      ])

  from_place : (rest q : ℕ) → q + rest ≡ length log → 30 * q ≤ length past → FullBefore q
      → ((p : ℕ) → p < length log → IsForeign live.version live.epoch p (place_at log p) ⊎ ((count : ℕ) × HoldsPart live past p (place_at log p) count)) → StoresFront
  from_place zero q is there full parts =
      let end : length log ≤ q = omega (arith, is) in
      (30 * q, there, ends_at (30 * q) q 0 there (omega arith) (omega arith) (full_reads q (omega (arith, is)) there full) (inl (refl, inl end)))
  from_place (suc rest) q is there full parts =
      let inside : q < length log = omega (arith, is) in
      elim (parts q inside) [
        | inl foreign ↦ (30 * q, there, ends_at (30 * q) q 0 there (omega arith) (omega arith) (full_reads q (omega (arith, is)) there full) (inl (refl, inr foreign)))
        | inr own ↦ elim (cases_lt own.0 30) [
          | inl short ↦ (
            30 * q + own.0,
            own.1.there,
            ends_at (30 * q + own.0) q own.0 own.1.there refl short (part_reads q own.0 inside own.1.counted.most full own.1) (inr (own.1.counted, own.1.zeros)),
          )
          | inr whole ↦
              let all : own.0 ≡ 30 = omega (arith, whole, own.1.counted.most) in
              let part = subst (HoldsPart live past q (place_at log q)) all own.1 in
              from_place rest (suc q) (omega (arith, is)) (omega (arith, part.there)) (full_more q full part) parts
        ]
      ]

  -- Each sector is foreign or holds its part: so a front of the list is stored.
  pub front_stored : ((p : ℕ) → p < length log → IsForeign live.version live.epoch p (place_at log p) ⊎ ((count : ℕ) × HoldsPart live past p (place_at log p) count)) → StoresFront
  front_stored parts = from_place (length log) 0 (omega arith) (omega arith) (λ p below. absurd (omega (arith, below))) parts

-- Where the sectors have the counts of m records, at least m are stored.
pub at_least : (live : Live) (base : List Entry) (log : Sectors) (records : List Record) (m : ℕ) → Stores live base log records Complete → m ≤ 30 * length log
    → ((q : ℕ) → 30 * q < m → (count : ℕ) × HasCount live.version live.epoch q (place_at log q) count × (min 30 (m - 30 * q) ≤ count)) → m ≤ length records
at_least live base log records m stores room counted = elim (cases_lt (length records) m) [
  | inr enough ↦ enough
  | inl fewer ↦
      let n = length records in
      let has = counted (n / 30) (omega (arith, fewer)) in
      let more : n % 30 < has.0 = omega (arith, has.2, fewer) in
      absurd (elim stores.ends [
        | inl end ↦ elim end.1 [
          | inl past ↦ omega (arith, past, end.0, fewer, room)
          | inr foreign ↦ foreign has.1.head
        ]
        | inr own ↦ omega (arith, more, same_count live.version live.epoch _ _ _ _ own.0 has.1)
      ])
]
