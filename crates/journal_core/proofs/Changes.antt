-- Calls of a disk, one behind the other, by what they may write.
use Rattle.std.proofs.Common.{◌≡◌, ◌⊎◌, inl, inr, ⊎_elim, ℕ, ◌+◌, ◌-◌, ◌<◌, ◌≤◌, List, [], ◌∷◌, ◌++◌, length, take, Contains, Result, Ok, Err, slice_set, get_or, set, refl, sym, ap, ◌∙◌, subst, arith, length-take}
use Rattle.std.proofs.lemmas.List.{length_push, get_or_append_left, get_or_push, get_or-set_same, get_or-set_other, get_or-map, length-map, length-set, get_or-take, take_all, take_at, take-take}
use Rattle.std.proofs.lemmas.List.Elements.{Contains-push_cases}
use Rattle.std.proofs.lemmas.Bool.{cases_lt, cases_eq}
use Rattle.vd_disk.specs.Disk.{Sectors, Table, DiskSeen, WhenTold, IsImage, IsTale, Extends, Writes, Syncs, Leaves, present, written, settled, moment_written, told_written, sector_at}
use Rattle.vd_disk.specs.Tale.{kept_is_image, settled_is_image}
use Rattle.journal_core.specs.Changes.{table_at, row, ReadsAs, Tables, Changed}

pub present-push : (moments : List Table) (table : Table) → present (moments ++ table ∷ []) ≡ table
present-push moments table =
    ap (λ k. get_or (moments ++ table ∷ []) k []) (omega (arith, length_push moments table)) ∙ get_or_push moments table [] (length moments) refl

pub only_one : (x y : List ℕ) → Contains (x ∷ []) y → y ≡ x
only_one x y has =
    let first : 0 ≡ has.0 = omega (arith, has.1) in
    sym (ap (λ k. get_or (x ∷ []) k y) first ∙ has.2)

pub extends_none : (moments : List Table) → Extends moments moments
extends_none moments = record { front = take_all (length moments) moments (omega arith) }

pub extends_push : (moments : List Table) (table : Table) → Extends moments (moments ++ table ∷ [])
extends_push moments table = record { front = take_at moments (table ∷ []) (length moments) refl }

pub extends_longer : (old new : List Table) → Extends old new → length old ≤ length new
extends_longer old new extends = omega (arith, ap (λ (l : List Table). length l) extends.front, length-take (length old) new)

pub extends_then : (a b c : List Table) → Extends a b → Extends b c → Extends a c
extends_then a b c first second =
    record { front = sym (take-take (length a) (length b) c (extends_longer a b first)) ∙ ap (λ (l : List Table). take (length a) l) second.front ∙ first.front }

pub table_before : (old new : List Table) (m : ℕ) → Extends old new → m < length old → table_at new m ≡ table_at old m
table_before old new m extends before = sym (get_or-take (length old) new m [] before) ∙ ap (λ (l : List Table). get_or l m []) extends.front

pub tables_none : (Q : ℕ → List ℕ → Type 0) (size : ℕ) (moments : List Table) (image : Sectors) → 0 < length moments → length (present moments) ≡ size → IsImage (present moments) image
    → Tables Q (length moments) size moments
tables_none Q size moments image some sized is = record {
  began = (omega arith, some);
  sizes = λ m since within.
      let last : length moments - 1 ≡ m = omega (arith, since, within) in
      subst (λ k. length (table_at moments k) ≡ size) last sized;
  filled = λ m since within.
      let last : length moments - 1 ≡ m = omega (arith, since, within) in
      (image, subst (λ k. IsImage (table_at moments k) image) last is);
  rows = λ m n i content since order within inside has.
      let same : n ≡ m = omega (arith, since, order, within) in
      inl (subst (λ k. Contains (row (table_at moments k) i) content) same has);
}

-- one moment more
pub tables_push : (Q : ℕ → List ℕ → Type 0) (size : ℕ) (moments : List Table) (table : Table) (image after : Sectors) → 0 < length moments → length (present moments) ≡ size
    → IsImage (present moments) image → length table ≡ size → IsImage table after
    → ((i : ℕ) (content : List ℕ) → i < size → Contains (row table i) content → Contains (row (present moments) i) content ⊎ Q i content)
    → Tables Q (length moments) size (moments ++ table ∷ [])
tables_push Q size moments table image after some sized is more filled rows =
    let long : length (moments ++ table ∷ []) ≡ length moments + 1 = length_push moments table in
    let front : (m : ℕ) → m < length moments → table_at (moments ++ table ∷ []) m ≡ table_at moments m = λ m before. get_or_append_left moments (table ∷ []) [] m before in
    let back : (m : ℕ) → m ≡ length moments → table_at (moments ++ table ∷ []) m ≡ table = λ m last. ap (λ k. get_or (moments ++ table ∷ []) k []) last ∙ get_or_push moments table [] (length moments) refl in
    let first : (m : ℕ) → length moments ≤ m + 1 → m < length moments → table_at (moments ++ table ∷ []) m ≡ present moments =
    λ m since before.
    let last : m ≡ length moments - 1 = omega (arith, since, before) in
    front m before ∙ ap (λ k. get_or moments k []) last in
    record {
      began = (omega (arith, long), omega (arith, long));
      sizes = λ m since within. elim (cases_lt m (length moments)) [
        | inl before ↦ ap (λ (t : Table). length t) (first m since before) ∙ sized
        | inr late ↦ ap (λ (t : Table). length t) (back m (omega (arith, late, within, long))) ∙ more
      ];
      filled = λ m since within. elim (cases_lt m (length moments)) [
        | inl before ↦ (image, subst (λ (t : Table). IsImage t image) (sym (first m since before)) is)
        | inr late ↦ (after, subst (λ (t : Table). IsImage t after) (sym (back m (omega (arith, late, within, long)))) filled)
      ];
      rows = λ m n i content since order within inside has. elim (cases_lt n (length moments)) [
        | inl before ↦
            let same : n ≡ m = omega (arith, since, order, before) in
            inl (subst (λ k. Contains (row (table_at (moments ++ table ∷ []) k) i) content) same has)
        | inr late ↦
            let last : n ≡ length moments = omega (arith, late, within, long) in
            let here : Contains (row table i) content = subst (λ (t : Table). Contains (row t i) content) (back n last) has in
            elim (cases_lt m (length moments)) [
              | inl before ↦ subst (λ (t : Table). Contains (row t i) content ⊎ Q i content) (sym (first m since before)) (rows i content inside here)
              | inr after_all ↦
                  let same : n ≡ m = omega (arith, order, after_all, last) in
                  inl (subst (λ k. Contains (row (table_at (moments ++ table ∷ []) k) i) content) same has)
            ]
      ];
    }

-- what a write leaves
rows_written : (table : Table) (at : ℕ) (bytes : List ℕ) (i : ℕ) (content : List ℕ) → i < length table → Contains (row (written at bytes table) i) content
    → Contains (row table i) content ⊎ ((i ≡ at) × (content ≡ bytes))
rows_written table at bytes i content inside has = elim (cases_eq i at) [
  | inl same ↦
      let holds : row (written at bytes table) i ≡ row table i ++ bytes ∷ [] =
      ap (λ k. get_or (set table at (get_or table at [] ++ bytes ∷ [])) k []) same ∙ get_or-set_same table at _ [] (omega (arith, inside, same)) ∙ ap (λ k. get_or table k [] ++ bytes ∷ []) (sym same) in
      ⊎_elim (λ old. inl old) (λ new. inr (same, sym new)) (Contains-push_cases (row table i) bytes content (subst (λ (h : Sectors). Contains h content) holds has))
  | inr other ↦ inl (subst (λ (h : Sectors). Contains h content) (get_or-set_other table at i _ [] other) has)
]

pub rows_settled : (s : Sectors) (i : ℕ) (content : List ℕ) → i < length s → Contains (row (settled s) i) content → content ≡ sector_at s i
rows_settled s i content inside has =
    only_one (sector_at s i) content (subst (λ (h : Sectors). Contains h content) (get_or-map (λ sector. sector ∷ []) s i [] [] inside) has)

module _ (Q : ℕ → List ℕ → Type 0) (old new : DiskSeen) (tale : WhenTold old.told (IsTale old.sectors old.moments)) where
  by_write : (at : ℕ) (bytes : List ℕ) → Q at bytes → Leaves old new → old.faults ≤ new.faults
      → (new.told ≡ old.told) ⊎ (new.told ≡ told_written at bytes old.told)
      → WhenTold old.told (λ (_ : Sectors). (new.moments ≡ old.moments) ⊎ (new.moments ≡ moment_written at bytes old.moments)) → Changed Q old new
  by_write at bytes may leaves later tells goes = record {
    sectors = leaves.sectors;
    sure = leaves.sure;
    later = later;
    earlier = leaves.earlier;
    untold = λ none. ⊎_elim (λ e. e ∙ none) (λ e. e ∙ ap (told_written at bytes) none) tells;
    told = λ s is. ⊎_elim
        (λ e. (s, e ∙ is, record { as_many = refl; each = λ i inside. inl refl }))
        (λ e. (
          slice_set s at bytes,
          e ∙ ap (told_written at bytes) is,
          record {
            as_many = length-set s at bytes;
            each = λ i inside. elim (cases_eq i at) [
              | inl same ↦
                  let holds : sector_at (slice_set s at bytes) i ≡ bytes = ap (λ k. get_or (set s at bytes) k []) same ∙ get_or-set_same s at bytes [] (omega (arith, inside, same)) in
                  inr (subst (λ (b : List ℕ). Q i b) (sym holds) (subst (λ k. Q k bytes) (sym same) may))
              | inr other ↦ inl (get_or-set_other s at i bytes [] other)
            ];
          },
        ))
        tells;
    tables = λ s is.
        let t = tale s is in
        ⊎_elim
        (λ e. subst (λ (ms : List Table). Tables Q (length old.moments) old.sectors ms) (sym e) (tables_none Q old.sectors old.moments s t.began t.size_now t.now))
        (λ e. subst (λ (ms : List Table). Tables Q (length old.moments) old.sectors ms) (sym e)
        (tables_push Q old.sectors old.moments (written at bytes (present old.moments)) s s t.began t.size_now t.now
        (length-set (present old.moments) at _ ∙ t.size_now) (kept_is_image (present old.moments) s at bytes t.now)
        (λ i content inside has. ⊎_elim
        (λ was. inl was)
        (λ put. inr (subst (λ (b : List ℕ). Q i b) (sym put.1) (subst (λ k. Q k bytes) (sym put.0) may)))
        (rows_written (present old.moments) at bytes i content (omega (arith, inside, t.size_now)) has))))
        (goes s is);
  }

  tells_of : {E : Type 0} (at : ℕ) (bytes : List ℕ) (result : Result (Unit {0}) E) → Writes at bytes old new result → (new.told ≡ old.told) ⊎ (new.told ≡ told_written at bytes old.told)
  tells_of at bytes (Ok done) writes = inr writes.reads_as
  tells_of at bytes (Err e) writes = writes.failed_reads

  goes_of : {E : Type 0} (at : ℕ) (bytes : List ℕ) (result : Result (Unit {0}) E) → Writes at bytes old new result
      → WhenTold old.told (λ (_ : Sectors). (new.moments ≡ old.moments) ⊎ (new.moments ≡ moment_written at bytes old.moments))
  goes_of at bytes (Ok done) writes = λ s is. inr (writes.may_leave s is)
  goes_of at bytes (Err e) writes = λ s is. writes.failed_leaves

  -- a write, whatever it answered
  pub changed_write : {E : Type 0} (at : ℕ) (bytes : List ℕ) (result : Result (Unit {0}) E) → Q at bytes → Writes at bytes old new result → Leaves old new → old.faults ≤ new.faults → Changed Q old new
  changed_write at bytes result may writes leaves later = by_write at bytes may leaves later (tells_of at bytes result writes) (goes_of at bytes result writes)

  settles_of : {E : Type 0} (result : Result (Unit {0}) E) → Syncs old new result
      → WhenTold old.told (λ s. (new.moments ≡ old.moments) ⊎ (new.moments ≡ old.moments ++ settled s ∷ []))
  settles_of (Ok done) syncs = λ s is. inr (syncs.settles s is)
  settles_of (Err e) syncs = λ s is. inl syncs.failed

  -- a sync, whatever it answered
  pub changed_sync : {E : Type 0} (result : Result (Unit {0}) E) → Syncs old new result → Leaves old new → old.faults ≤ new.faults → Changed Q old new
  changed_sync result syncs leaves later = record {
    sectors = leaves.sectors;
    sure = leaves.sure;
    later = later;
    earlier = leaves.earlier;
    untold = λ none. syncs.told ∙ none;
    told = λ s is. (s, syncs.told ∙ is, record { as_many = refl; each = λ i inside. inl refl });
    tables = λ s is.
        let t = tale s is in
        ⊎_elim
        (λ e. subst (λ (ms : List Table). Tables Q (length old.moments) old.sectors ms) (sym e) (tables_none Q old.sectors old.moments s t.began t.size_now t.now))
        (λ e. subst (λ (ms : List Table). Tables Q (length old.moments) old.sectors ms) (sym e)
        (tables_push Q old.sectors old.moments (settled s) s s t.began t.size_now t.now (length-map s (λ sector. sector ∷ []) ∙ t.as_many) (settled_is_image s)
        (λ i content inside has.
        let is_read = rows_settled s i content (omega (arith, inside, t.as_many)) has in
        inl (subst (λ (b : List ℕ). Contains (row (present old.moments) i) b) (sym is_read) (t.now.each i (omega (arith, inside, t.size_now)))))))
        (settles_of result syncs s is);
  }

  -- a call that changes nothing but the count of faults
  pub changed_same : new ≡ record old { faults = new.faults } → old.faults ≤ new.faults → Changed Q old new
  changed_same same later = record {
    sectors = ap (λ (d : DiskSeen). d.sectors) same;
    sure = ap (λ (d : DiskSeen). d.sure) same;
    later = later;
    earlier = subst (λ (ms : List Table). Extends old.moments ms) (sym (ap (λ (d : DiskSeen). d.moments) same)) (extends_none old.moments);
    untold = λ none. ap (λ (d : DiskSeen). d.told) same ∙ none;
    told = λ s is. (s, ap (λ (d : DiskSeen). d.told) same ∙ is, record { as_many = refl; each = λ i inside. inl refl });
    tables = λ s is.
        let t = tale s is in
        subst (λ (ms : List Table). Tables Q (length old.moments) old.sectors ms) (sym (ap (λ (d : DiskSeen). d.moments) same))
        (tables_none Q old.sectors old.moments s t.began t.size_now t.now);
  }

pub reads_then : (Q : ℕ → List ℕ → Type 0) (a b c : Sectors) → ReadsAs Q a b → ReadsAs Q b c → ReadsAs Q a c
reads_then Q a b c first second = record {
  as_many = second.as_many ∙ first.as_many;
  each = λ i inside. ⊎_elim
      (λ same. ⊎_elim (λ before. inl (same ∙ before)) (λ put. inr (subst (λ (x : List ℕ). Q i x) (sym same) put)) (first.each i inside))
      (λ put. inr put)
      (second.each i (omega (arith, inside, first.as_many)));
}

-- one behind the other
pub changed_then : (Q : ℕ → List ℕ → Type 0) (a b c : DiskSeen) → Changed Q a b → Changed Q b c → Changed Q a c
changed_then Q a b c first second =
    let longer : length a.moments ≤ length b.moments = extends_longer a.moments b.moments first.earlier in
    record {
      sectors = second.sectors ∙ first.sectors;
      sure = second.sure ∙ first.sure;
      later = omega (arith, first.later, second.later);
      earlier = extends_then a.moments b.moments c.moments first.earlier second.earlier;
      untold = λ none. second.untold (first.untold none);
      told = λ s is.
          let mid = first.told s is in
          let last = second.told mid.0 mid.1 in
          (last.0, last.1, reads_then Q s mid.0 last.0 mid.2 last.2);
      tables = λ s is.
          let mid = first.told s is in
          let one = first.tables s is in
          let two = second.tables mid.0 mid.1 in
          let same : (m : ℕ) → m < length b.moments → table_at c.moments m ≡ table_at b.moments m = λ m before. table_before b.moments c.moments m second.earlier before in
          record {
            began = (omega (arith, longer, two.began.0), two.began.1);
            sizes = λ m since within. elim (cases_lt m (length b.moments)) [
              | inl before ↦ ap (λ (t : Table). length t) (same m before) ∙ one.sizes m since before
              | inr late ↦ two.sizes m (omega (arith, late)) within ∙ first.sectors
            ];
            filled = λ m since within. elim (cases_lt m (length b.moments)) [
              | inl before ↦ let has = one.filled m since before in (has.0, subst (λ (t : Table). IsImage t has.0) (sym (same m before)) has.1)
              | inr late ↦ two.filled m (omega (arith, late)) within
            ];
            rows = λ m n i content since order within inside has. elim (cases_lt n (length b.moments)) [
              | inl before ↦
                  subst (λ (t : Table). Contains (row t i) content ⊎ Q i content) (sym (same m (omega (arith, before, order))))
                  (one.rows m n i content since order before inside (subst (λ (t : Table). Contains (row t i) content) (same n before) has))
              | inr late ↦ elim (cases_lt m (length b.moments)) [
                | inr after ↦ two.rows m n i content (omega (arith, after)) order within (omega (arith, inside, first.sectors)) has
                | inl before ↦
                    let last = length b.moments - 1 in
                    let last_in : last < length b.moments = omega (arith, before) in
                    ⊎_elim
                    (λ was.
                    subst (λ (t : Table). Contains (row t i) content ⊎ Q i content) (sym (same m before))
                    (one.rows m last i content since (omega (arith, before)) last_in inside (subst (λ (t : Table). Contains (row t i) content) (same last last_in) was)))
                    (λ put. inr put)
                    (two.rows last n i content (omega (arith, before)) (omega (arith, late)) within (omega (arith, inside, first.sectors)) has)
              ]
            ];
          };
    }

-- what may be written may be among more
pub changed_wider : (Q R : ℕ → List ℕ → Type 0) (old new : DiskSeen) → ((i : ℕ) (content : List ℕ) → Q i content → R i content) → Changed Q old new → Changed R old new
changed_wider Q R old new more changed = record {
  sectors = changed.sectors;
  sure = changed.sure;
  later = changed.later;
  earlier = changed.earlier;
  untold = changed.untold;
  told = λ s is.
      let t = changed.told s is in
      (t.0, t.1, record { as_many = t.2.as_many; each = λ i inside. ⊎_elim (λ same. inl same) (λ put. inr (more i _ put)) (t.2.each i inside) });
  tables = λ s is.
      let t = changed.tables s is in
      record {
        began = t.began;
        sizes = t.sizes;
        filled = t.filled;
        rows = λ m n i content since order within inside has. ⊎_elim (λ was. inl was) (λ put. inr (more i content put)) (t.rows m n i content since order within inside has);
      };
}
