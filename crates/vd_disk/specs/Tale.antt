-- What a disk in memory tells fits together, and what one step more does.
use Rattle.std.specs.Prelude.{◌≡◌, ℕ, ◌+◌, ◌*◌, ◌%◌, ◌^◌, ◌-◌, ◌<◌, ◌≤◌, List, [], ◌∷◌, ◌++◌, length, replicate, Contains, slice_index_or, slice_set, Some, All, refl}
use Rattle.std.proofs.Common.{suc, inl, inr, None, Option, sym, ap, ◌∙◌, subst, arith, length-set, get_or, set}
use Rattle.std.proofs.lemmas.List.{length-map, length-append, length-replicate, length_push, get_or-set_same, get_or-set_other, get_or-map, get_or-replicate, get_or-append_right, get_or_append_left, get_or_past, get_or_push}
use Rattle.std.proofs.lemmas.List.Elements.{All-cons, All-nil, Contains-push, Contains-append_left, Contains-get_or}
use Rattle.std.proofs.lemmas.Bool.{cases_eq, cases_lt}
use Rattle.vd_disk.specs.declared.memory.Step.{Step}
use Rattle.vd_disk.specs.declared.memory.Step.TheVariants.{Write, FailedWrite, Sync, Lengthen}
use Rattle.vd_disk.specs.Disk.{Sectors, Table, WhenTold, IsImage, IsTale, present, written, settled, zeros, longer, longer_table}
use Rattle.vd_disk.specs.Step.{now_next, table_next, now_after, tables_after, tables_from, HasRow}

pub length-longer : (size : ℕ) (sectors : Sectors) → length (longer size sectors) ≡ length sectors + (size - length sectors)
length-longer size sectors = omega (arith, length-append sectors (replicate (size - length sectors) zeros), length-replicate (size - length sectors) zeros)

length-longer_table : (size : ℕ) (table : Table) → length (longer_table size table) ≡ length table + (size - length table)
length-longer_table size table = omega (arith, length-append table (replicate (size - length table) (zeros ∷ [])), length-replicate (size - length table) (zeros ∷ []))

later-now_next : (now : Sectors) (step : Step) → length now ≤ length (now_next now step)
later-now_next now (Write at bytes) = omega (arith, length-set now at bytes)
later-now_next now (FailedWrite at bytes) = omega arith
later-now_next now Sync = omega arith
later-now_next now (Lengthen size) = omega (arith, length-longer size now)

later-now_after : (now : Sectors) (steps : List Step) → length now ≤ length (now_after now steps)
later-now_after now [] = omega arith
later-now_after now (step ∷ steps) = omega (arith, later-now_after (now_next now step) steps, later-now_next now step)

length-settled : (now : Sectors) → length (settled now) ≡ length now
length-settled now = length-map now (λ sector. sector ∷ [])

pub length-table_next : (table : Table) (now : Sectors) (step : Step) → length table ≡ length now → length (table_next table now step) ≡ length (now_next now step)
length-table_next table now (Write at bytes) same = length-set table at _ ∙ same ∙ sym (length-set now at bytes)
length-table_next table now (FailedWrite at bytes) same = length-set table at _ ∙ same
length-table_next table now Sync same = length-settled now
length-table_next table now (Lengthen size) same = omega (arith, length-longer_table size table, length-longer size now, same)

tables_are : (table : Table) (now : Sectors) (steps : List Step) → length table ≡ length now → All (λ (t : Table). length t ≤ length (now_after now steps)) (tables_after table now steps)
tables_are table now [] same = All-cons (λ (t : Table). length t ≤ length now) table [] (omega arith) (All-nil (λ (t : Table). length t ≤ length now))
tables_are table now (step ∷ steps) same =
    All-cons (λ (t : Table). length t ≤ length (now_after (now_next now step) steps)) table _ (omega (arith, same, later-now_after (now_next now step) steps, later-now_next now step))
    (tables_are (table_next table now step) (now_next now step) steps (length-table_next table now step same))

some_tables : (table : Table) (now : Sectors) (steps : List Step) → 0 < length (tables_after table now steps)
some_tables table now [] = omega arith
some_tables table now (step ∷ steps) = omega arith

-- the last of more tables is the last of them
pub present_more : (table : Table) (tables : List Table) → 0 < length tables → present (table ∷ tables) ≡ present tables
present_more table tables some =
    let is : length (table ∷ tables) - 1 ≡ suc (length tables - 1) = omega arith in
    ap (λ k. get_or (table ∷ tables) k []) is

pub present-push : (tables : List Table) (table : Table) → present (tables ++ table ∷ []) ≡ table
present-push tables table =
    let last : length (tables ++ table ∷ []) - 1 ≡ length tables = omega (arith, length_push tables table) in
    ap (λ k. get_or (tables ++ table ∷ []) k []) last ∙ get_or_push tables table [] (length tables) refl

pub written_is_image : (table : Table) (image : Sectors) (at : ℕ) (bytes : List ℕ) → IsImage table image → IsImage (written at bytes table) (slice_set image at bytes)
written_is_image table image at bytes is = record {
  size = length-set image at bytes ∙ is.size ∙ sym (length-set table at _);
  each = λ i within.
      let inside : i < length table = omega (arith, length-set table at (slice_index_or table at [] ++ bytes ∷ [])) in
      elim (cases_eq i at) [
        | inl same ↦
            let here : at < length table = omega arith in
            let there : at < length image = omega (arith, is.size) in
            let holds : get_or (set table at (get_or table at [] ++ bytes ∷ [])) i [] ≡ get_or table at [] ++ bytes ∷ [] =
            ap (λ k. get_or (set table at (get_or table at [] ++ bytes ∷ [])) k []) same ∙ get_or-set_same table at _ [] here in
            let has : get_or (set image at bytes) i [] ≡ bytes = ap (λ k. get_or (set image at bytes) k []) same ∙ get_or-set_same image at bytes [] there in
            subst (λ (h : Sectors). Contains h (get_or (set image at bytes) i [])) (sym holds)
            (subst (λ (b : List ℕ). Contains (get_or table at [] ++ bytes ∷ []) b) (sym has) (Contains-push (get_or table at []) bytes))
        | inr other ↦
            subst (λ (h : Sectors). Contains h (get_or (set image at bytes) i [])) (sym (get_or-set_other table at i _ [] other))
            (subst (λ (b : List ℕ). Contains (get_or table i []) b) (sym (get_or-set_other image at i bytes [] other)) (is.each i inside))
      ];
}

-- what a read gave before may still be there
pub kept_is_image : (table : Table) (image : Sectors) (at : ℕ) (bytes : List ℕ) → IsImage table image → IsImage (written at bytes table) image
kept_is_image table image at bytes is = record {
  size = is.size ∙ sym (length-set table at _);
  each = λ i within.
      let inside : i < length table = omega (arith, length-set table at (slice_index_or table at [] ++ bytes ∷ [])) in
      elim (cases_eq i at) [
        | inl same ↦
            let here : at < length table = omega arith in
            let holds : get_or (set table at (get_or table at [] ++ bytes ∷ [])) i [] ≡ get_or table i [] ++ bytes ∷ [] =
            ap (λ k. get_or (set table at (get_or table at [] ++ bytes ∷ [])) k []) same ∙ get_or-set_same table at _ [] here
            ∙ ap (λ k. get_or table k [] ++ bytes ∷ []) (sym same) in
            subst (λ (h : Sectors). Contains h (get_or image i [])) (sym holds)
            (Contains-append_left (get_or table i []) (bytes ∷ []) (get_or image i []) (is.each i inside))
        | inr other ↦
            subst (λ (h : Sectors). Contains h (get_or image i [])) (sym (get_or-set_other table at i _ [] other)) (is.each i inside)
      ];
}

pub settled_is_image : (now : Sectors) → IsImage (settled now) now
settled_is_image now = record {
  size = sym (length-settled now);
  each = λ i within.
      let inside : i < length now = omega (arith, length-settled now) in
      subst (λ (h : Sectors). Contains h (get_or now i [])) (sym (get_or-map (λ sector. sector ∷ []) now i [] [] inside)) (0, omega arith, refl);
}

longer_is_image : (size : ℕ) (table : Table) (now : Sectors) → IsImage table now → IsImage (longer_table size table) (longer size now)
longer_is_image size table now is = record {
  size = omega (arith, length-longer_table size table, length-longer size now, is.size);
  each = λ i within. elim (cases_lt i (length table)) [
    | inl inside ↦
        let here : i < length now = omega (arith, inside, is.size) in
        subst (λ (h : Sectors). Contains h (get_or (longer size now) i [])) (sym (get_or_append_left table (replicate (size - length table) (zeros ∷ [])) [] i inside))
        (subst (λ (b : List ℕ). Contains (get_or table i []) b) (sym (get_or_append_left now (replicate (size - length now) zeros) [] i here)) (is.each i inside))
    | inr past ↦
        let far : i - length table < size - length table = omega (arith, within, length-longer_table size table) in
        let behind : i - length table < size - length now = omega (arith, far, is.size) in
        let row : get_or (longer_table size table) i [] ≡ zeros ∷ [] =
        get_or-append_right table (replicate (size - length table) (zeros ∷ [])) (length table) i [] refl past ∙ get_or-replicate (size - length table) (i - length table) (zeros ∷ []) [] far in
        let has : get_or (longer size now) i [] ≡ zeros =
        get_or-append_right now (replicate (size - length now) zeros) (length table) i [] is.size past ∙ get_or-replicate (size - length now) (i - length table) zeros [] behind in
        subst (λ (h : Sectors). Contains h (get_or (longer size now) i [])) (sym row) (subst (λ (b : List ℕ). Contains (zeros ∷ []) b) (sym has) (0, omega arith, refl))
  ];
}

next_is_image : (table : Table) (now : Sectors) (step : Step) → IsImage table now → IsImage (table_next table now step) (now_next now step)
next_is_image table now (Write at bytes) is = written_is_image table now at bytes is
next_is_image table now (FailedWrite at bytes) is = kept_is_image table now at bytes is
next_is_image table now Sync is = settled_is_image now
next_is_image table now (Lengthen size) is = longer_is_image size table now is

now_is_image : (table : Table) (now : Sectors) (steps : List Step) → IsImage table now → IsImage (present (tables_after table now steps)) (now_after now steps)
now_is_image table now [] is = is
now_is_image table now (step ∷ steps) is =
    subst (λ (t : Table). IsImage t (now_after (now_next now step) steps)) (sym (present_more table _ (some_tables _ _ steps)))
    (now_is_image (table_next table now step) (now_next now step) steps (next_is_image table now step is))

present_fits : (table : Table) (now : Sectors) (steps : List Step) → length table ≡ length now → length (present (tables_after table now steps)) ≡ length (now_after now steps)
present_fits table now [] same = same
present_fits table now (step ∷ steps) same =
    ap (λ (t : Table). length t) (present_more table _ (some_tables (table_next table now step) (now_next now step) steps))
    ∙ present_fits (table_next table now step) (now_next now step) steps (length-table_next table now step same)

tale : (first : Sectors) (steps : List Step) → IsTale (length (now_after first steps)) (tables_from first steps) (now_after first steps)
tale first steps = record {
  as_many = refl;
  began = some_tables (settled first) first steps;
  earlier = tables_are (settled first) first steps (length-settled first);
  size_now = present_fits (settled first) first steps (length-settled first);
  now = now_is_image (settled first) first steps (settled_is_image first);
}

-- nothing is told
pub none_told : (x : Sectors) → ◌≡◌ {A = Option Sectors} None (Some x) → ⊥
none_told x is = cc

pub none_left : ◌≡◌ {A = List Table} [] []
none_left = refl

pub tale_of : (first now : Sectors) (steps : List Step) → now ≡ now_after first steps
    → WhenTold (Some now) (IsTale (length now) (tables_from first steps))
tale_of first now steps replays x is =
    let same : now ≡ x = cc in
    subst (λ (s : Sectors). IsTale (length now) (tables_from first steps) s) same
    (subst (λ (s : Sectors). IsTale (length s) (tables_from first steps) s) (sym replays) (tale first steps))

-- one step more
pub now_after-push : (now : Sectors) (steps : List Step) (step : Step) → now_after now (steps ++ step ∷ []) ≡ now_next (now_after now steps) step
now_after-push now [] step = refl
now_after-push now (s ∷ steps) step = now_after-push (now_next now s) steps step

pub tables_after-push : (table : Table) (now : Sectors) (steps : List Step) (step : Step)
    → tables_after table now (steps ++ step ∷ []) ≡ tables_after table now steps ++ table_next (present (tables_after table now steps)) (now_after now steps) step ∷ []
tables_after-push table now [] step = refl
tables_after-push table now (s ∷ steps) step =
    let rest = tables_after (table_next table now s) (now_next now s) steps in
    ap (λ (l : List Table). table ∷ l) (tables_after-push (table_next table now s) (now_next now s) steps step)
    ∙ ap (λ (p : Table). table ∷ (rest ++ table_next p (now_after (now_next now s) steps) step ∷ [])) (sym (present_more table rest (some_tables _ _ steps)))

-- row by row
pub first_row : (place : ℕ) (first : Sectors) → place < length first → HasRow place (settled first) first (get_or first place [] ∷ []) (get_or first place []) (length first)
first_row place first within = record {
  as_many = length-settled first;
  end_is = refl;
  held_is = sym (get_or-map (λ sector. sector ∷ []) first place [] [] within);
  current_is = λ inside. refl;
  not_yet = λ past. absurd (omega (arith, past, within));
}

pub no_row : (place : ℕ) (first : Sectors) → length first ≤ place → HasRow place (settled first) first [] zeros (length first)
no_row place first past = record {
  as_many = length-settled first;
  end_is = refl;
  held_is = sym (get_or_past (settled first) place [] (omega (arith, past, length-settled first)));
  current_is = λ inside. absurd (omega (arith, past, inside));
  not_yet = λ outside. refl;
}

written_there : (place at : ℕ) (bytes : List ℕ) (table : Table) (held : Sectors) → held ≡ get_or table place [] → at ≡ place → place < length table → held ++ bytes ∷ [] ≡ get_or (written at bytes table) place []
written_there place at bytes table held is same within =
    ap (λ (h : Sectors). h ++ bytes ∷ []) (is ∙ ap (λ k. get_or table k []) (sym same))
    ∙ sym (get_or-set_same table at (get_or table at [] ++ bytes ∷ []) [] (omega (arith, same, within)))
    ∙ ap (λ k. get_or (written at bytes table) k []) same

pub row_written : (place at : ℕ) (bytes : List ℕ) (table : Table) (now held : Sectors) (current : List ℕ) (end : ℕ) → HasRow place table now held current end → at ≡ place → place < end
    → HasRow place (written at bytes table) (slice_set now at bytes) (held ++ bytes ∷ []) bytes end
row_written place at bytes table now held current end row same within = record {
  as_many = length-set table at _ ∙ row.as_many ∙ sym (length-set now at bytes);
  end_is = row.end_is ∙ sym (length-set now at bytes);
  held_is = written_there place at bytes table held row.held_is same (omega (arith, within, row.end_is, row.as_many));
  current_is = λ inside. sym (get_or-set_same now at bytes [] (omega (arith, within, row.end_is, same))) ∙ ap (λ k. get_or (slice_set now at bytes) k []) same;
  not_yet = λ past. absurd (omega (arith, past, within));
}

pub row_failed : (place at : ℕ) (bytes : List ℕ) (table : Table) (now held : Sectors) (current : List ℕ) (end : ℕ) → HasRow place table now held current end → at ≡ place → place < end
    → HasRow place (written at bytes table) now (held ++ bytes ∷ []) current end
row_failed place at bytes table now held current end row same within = record {
  as_many = length-set table at _ ∙ row.as_many;
  end_is = row.end_is;
  held_is = written_there place at bytes table held row.held_is same (omega (arith, within, row.end_is, row.as_many));
  current_is = row.current_is;
  not_yet = row.not_yet;
}

-- A write elsewhere, or where no sector is, leaves the row.
elsewhere : {A : Type 0} (xs : List A) (place at : ℕ) (x d : A) → (at ≡ place → length xs ≤ place) → get_or (set xs at x) place d ≡ get_or xs place d
elsewhere xs place at x d other = elim (cases_eq place at) [
  | inl same ↦ get_or_past (set xs at x) place d (omega (arith, other (sym same), length-set xs at x)) ∙ sym (get_or_past xs place d (other (sym same)))
  | inr apart ↦ get_or-set_other xs at place x d apart
]

pub row_not_written : (place at : ℕ) (bytes : List ℕ) (table : Table) (now held : Sectors) (current : List ℕ) (end : ℕ) → HasRow place table now held current end → (at ≡ place → end ≤ place)
    → HasRow place (written at bytes table) (slice_set now at bytes) held current end
row_not_written place at bytes table now held current end row other = record {
  as_many = length-set table at _ ∙ row.as_many ∙ sym (length-set now at bytes);
  end_is = row.end_is ∙ sym (length-set now at bytes);
  held_is = row.held_is ∙ sym (elsewhere table place at _ [] (λ same. omega (arith, other same, row.end_is, row.as_many)));
  current_is = λ inside. row.current_is inside ∙ sym (elsewhere now place at bytes [] (λ same. omega (arith, other same, row.end_is)));
  not_yet = row.not_yet;
}

pub row_not_failed : (place at : ℕ) (bytes : List ℕ) (table : Table) (now held : Sectors) (current : List ℕ) (end : ℕ) → HasRow place table now held current end → (at ≡ place → end ≤ place)
    → HasRow place (written at bytes table) now held current end
row_not_failed place at bytes table now held current end row other = record {
  as_many = length-set table at _ ∙ row.as_many;
  end_is = row.end_is;
  held_is = row.held_is ∙ sym (elsewhere table place at _ [] (λ same. omega (arith, other same, row.end_is, row.as_many)));
  current_is = row.current_is;
  not_yet = row.not_yet;
}

pub row_synced : (place : ℕ) (table : Table) (now held : Sectors) (current : List ℕ) (end : ℕ) → HasRow place table now held current end → place < end → HasRow place (settled now) now (current ∷ []) current end
row_synced place table now held current end row within = record {
  as_many = length-settled now;
  end_is = row.end_is;
  held_is = ap (λ (b : List ℕ). b ∷ []) (row.current_is within) ∙ sym (get_or-map (λ sector. sector ∷ []) now place [] [] (omega (arith, within, row.end_is)));
  current_is = row.current_is;
  not_yet = row.not_yet;
}

pub row_not_synced : (place : ℕ) (table : Table) (now held : Sectors) (current : List ℕ) (end : ℕ) → HasRow place table now held current end → end ≤ place → HasRow place (settled now) now held current end
row_not_synced place table now held current end row past = record {
  as_many = length-settled now;
  end_is = row.end_is;
  held_is = row.held_is ∙ get_or_past table place [] (omega (arith, past, row.end_is, row.as_many)) ∙ sym (get_or_past (settled now) place [] (omega (arith, past, row.end_is, length-settled now)));
  current_is = row.current_is;
  not_yet = row.not_yet;
}

-- a sector that comes
pub row_made : (place size : ℕ) (table : Table) (now held more : Sectors) (current : List ℕ) (end to : ℕ) → HasRow place table now held current end → end ≤ place → place < size → more ≡ held ++ zeros ∷ [] → to ≡ end + (size - end)
    → HasRow place (longer_table size table) (longer size now) more current to
row_made place size table now held more current end to row past within pushed is =
    let none : held ≡ [] = row.held_is ∙ get_or_past table place [] (omega (arith, past, row.end_is, row.as_many)) in
    let few : length table ≤ place = omega (arith, past, row.end_is, row.as_many) in
    let fewer : length now ≤ place = omega (arith, past, row.end_is) in
    let here : get_or (longer_table size table) place [] ≡ zeros ∷ [] =
    get_or-append_right table (replicate (size - length table) (zeros ∷ [])) (length table) place [] refl few ∙ get_or-replicate (size - length table) (place - length table) (zeros ∷ []) [] (omega arith) in
    let there : get_or (longer size now) place [] ≡ zeros =
    get_or-append_right now (replicate (size - length now) zeros) (length now) place [] refl fewer ∙ get_or-replicate (size - length now) (place - length now) zeros [] (omega arith) in record {
      as_many = omega (arith, length-longer_table size table, length-longer size now, row.as_many);
      end_is = omega (arith, length-longer size now, row.end_is, is);
      held_is = pushed ∙ ap (λ (h : Sectors). h ++ zeros ∷ []) none ∙ sym here;
      current_is = λ inside. row.not_yet past ∙ sym there;
      not_yet = λ outside. row.not_yet past;
    }

-- a sector that was there, or still isn't
pub row_not_made : (place size : ℕ) (table : Table) (now held : Sectors) (current : List ℕ) (end to : ℕ) → HasRow place table now held current end → (end ≤ place → size ≤ place) → to ≡ end + (size - end)
    → HasRow place (longer_table size table) (longer size now) held current to
row_not_made place size table now held current end to row other is = elim (cases_lt place end) [
  | inl inside ↦
      let few : place < length table = omega (arith, inside, row.end_is, row.as_many) in
      let fewer : place < length now = omega (arith, inside, row.end_is) in record {
        as_many = omega (arith, length-longer_table size table, length-longer size now, row.as_many);
        end_is = omega (arith, length-longer size now, row.end_is, is);
        held_is = row.held_is ∙ sym (get_or_append_left table (replicate (size - length table) (zeros ∷ [])) [] place few);
        current_is = λ within. row.current_is inside ∙ sym (get_or_append_left now (replicate (size - length now) zeros) [] place fewer);
        not_yet = λ outside. absurd (omega (arith, outside, inside, is));
      }
  | inr past ↦
      let far : size ≤ place = other past in record {
        as_many = omega (arith, length-longer_table size table, length-longer size now, row.as_many);
        end_is = omega (arith, length-longer size now, row.end_is, is);
        held_is = row.held_is ∙ get_or_past table place [] (omega (arith, past, row.end_is, row.as_many)) ∙ sym (get_or_past (longer_table size table) place [] (omega (arith, length-longer_table size table, past, far, row.end_is, row.as_many)));
        current_is = λ within. absurd (omega (arith, within, is, past, far));
        not_yet = λ outside. row.not_yet past;
      }
]

-- the rows of all steps but the last, and then of that
pub row_of_more : (place : ℕ) (first : Sectors) (steps more : List Step) (step : Step) (held : Sectors) (current : List ℕ) (end : ℕ) → more ≡ steps ++ step ∷ []
    → HasRow place (table_next (present (tables_from first steps)) (now_after first steps) step) (now_next (now_after first steps) step) held current end
    → HasRow place (present (tables_from first more)) (now_after first more) held current end
row_of_more place first steps more step held current end is row =
    let last : present (tables_from first more) ≡ table_next (present (tables_from first steps)) (now_after first steps) step
    = ap present (ap (λ (l : List Step). tables_from first l) is ∙ tables_after-push (settled first) first steps step) ∙ present-push (tables_from first steps) _ in
    let now : now_after first more ≡ now_next (now_after first steps) step = ap (now_after first) is ∙ now_after-push first steps step in
    subst (λ (t : Table). HasRow place t (now_after first more) held current end) (sym last)
    (subst (λ (n : Sectors). HasRow place (table_next (present (tables_from first steps)) (now_after first steps) step) n held current end) (sym now) row)

pub some_held : (place : ℕ) (first : Sectors) (steps : List Step) (held : Sectors) (current : List ℕ) (end : ℕ) → HasRow place (present (tables_from first steps)) (now_after first steps) held current end → place < length (now_after first steps) → 0 < length held
some_held place first steps held current end row within =
    let is = (tale first steps).now in
    let inside : place < length (present (tables_from first steps)) = omega (arith, within, row.as_many) in
    let has = is.each place inside in
    let same = ap (λ (h : Sectors). length h) row.held_is in
    omega (arith, has.1, same)

pub length-present : (first : Sectors) (steps : List Step) → length (present (tables_from first steps)) ≡ length (now_after first steps)
length-present first steps = present_fits (settled first) first steps (length-settled first)

-- Each sector has the content of this number, modulo as many as it may have.
pub record IsPicked (pick : ℕ) (table : Table) (image : Sectors) : Type 0 where
  pub size : length image ≡ length table
  pub each : (i : ℕ) → i < length table
      → slice_index_or image i [] ≡ slice_index_or (slice_index_or table i []) ((i + 1) * pick % 2 ^ 64 % length (slice_index_or table i [])) []

some_row : (row : Sectors) (x : List ℕ) → Contains row x → 0 < length row
some_row row x has = omega (arith, has.1)

-- Each pick is an image.
pub picked_is_image : (pick : ℕ) (first : Sectors) (steps : List Step) (image : Sectors) →
    IsPicked pick (present (tables_from first steps)) image → IsImage (present (tables_from first steps)) image
picked_is_image pick first steps image is =
    let table = present (tables_from first steps) in
    let now = (tale first steps).now in
    record {
      size = is.size;
      each = λ i within.
          let row = slice_index_or table i [] in
          let some : 0 < length row = some_row row _ (now.each i within) in
          let place : (i + 1) * pick % 2 ^ 64 % length row < length row = omega arith in
          subst (λ (sector : List ℕ). Contains row sector) (sym (is.each i within))
          (Contains-get_or row ((i + 1) * pick % 2 ^ 64 % length row) [] place);
    }
