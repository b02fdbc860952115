-- Stories that go on.
use Rattle.std.proofs.Common.{◌≡◌, ◌⊎◌, inl, inr, ⊎_elim, ℕ, zero, suc, ◌+◌, ◌*◌, ◌<◌, ◌≤◌, List, [], ◌∷◌, ◌++◌, length, take, slice_get, Option, Some, refl, sym, ap, ◌∙◌, subst, arith}
use Rattle.std.proofs.lemmas.List.{length_push, take-append-le}
use Rattle.std.proofs.lemmas.Bool.{cases_lt}
use Rattle.std.proofs.lemmas.Option.{slice_get_within}
use Rattle.key_state.specs.declared.entry.Entry.{Entry}
use Rattle.key_state.specs.declared.record.Record.{Record}
use Rattle.key_state.specs.Entries.{states, IsLegalOn, IsHistory}
use Rattle.key_state.proofs.Histories.{history_more, history_nil, length-states}
use Rattle.journal_layout.specs.declared.live.Live.{Live}
use Rattle.journal_layout.specs.Recovery.{Sectors, Recovers, Gives, IsMap}
use Rattle.vd_disk.specs.Disk.{Table}
use Rattle.journal_core.specs.Chapters.{Chapter, epoch_after, Shows, Tells, IsStory, IsFilled}
use Rattle.journal_core.specs.Keeps.{story_of}

pub get_front : {X : Type 0} (xs ys : List X) (i : ℕ) → i < length xs → slice_get (xs ++ ys) i ≡ slice_get xs i
get_front [] ys i early = absurd (omega (arith, early))
get_front (x ∷ xs) ys zero early = refl
get_front (x ∷ xs) ys (suc i) early = get_front xs ys i (omega (arith, early))

pub get_last : {X : Type 0} (xs : List X) (x : X) (i : ℕ) → i ≡ length xs → slice_get (xs ++ x ∷ []) i ≡ Some x
get_last [] x zero is = refl
get_last [] x (suc i) is = absurd (omega (arith, is))
get_last (y ∷ xs) x zero is = absurd (omega (arith, is))
get_last (y ∷ xs) x (suc i) is = get_last xs x i (omega (arith, is))

some_same : {X : Type 0} (a b : X) → ◌≡◌ {A = Option X} (Some a) (Some b) → a ≡ b
some_same a b e = cc

pub get_cases : {X : Type 0} (xs : List X) (x : X) (i : ℕ) (y : X) → slice_get (xs ++ x ∷ []) i ≡ Some y → ((i < length xs) × (slice_get xs i ≡ Some y)) ⊎ ((i ≡ length xs) × (x ≡ y))
get_cases xs x i y is = elim (cases_lt i (length xs)) [
  | inl before ↦ inl (before, sym (get_front xs (x ∷ []) i before) ∙ is)
  | inr late ↦
      let within = slice_get_within (xs ++ x ∷ []) i y is in
      let last : i ≡ length xs = omega (arith, within, late, length_push xs x) in
      inr (last, some_same x y (sym (get_last xs x i last) ∙ is))
]

-- Each chapter is still there, with its records first.
pub record Grew (old new : List Chapter) : Type 0 where
  pub there : (i : ℕ) (chapter : Chapter) → slice_get old i ≡ Some chapter
      → (after : Chapter) × (slice_get new i ≡ Some after) × (after.base ≡ chapter.base)
      × ((n : ℕ) → n ≤ length chapter.past → (n ≤ length after.past) × (take n after.past ≡ take n chapter.past))

pub shows_more : (first : Live) (old new : List Chapter) (image : Sectors) (i n : ℕ) → Grew old new → Shows first old image i n → Shows first new image i n
shows_more first old new image i n grew shows =
    let to = grew.there i shows.0 shows.1.is in
    let front = to.3 n shows.1.few in (
      to.0,
      record {
        is = to.1;
        few = front.0;
        map = subst (λ (b : List Entry). IsMap image (epoch_after first i) b) (sym to.2) shows.1.map;
        gives = subst (λ (r : List Record). Gives image first.id (Recovers (epoch_after first i) r (states to.0.base r))) (sym front.1)
            (subst (λ (b : List Entry). Gives image first.id (Recovers (epoch_after first i) (take n shows.0.past) (states b (take n shows.0.past)))) (sym to.2) shows.1.gives);
      },
    )

pub tells_more : (first : Live) (old new : List Chapter) (moments : List Table) (start : ℕ) → Grew old new → Tells first old moments start → Tells first new moments start
tells_more first old new moments start grew tells = record {
  begun = tells.begun;
  shown = λ m image later at.
      let was = tells.shown m image later at in
      (was.0, was.1, shows_more first old new image was.0 was.1 grew was.2);
  grows = λ m n image later order at.
      let was = tells.grows m n image later order at in
      let worse = was.2 in (
        was.0,
        was.1,
        (
          worse.0,
          worse.1,
          worse.2,
          worse.3,
          shows_more first old new was.0 worse.0 worse.1 grew worse.4,
          shows_more first old new image worse.2 worse.3 grew worse.5,
          worse.6,
        ),
      );
}

-- what is shown of the last chapter
pub shown_few : (first : Live) (before : List Chapter) (base : List Entry) (past : List Record) (image : Sectors) (n : ℕ) → Shows first (story_of before base past) image (length before) n → n ≤ length past
shown_few first before base past image n shows =
    let own : Chapter = record { base = base; past = past } in
    let same : own ≡ shows.0 = some_same own shows.0 (sym (get_last before own (length before) refl) ∙ shows.1.is) in
    omega (arith, shows.1.few, ap (λ (c : Chapter). length c.past) same)

stays : (chapter : Chapter) (n : ℕ) → n ≤ length chapter.past → (n ≤ length chapter.past) × (take n chapter.past ≡ take n chapter.past)
stays chapter n few = (few, refl)

-- one record more
pub grew_record : (before : List Chapter) (base : List Entry) (past : List Record) (made : Record) → Grew (story_of before base past) (story_of before base (past ++ made ∷ []))
grew_record before base past made = record {
  there = λ i chapter is. ⊎_elim
      (λ early. (chapter, get_front before (record { base = base; past = past ++ made ∷ [] } ∷ []) i early.0 ∙ early.1, refl, stays chapter))
      (λ last.
      let now : Chapter = record { base = base; past = past ++ made ∷ [] } in (
        now,
        get_last before now i last.0,
        ap (λ (c : Chapter). c.base) last.1,
        λ n few.
            let pasts : past ≡ chapter.past = ap (λ (c : Chapter). c.past) last.1 in
            let fits : n ≤ length past = omega (arith, few, ap (λ (l : List Record). length l) pasts) in
            (omega (arith, fits, length_push past made), take-append-le n past (made ∷ []) fits ∙ ap (λ (l : List Record). take n l) pasts),
      ))
      (get_cases before (record { base = base; past = past }) i chapter is);
}

-- one chapter more
pub grew_chapter : (story : List Chapter) (next : Chapter) → Grew story (story ++ next ∷ [])
grew_chapter story next = record {
  there = λ i chapter is. (chapter, get_front story (next ∷ []) i (slice_get_within story i chapter is) ∙ is, refl, stays chapter);
}

pub story_record : (first : Live) (before : List Chapter) (base : List Entry) (past : List Record) (made : Record) → IsStory first (story_of before base past)
    → IsLegalOn (states base past) made → IsStory first (story_of before base (past ++ made ∷ []))
story_record first before base past made story legal =
    let old : Chapter = record { base = base; past = past } in
    let now : Chapter = record { base = base; past = past ++ made ∷ [] } in
    let own : slice_get (story_of before base past) (length before) ≡ Some old = get_last before old (length before) refl in
    record {
      sized = λ i chapter is. ⊎_elim
          (λ early. story.sized i chapter (get_front before (old ∷ []) i early.0 ∙ early.1))
          (λ last. ap (λ (c : Chapter). length c.base) (sym last.1) ∙ story.sized (length before) old own)
          (get_cases before now i chapter is);
      legal = λ i chapter is. ⊎_elim
          (λ early. story.legal i chapter (get_front before (old ∷ []) i early.0 ∙ early.1))
          (λ last. subst (λ (c : Chapter). IsHistory c.base c.past) last.1 (history_more base past made (story.legal (length before) old own) legal))
          (get_cases before now i chapter is);
      links = λ i chapter next is is_next. ⊎_elim
          (λ early. ⊎_elim
          (λ soon. story.links i chapter next (get_front before (old ∷ []) i early.0 ∙ early.1) (get_front before (old ∷ []) (i + 1) soon.0 ∙ soon.1))
          (λ last.
          let base_of : base ≡ next.base = ap (λ (c : Chapter). c.base) last.1 in
          sym base_of ∙ story.links i chapter old (get_front before (old ∷ []) i early.0 ∙ early.1) (get_last before old (i + 1) last.0))
          (get_cases before now (i + 1) next is_next))
          (λ last.
          let within = slice_get_within (before ++ now ∷ []) (i + 1) next is_next in
          absurd (omega (arith, within, last.0, length_push before now)))
          (get_cases before now i chapter is);
    }

pub story_chapter : (first : Live) (before : List Chapter) (base : List Entry) (past : List Record) → IsStory first (story_of before base past)
    → IsStory first (story_of (story_of before base past) (states base past) [])
story_chapter first before base past story =
    let old : Chapter = record { base = base; past = past } in
    let all = story_of before base past in
    let now : Chapter = record { base = states base past; past = [] } in
    let own : slice_get all (length before) ≡ Some old = get_last before old (length before) refl in
    record {
      sized = λ i chapter is. ⊎_elim
          (λ early. story.sized i chapter early.1)
          (λ last. ap (λ (c : Chapter). length c.base) (sym last.1) ∙ length-states base past ∙ story.sized (length before) old own)
          (get_cases all now i chapter is);
      legal = λ i chapter is. ⊎_elim
          (λ early. story.legal i chapter early.1)
          (λ last. subst (λ (c : Chapter). IsHistory c.base c.past) last.1 (history_nil (states base past)))
          (get_cases all now i chapter is);
      links = λ i chapter next is is_next. ⊎_elim
          (λ early. ⊎_elim
          (λ soon. story.links i chapter next early.1 soon.1)
          (λ last.
          let at : i ≡ length before = omega (arith, last.0, length_push before old) in
          let chapters : old ≡ chapter = some_same old chapter (sym (get_last before old i at) ∙ early.1) in
          ap (λ (c : Chapter). c.base) (sym last.1) ∙ ap (λ (c : Chapter). states c.base c.past) chapters)
          (get_cases all now (i + 1) next is_next))
          (λ last.
          let within = slice_get_within (all ++ now ∷ []) (i + 1) next is_next in
          absurd (omega (arith, within, last.0, length_push all now)))
          (get_cases all now i chapter is);
    }

pub filled_record : (log_sectors : ℕ) (before : List Chapter) (base : List Entry) (past : List Record) (made : Record) → IsFilled log_sectors (story_of before base past)
    → IsFilled log_sectors (story_of before base (past ++ made ∷ []))
filled_record log_sectors before base past made filled i chapter next is is_next =
    let old : Chapter = record { base = base; past = past } in
    let now : Chapter = record { base = base; past = past ++ made ∷ [] } in
    ⊎_elim
    (λ early. ⊎_elim
    (λ soon. filled i chapter next (get_front before (old ∷ []) i early.0 ∙ early.1) (get_front before (old ∷ []) (i + 1) soon.0 ∙ soon.1))
    (λ last. filled i chapter old (get_front before (old ∷ []) i early.0 ∙ early.1) (get_last before old (i + 1) last.0))
    (get_cases before now (i + 1) next is_next))
    (λ last.
    let within = slice_get_within (before ++ now ∷ []) (i + 1) next is_next in
    absurd (omega (arith, within, last.0, length_push before now)))
    (get_cases before now i chapter is)

pub filled_chapter : (log_sectors : ℕ) (before : List Chapter) (base : List Entry) (past : List Record) (next : Chapter) → IsFilled log_sectors (story_of before base past)
    → length past ≡ 30 * log_sectors + 1 → IsFilled log_sectors (story_of before base past ++ next ∷ [])
filled_chapter log_sectors before base past later filled long i chapter next is is_next =
    let old : Chapter = record { base = base; past = past } in
    let all = story_of before base past in
    ⊎_elim
    (λ early. ⊎_elim
    (λ soon. filled i chapter next early.1 soon.1)
    (λ last.
    let at : i ≡ length before = omega (arith, last.0, length_push before old) in
    let chapters : old ≡ chapter = some_same old chapter (sym (get_last before old i at) ∙ early.1) in
    ap (λ (c : Chapter). length c.past) (sym chapters) ∙ long)
    (get_cases all later (i + 1) next is_next))
    (λ last.
    let within = slice_get_within (all ++ later ∷ []) (i + 1) next is_next in
    absurd (omega (arith, within, last.0, length_push all later)))
    (get_cases all later i chapter is)
