-- What stays of a story, and which of its epochs were full.
use Rattle.std.proofs.Common.{◌≡◌, inr, ⊎_elim, ℕ, ◌+◌, ◌-◌, ◌*◌, ◌<◌, List, [], ◌∷◌, ◌++◌, length, refl, ◌∙◌, subst, arith}
use Rattle.std.proofs.lemmas.List.{length_push}
use Rattle.std.proofs.lemmas.Option.{slice_get_within}
use Rattle.key_state.specs.declared.entry.Entry.{Entry}
use Rattle.key_state.specs.declared.record.Record.{Record}
use Rattle.journal_layout.specs.declared.live.Live.{Live}
use Rattle.journal_layout.specs.Recovery.{Sectors}
use Rattle.vd_disk.specs.Disk.{Table, DiskSeen, WhenTold, IsImageAt, IsTale, Extends, present}
use Rattle.journal_core.specs.Changes.{Changed}
use Rattle.journal_core.specs.Parts.{IsSectorOf, Stands}
use Rattle.journal_core.specs.Chapters.{Chapter, Shows, IsBefore, Tells, Lasts, WasFull, AreFull}
use Rattle.journal_core.specs.Keeps.{story_of, IsEpoch, Runs}
use Rattle.journal_core.proofs.Changes.{extends_longer}
use Rattle.journal_core.proofs.Stories.{Grew, get_front, get_last, get_cases, grew_record, grew_chapter, shows_more, shown_few}
use Rattle.journal_core.proofs.Telling.{shows_once, before_then, image_before, image_after}
use Rattle.journal_core.proofs.Epochs.{shows_least, read_fits}
use Rattle.journal_core.proofs.Told.{told_before}

pub lasts_runs : (first : Live) (before : List Chapter) (live : Live) (base : List Entry) (past : List Record) (start least : ℕ) (disk : DiskSeen) → Runs first before live base past start least disk
    → Lasts first (story_of before base past) (present disk.moments) (length before) least
lasts_runs first before live base past start least disk runs image left =
    let was = runs.shown image left in
    (length before, was.0, was.1, inr (refl, was.2))

pub lasts_more : (first : Live) (old new : List Chapter) (table : Table) (i n : ℕ) → Grew old new → Lasts first old table i n → Lasts first new table i n
lasts_more first old new table i n grew lasts image left =
    let was = lasts image left in
    (was.0, was.1, shows_more first old new image was.0 was.1 grew was.2, was.3)

-- moments later, by what the story tells
pub lasts_later : (first : Live) (story all : List Chapter) (old new : List Table) (start i n : ℕ) → Grew story all → Tells first all new start → Extends old new → start < length old
    → Lasts first story (present old) i n → Lasts first all (present new) i n
lasts_later first story all old new start i n grew tells extends begun lasts image left =
    let m = length old - 1 in
    let last = length new - 1 in
    let longer = extends_longer old new extends in
    let at : IsImageAt new last image = record { reached = omega (arith, begun, longer); left = left } in
    let from = tells.grows m last image (omega (arith, begun)) (omega (arith, longer)) at in
    let there = image_before old new m from.0 extends (omega (arith, begun)) from.1 in
    let was = lasts from.0 there.left in
    let worse = from.2 in
    let same = shows_once first all from.0 was.0 was.1 worse.0 worse.1 (shows_more first story all from.0 was.0 was.1 grew was.2) worse.4 in
    let here : IsBefore i n worse.0 worse.1 = subst (λ k. IsBefore i n worse.0 k) same.1 (subst (λ j. IsBefore i n j was.1) same.0 was.3) in
    (worse.2, worse.3, worse.5, before_then i n worse.0 worse.1 worse.2 worse.3 here worse.6)

pub full_more : (first : Live) (old new : List Chapter) (logs : ℕ) (moments later : List Table) (start i : ℕ) → Grew old new → Extends moments later → WasFull first old logs moments start i → WasFull first new logs later start i
full_more first old new logs moments later start i grew extends full =
    (full.0, full.1, full.2, image_after moments later full.0 full.1 extends full.3, shows_more first old new full.1 i (30 * logs) grew full.4)

grew_none : (story : List Chapter) → Grew story story
grew_none story = record { there = λ i chapter is. (chapter, is, refl, λ n few. (few, refl)) }

-- a disk some calls later
pub are_full_later : (first : Live) (story : List Chapter) (logs start : ℕ) (Q : ℕ → List ℕ → Type 0) (old new : DiskSeen) → Changed Q old new → WhenTold old.told (λ s. AreFull first story logs old.moments start)
    → WhenTold new.told (λ s. AreFull first story logs new.moments start)
are_full_later first story logs start Q old new changed full t told i chapter next is is_next =
    let was = told_before Q old new old.told refl changed t told in
    full_more first story story logs old.moments new.moments start i (grew_none story) changed.earlier (full was.0 was.1 i chapter next is is_next)

-- one record more
pub are_full_record : (first : Live) (before : List Chapter) (base : List Entry) (past : List Record) (made : Record) (logs start : ℕ) (moments : List Table) → Extends moments moments
    → AreFull first (story_of before base past) logs moments start → AreFull first (story_of before base (past ++ made ∷ [])) logs moments start
are_full_record first before base past made logs start moments same full i chapter next is is_next =
    let old : Chapter = record { base = base; past = past } in
    let now : Chapter = record { base = base; past = past ++ made ∷ [] } in
    let grew = grew_record before base past made in
    let more : WasFull first (story_of before base past) logs moments start i → WasFull first (story_of before base (past ++ made ∷ [])) logs moments start i =
    full_more first (story_of before base past) (story_of before base (past ++ made ∷ [])) logs moments moments start i grew same in
    ⊎_elim
    (λ early. ⊎_elim
    (λ soon. more (full i chapter next (get_front before (old ∷ []) i early.0 ∙ early.1) (get_front before (old ∷ []) (i + 1) soon.0 ∙ soon.1)))
    (λ last. more (full i chapter old (get_front before (old ∷ []) i early.0 ∙ early.1) (get_last before old (i + 1) last.0)))
    (get_cases before now (i + 1) next is_next))
    (λ last.
    let within = slice_get_within (before ++ now ∷ []) (i + 1) next is_next in
    absurd (omega (arith, within, last.0, length_push before now)))
    (get_cases before now i chapter is)

-- one chapter more, behind one that was full
pub are_full_chapter : (first : Live) (before : List Chapter) (base : List Entry) (past : List Record) (later : Chapter) (logs start : ℕ) (moments after : List Table) → Extends moments after
    → AreFull first (story_of before base past) logs moments start → WasFull first (story_of before base past) logs moments start (length before)
    → AreFull first (story_of before base past ++ later ∷ []) logs after start
are_full_chapter first before base past later logs start moments after extends full own i chapter next is is_next =
    let old : Chapter = record { base = base; past = past } in
    let story = story_of before base past in
    let more : (j : ℕ) → WasFull first story logs moments start j → WasFull first (story ++ later ∷ []) logs after start j =
    λ j. full_more first story (story ++ later ∷ []) logs moments after start j (grew_chapter story later) extends in
    ⊎_elim
    (λ early. ⊎_elim
    (λ soon. more i (full i chapter next early.1 soon.1))
    (λ last.
    let at : length before ≡ i = omega (arith, last.0, length_push before old) in
    more i (subst (λ j. WasFull first story logs moments start j) at own))
    (get_cases story later (i + 1) next is_next))
    (λ last.
    let within = slice_get_within (story ++ later ∷ []) (i + 1) next is_next in
    absurd (omega (arith, within, last.0, length_push story later)))
    (get_cases story later i chapter is)

-- A log whose every sector stands with thirty records is full.
pub full_now : (first : Live) (before : List Chapter) (live : Live) (base : List Entry) (past : List Record) (start least : ℕ) (disk : DiskSeen) (s : Sectors) → IsEpoch first before live base past
    → IsTale disk.sectors disk.moments s → Runs first before live base past start least disk → length past ≡ 30 * live.log_sectors → Stands live (30 * live.log_sectors) s
    → WasFull first (story_of before base past) live.log_sectors disk.moments start (length before)
full_now first before live base past start least disk s epoch tale runs long stands =
    let shows = shows_least first before live base past epoch s (30 * live.log_sectors) (omega (arith, runs.room, tale.as_many)) (read_fits (IsSectorOf live base past) disk s tale runs.allows) (omega arith) stands in
    let few = shown_few first before base past s shows.0 shows.1 in
    let all : shows.0 ≡ 30 * live.log_sectors = omega (arith, few, shows.2, long) in
    let begun = runs.tells.begun in (
      length disk.moments - 1,
      s,
      omega (arith, begun),
      record { reached = omega (arith, tale.began); left = tale.now },
      subst (λ n. Shows first (story_of before base past) s (length before) n) all shows.1,
    )
