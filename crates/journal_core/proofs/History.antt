-- A book's disk tells one history.
use Rattle.std.proofs.Common.{◌≡◌, ◌⊎◌, inl, inr, ⊎_elim, ℕ, zero, suc, ◌+◌, ◌-◌, ◌*◌, ◌%◌, ◌<◌, ◌≤◌, Bool, true, false, List, [], ◌∷◌, ◌++◌, length, take, drop, slice_get, get_or, Option, Some, None, refl, sym, ap, ◌∙◌, subst, arith, length-take}
use Rattle.std.specs.Prelude.{IsSome}
use Rattle.std.proofs.Math.Logic.{∥∥₁_map₂}
use Rattle.std.proofs.lemmas.Bool.{cases_lt}
use Rattle.std.proofs.lemmas.List.{ext_get_or, length_push, take-append-drop, take-take, length-drop}
use Rattle.std.proofs.lemmas.Option.{slice_get_within, slice_get-get_or}
use Rattle.vd_base.specs.declared.geometry.StoreId.{StoreId}
use Rattle.key_state.specs.Entries.{states, IsHistory, IsLegalOn}
use Rattle.key_state.specs.declared.entry.Entry.{Entry}
use Rattle.key_state.specs.declared.entry.Entry.TheVariants.{Bad}
use Rattle.key_state.specs.declared.record.Record.{Record}
use Rattle.key_state.proofs.Histories.{history_split, first_of_history}
use Rattle.journal_layout.specs.declared.live.Live.{Live}
use Rattle.journal_layout.specs.Recovery.{Sectors, Outcome, NoJournal, Mismatch, Damaged, Recovers, IsMap, map_places, blocks_of}
use Rattle.journal_layout.proofs.OneOutcome.{gives_once}
use Rattle.journal_layout.proofs.SameRecord.{same_entry}
use Rattle.vd_disk.specs.Disk.{DiskSeen, Extends, IsImage, IsImageAt, present}
use Rattle.journal_core.specs.Chapters.{Chapter, epoch_after, Shows, Tells, IsStory, IsFilled, Lasts, AreFull}
use Rattle.journal_core.specs.History.{Found, IsFrontOf, IsSince, IsTurned, IsNotAfter, IsEpochOf, opened_live, OneHistory, HistoryOf, KeepsOver, KeepsAll, closed, given_up}
use Rattle.journal_core.specs.Calls.{all_synced, IsStopped}
use Rattle.key_state.specs.declared.seen.BookSeen.{BookSeen}
use Rattle.journal_core.specs.Keeps.{Story, chapters, with_epoch, story_of, all_of, first_live, Memory, Keeps, HasStory}
use Rattle.journal_core.specs.Opening.{Opens}
use Rattle.journal_core.specs.Seen.{book_seen, origin_of, stopped_at}
use Rattle.journal_core.proofs.Seeing.{none_at, some_at, none_some}
use Rattle.journal_core.proofs.Stories.{get_front, get_last, story_chapter}
use Rattle.journal_core.proofs.Steps.{false_true}

true_or_false : (b : Bool) → (b ≡ true) ⊎ (b ≡ false)
true_or_false true = inl refl
true_or_false false = inr refl

some_same : {X : Type 0} (a b : X) → ◌≡◌ {A = Option X} (Some a) (Some b) → a ≡ b
some_same a b e = cc

-- There is one map.
one_map : (sectors : Sectors) (live : Live) (a b : List Entry) → IsMap sectors live a → IsMap sectors live b → a ≡ b
one_map sectors live a b is_a is_b =
    ext_get_or Bad a b (is_a.one_each ∙ sym is_b.one_each)
    (λ k inside.
    let high : k < map_places (blocks_of live) = omega (arith, inside, is_a.one_each) in
    let there : k < blocks_of live = omega (arith, inside, is_a.one_each) in
    same_entry _ (k % 256) (get_or a k Bad) (get_or b k Bad) (is_a.each k (omega arith) high there).bytes (is_b.each k (omega arith) high there).bytes)

abbrev live_in : Outcome → Option Live
live_in (Recovers live records entries) = Some live
live_in NoJournal = None
live_in (Mismatch found) = None
live_in (Damaged sector what at) = None

abbrev records_in : Outcome → List Record
records_in (Recovers live records entries) = records
records_in NoJournal = []
records_in (Mismatch found) = []
records_in (Damaged sector what at) = []

-- what is recovered of an image is a place of the story
record IsPlaced (first : Live) (story : List Chapter) (live : Live) (base : List Entry) (records : List Record) (i n : ℕ) (chapter : Chapter) : Type 0 where
  is : slice_get story i ≡ Some chapter
  few : n ≤ length chapter.past
  live_is : live ≡ epoch_after first i
  base_is : base ≡ chapter.base
  records_are : records ≡ take n chapter.past

placed : (first : Live) (story : List Chapter) (image : Sectors) (i n : ℕ) (shows : Shows first story image i n) (is : Found first.id image)
    → IsPlaced first story is.live is.base is.records i n shows.0
placed first story image i n shows is =
    let chapter = shows.0 in
    let at = shows.1 in
    let once : Recovers is.live is.records (states is.base is.records) ≡ Recovers (epoch_after first i) (take n chapter.past) (states chapter.base (take n chapter.past)) =
    gives_once image first.id (Recovers is.live is.records (states is.base is.records)) (Recovers (epoch_after first i) (take n chapter.past) (states chapter.base (take n chapter.past))) is.gives at.gives in
    let live : is.live ≡ epoch_after first i = some_same is.live (epoch_after first i) (ap live_in once) in
    record {
      is = at.is;
      few = at.few;
      live_is = live;
      base_is = one_map image (epoch_after first i) is.base chapter.base (subst (λ (l : Live). IsMap image l is.base) live is.is_map) at.map;
      records_are = ap records_in once;
    }

abbrev found_of : (first : Live) (story : List Chapter) (image : Sectors) (i n : ℕ) → Shows first story image i n → Found first.id image
found_of first story image i n shows = record {
  live = epoch_after first i;
  base = shows.0.base;
  records = take n shows.0.past;
  is_map = shows.1.map;
  gives = shows.1.gives;
}

-- one place of the story for each epoch
same_place : (first : Live) (story : List Chapter) (la lb : Live) (ba bb : List Entry) (ra rb : List Record) (i n j k : ℕ) (x y : Chapter) → IsPlaced first story la ba ra i n x → IsPlaced first story lb bb rb j k y → la.epoch ≡ lb.epoch → (i ≡ j) × (x ≡ y)
same_place first story la lb ba bb ra rb i n j k x y a b same =
    let epoch_a = ap (λ (l : Live). l.epoch) a.live_is in
    let epoch_b = ap (λ (l : Live). l.epoch) b.live_is in
    let place : i ≡ j = omega (arith, epoch_a, epoch_b, same) in
    (place, some_same x y (sym a.is ∙ ap (slice_get story) place ∙ b.is))

-- of two fronts of a list the shorter one is a front of the other
front_take : (n k : ℕ) (past xs ys : List Record) → n ≤ length past → k ≤ length past → xs ≡ take n past → ys ≡ take k past → length xs ≤ length ys → IsFrontOf xs ys
front_take n k past xs ys few_n few_k is_x is_y less =
    let long_x : length xs ≡ n = ap (λ (l : List Record). length l) is_x ∙ omega (arith, length-take n past, few_n) in
    let long_y : length ys ≡ k = ap (λ (l : List Record). length l) is_y ∙ omega (arith, length-take k past, few_k) in
    is_x ∙ sym (take-take n k past (omega (arith, less, long_x, long_y))) ∙ ap (take n) (sym is_y) ∙ ap (λ m. take m ys) (sym long_x)

front_all : (n : ℕ) (past xs : List Record) → n ≤ length past → xs ≡ take n past → IsFrontOf xs past
front_all n past xs few is =
    let long : length xs ≡ n = ap (λ (l : List Record). length l) is ∙ omega (arith, length-take n past, few) in
    is ∙ ap (λ m. take m past) (sym long)

-- a list of one more than n is its first n and one more
last_one : (xs : List Record) → length xs ≡ 1 → (x : Record) × (xs ≡ x ∷ [])
last_one [] long = absurd (omega (arith, long))
last_one (x ∷ []) long = (x, refl)
last_one (x ∷ y ∷ ys) long = absurd (omega (arith, long))

one_more : (n : ℕ) (past : List Record) → length past ≡ n + 1 → (made : Record) × (past ≡ take n past ++ made ∷ [])
one_more n past long =
    let rest = last_one (drop n past) (omega (arith, length-drop n past, long)) in
    (rest.0, sym (take-append-drop n past) ∙ ap (λ (l : List Record). take n past ++ l) rest.1)

-- the chapters of the story, with the one that a failed turnover may have begun
in_story : (half_turned : Bool) (before : List Chapter) (base : List Entry) (past : List Record) (i : ℕ) → i < length (all_of half_turned before base past) → (i ≤ length before) ⊎ ((i ≡ length before + 1) × (half_turned ≡ true))
in_story false before base past i inside = inl (omega (arith, inside, length_push before (record { base = base; past = past })))
in_story true before base past i inside =
    let own : Chapter = record { base = base; past = past } in
    let long : length (story_of (story_of before base past) (states base past) []) ≡ length before + 1 + 1 =
    length_push (story_of before base past) (record { base = states base past; past = [] }) ∙ ap (λ n. n + 1) (length_push before own) in
    elim (cases_lt i (length before + 1)) [
      | inl early ↦ inl (omega (arith, early))
      | inr late ↦ inr (omega (arith, late, inside, long), refl)
    ]

own_chapter : (half_turned : Bool) (before : List Chapter) (base : List Entry) (past : List Record) → slice_get (all_of half_turned before base past) (length before) ≡ Some (record { base = base; past = past })
own_chapter false before base past = get_last before (record { base = base; past = past }) (length before) refl
own_chapter true before base past =
    let own : Chapter = record { base = base; past = past } in
    get_front (story_of before base past) (record { base = states base past; past = [] } ∷ []) (length before) (omega (arith, length_push before own))
    ∙ get_last before own (length before) refl

next_chapter : (half_turned : Bool) (before : List Chapter) (base : List Entry) (past : List Record) (i : ℕ) (chapter : Chapter) → half_turned ≡ true → i ≡ length before + 1 → slice_get (all_of half_turned before base past) i ≡ Some chapter
    → (chapter.base ≡ states base past) × (chapter.past ≡ [])
next_chapter false before base past i chapter turns at is = absurd (false_true turns refl)
next_chapter true before base past i chapter turns at is =
    let next : Chapter = record { base = states base past; past = [] } in
    let last = get_last (story_of before base past) next i (omega (arith, at, length_push before (record { base = base; past = past }))) in
    let same : next ≡ chapter = some_same next chapter (sym last ∙ is) in
    (ap (λ (c : Chapter). c.base) (sym same), ap (λ (c : Chapter). c.past) (sym same))

first_chapter : (half_turned : Bool) (before : List Chapter) (base : List Entry) (past : List Record) (chapter : Chapter) → slice_get (all_of half_turned before base past) 0 ≡ Some chapter
    → slice_get (story_of before base past) 0 ≡ Some chapter
first_chapter false before base past chapter is = is
first_chapter true before base past chapter is =
    sym (get_front (story_of before base past) (record { base = states base past; past = [] } ∷ []) 0 (omega (arith, length_push before (record { base = base; past = past })))) ∙ is

all_story : (half_turned : Bool) (first : Live) (before : List Chapter) (base : List Entry) (past : List Record) → IsStory first (story_of before base past) → IsStory first (all_of half_turned before base past)
all_story false first before base past story = story
all_story true first before base past story = story_chapter first before base past story

module _ (began opened disk : DiskSeen) (b : Memory) (so_far : Story) (k : Keeps disk b so_far) (start : b.start ≡ length opened.moments - 1) where
  abbrev seen : BookSeen
  seen = book_seen began opened disk b

  abbrev story : List Chapter
  story = all_of k.half_turned so_far.before so_far.base so_far.past

  abbrev id : StoreId
  id = k.first.id

  first_epoch : k.first.epoch ≡ b.first_epoch
  first_epoch = k.opened.0

  now_epoch : b.live.epoch ≡ k.first.epoch + length so_far.before
  now_epoch = ap (λ (l : Live). l.epoch) k.epoch.is_live

  logs : b.live.log_sectors ≡ k.first.log_sectors
  logs = ap (λ (l : Live). l.log_sectors) k.epoch.is_live

  -- the opened epoch, as a book shows it
  first_is : k.first ≡ opened_live id (origin_of began opened b)
  first_is =
      let version : k.first.version ≡ 2 = sym (ap (λ (l : Live). l.version) k.epoch.is_live) ∙ k.version in
      λ i. record { version = version i; epoch = first_epoch i; id = k.first.id; log_sectors = sym logs i }

  is_stopped : k.half_turned ≡ true → IsSome (stopped_at b)
  is_stopped half_turned = subst (λ (o : Option ℕ). IsSome o) (sym (some_at b (k.stops half_turned))) refl

  whole : IsStory k.first story
  whole = all_story k.half_turned k.first so_far.before so_far.base so_far.past k.epoch.story

  module _ (tells : Tells k.first story disk.moments b.start) (lasts : Lasts k.first story (present disk.moments) (length so_far.before) b.synced) where
    shown : (m : ℕ) (image : Sectors) → IsSince seen disk m image → (i : ℕ) × (n : ℕ) × Shows k.first story image i n
    shown m image since = tells.shown m image (omega (arith, start, since.0)) since.1

    told_of : (m : ℕ) (image : Sectors) → IsSince seen disk m image → (is : Found id image)
        → (IsEpochOf (opened_live id (origin_of began opened b)) (chapters so_far) id image is)
        ⊎ (IsSome (stopped_at b) × IsEpochOf (opened_live id (origin_of began opened b)) (chapters (with_epoch so_far)) id image is)
    told_of m image since is =
        let shows = shown m image since in
        let at = placed k.first story image shows.0 shows.1 shows.2 is in
        let first = opened_live id (origin_of began opened b) in
        let all : IsEpochOf first story id image is = record {
          place = shows.0;
          chapter = shows.2.0;
          there = at.is;
          live = at.live_is ∙ ap (λ (l : Live). epoch_after l shows.0) first_is;
          map = at.base_is;
          records = front_all shows.1 shows.2.0.past is.records at.few at.records_are;
        } in
        elim (true_or_false k.half_turned) [
          | inl half ↦ inr (is_stopped half, subst (λ t. IsEpochOf first (all_of t so_far.before so_far.base so_far.past) id image is) half all)
          | inr whole ↦ inl (subst (λ t. IsEpochOf first (all_of t so_far.before so_far.base so_far.past) id image is) whole all)
        ]

    of_first : (m : ℕ) (image : Sectors) → IsSince seen disk m image → (is : Found id image) → is.live.epoch ≡ b.first_epoch → is.base ≡ b.first_entries
    of_first m image since is same =
        let shows = shown m image since in
        let at = placed k.first story image shows.0 shows.1 shows.2 is in
        let epoch = ap (λ (l : Live). l.epoch) at.live_is in
        let place : shows.0 ≡ 0 = omega (arith, epoch, first_epoch, same) in
        at.base_is ∙ k.opened.1 shows.2.0 (first_chapter k.half_turned so_far.before so_far.base so_far.past shows.2.0 (sym (ap (slice_get story) place) ∙ at.is))

    epochs : (m : ℕ) (image : Sectors) → IsSince seen disk m image → (is : Found id image)
        → (b.first_epoch ≤ is.live.epoch) × ((is.live.epoch ≤ b.live.epoch) ⊎ ((is.live.epoch ≡ b.live.epoch + 1) × IsSome (stopped_at b)))
    epochs m image since is =
        let shows = shown m image since in
        let at = placed k.first story image shows.0 shows.1 shows.2 is in
        let epoch = ap (λ (l : Live). l.epoch) at.live_is in
        let within = slice_get_within story shows.0 shows.2.0 at.is in (
          omega (arith, epoch, first_epoch),
          ⊎_elim
              (λ early. inl (omega (arith, epoch, now_epoch, early)))
              (λ last. inr (omega (arith, epoch, now_epoch, last.0), is_stopped last.1))
              (in_story k.half_turned so_far.before so_far.base so_far.past shows.0 within),
        )

    one : (m n : ℕ) (x y : Sectors) → IsSince seen disk m x → IsSince seen disk n y → (a : Found id x) (c : Found id y) → a.live.epoch ≡ c.live.epoch → length a.records ≤ length c.records
        → (a.base ≡ c.base) × IsFrontOf a.records c.records
    one m n x y since_x since_y a c same less =
        let shows_x = shown m x since_x in
        let shows_y = shown n y since_y in
        let at_x = placed k.first story x shows_x.0 shows_x.1 shows_x.2 a in
        let at_y = placed k.first story y shows_y.0 shows_y.1 shows_y.2 c in
        let place = same_place k.first story a.live c.live a.base c.base a.records c.records shows_x.0 shows_x.1 shows_y.0 shows_y.1 shows_x.2.0 shows_y.2.0 at_x at_y same in
        let past = ap (λ (h : Chapter). h.past) place.1 in
        let many = ap (λ (l : List Record). length l) past in (
          at_x.base_is ∙ ap (λ (h : Chapter). h.base) place.1 ∙ sym at_y.base_is,
          front_take shows_x.1 shows_y.1 shows_y.2.0.past a.records c.records (omega (arith, at_x.few, many)) at_y.few (at_x.records_are ∙ ap (take shows_x.1) past) at_y.records_are less,
        )

    -- an image of the book's epoch
    of_now : (image : Sectors) (i n : ℕ) → Shows k.first story image i n → (is : Found id image) → is.live.epoch ≡ b.live.epoch → (is.base ≡ so_far.base) × (n ≤ length so_far.past) × (is.records ≡ take n so_far.past)
    of_now image i n shows is same =
        let at = placed k.first story image i n shows is in
        let epoch = ap (λ (l : Live). l.epoch) at.live_is in
        let place : i ≡ length so_far.before = omega (arith, epoch, now_epoch, same) in
        let chapter : shows.0 ≡ record { base = so_far.base; past = so_far.past } = some_same shows.0 (record { base = so_far.base; past = so_far.past }) (sym at.is ∙ ap (slice_get story) place ∙ own_chapter k.half_turned so_far.before so_far.base so_far.past) in
        let past = ap (λ (h : Chapter). h.past) chapter in (
          at.base_is ∙ ap (λ (h : Chapter). h.base) chapter,
          omega (arith, at.few, ap (λ (l : List Record). length l) past),
          at.records_are ∙ ap (take n) past,
        )

    own : (m : ℕ) (image : Sectors) → IsSince seen disk m image → (is : Found id image) → is.live.epoch ≡ b.live.epoch → (is.base ≡ so_far.base) × IsFrontOf is.records so_far.past
    own m image since is same =
        let shows = shown m image since in
        let all = of_now image shows.0 shows.1 shows.2 is same in
        (all.0, front_all shows.1 so_far.past is.records all.1 all.2)

    grows : (m n : ℕ) (image : Sectors) → length opened.moments ≤ m + 1 → m ≤ n → IsImageAt disk.moments n image → (is : Found id image)
        → (earlier : Sectors) × (was : Found id earlier) × IsImageAt disk.moments m earlier × IsNotAfter was is
    grows m n image since order at is =
        let from = tells.grows m n image (omega (arith, start, since)) order at in
        let worse = from.2 in
        let i = worse.0 in
        let was : Found id from.0 = found_of k.first story from.0 i worse.1 worse.4 in
        let here = placed k.first story image worse.2 worse.3 worse.5 is in
        let epoch = ap (λ (l : Live). l.epoch) here.live_is in
        let many : length is.records ≡ worse.3 = ap (λ (l : List Record). length l) here.records_are ∙ omega (arith, length-take worse.3 worse.5.0.past, here.few) in
        let most = length-take worse.1 worse.4.0.past in (
          from.0,
          was,
          from.1,
          ⊎_elim
              (λ later. inl (omega (arith, later, epoch)))
              (λ same. inr (omega (arith, same.0, epoch), omega (arith, most, same.1, many)))
              worse.6,
        )

    now : (image : Sectors) → IsImage (present disk.moments) image → (is : Found id image)
        → ((is.live.epoch ≡ b.live.epoch) × (b.synced ≤ length is.records)) ⊎ ((is.live.epoch ≡ b.live.epoch + 1) × IsSome (stopped_at b) × (is.base ≡ b.entries) × (is.records ≡ []))
    now image left is =
        let last = lasts image left in
        let at = placed k.first story image last.0 last.1 last.2 is in
        let epoch = ap (λ (l : Live). l.epoch) at.live_is in
        let within = slice_get_within story last.0 last.2.0 at.is in
        let many : length is.records ≡ last.1 = ap (λ (l : List Record). length l) at.records_are ∙ omega (arith, length-take last.1 last.2.0.past, at.few) in
        ⊎_elim
        (λ later. ⊎_elim
        (λ early. absurd (omega (arith, early, later)))
        (λ next.
        let chapter = next_chapter k.half_turned so_far.before so_far.base so_far.past last.0 last.2.0 next.1 next.0 at.is in
        inr (omega (arith, epoch, now_epoch, next.0), is_stopped next.1, at.base_is ∙ chapter.0 ∙ sym k.stands, at.records_are ∙ ap (take last.1) chapter.1 ∙ take_none last.1))
        (in_story k.half_turned so_far.before so_far.base so_far.past last.0 within))
        (λ same. inl (omega (arith, epoch, now_epoch, same.0), omega (arith, same.1, many)))
        last.3
      where
        take_none : (n : ℕ) → ◌≡◌ {A = List Record} (take n []) []
        take_none zero = refl
        take_none (suc n) = refl

    turned : IsFilled b.live.log_sectors story → AreFull k.first story b.live.log_sectors disk.moments b.start
        → (m : ℕ) (image : Sectors) → IsSince seen disk m image → (is : Found id image) → b.first_epoch < is.live.epoch → IsTurned seen id disk is.live.epoch is.base
    turned filled full m image since is later =
        let shows = shown m image since in
        let at = placed k.first story image shows.0 shows.1 shows.2 is in
        let epoch = ap (λ (l : Live). l.epoch) at.live_is in
        let within = slice_get_within story shows.0 shows.2.0 at.is in
        let i = shows.0 - 1 in
        let some : 0 < shows.0 = omega (arith, epoch, first_epoch, later) in
        let back : i + 1 ≡ shows.0 = omega (arith, some) in
        let chapter : Chapter = get_or story i shows.2.0 in
        let is_chapter : slice_get story i ≡ Some chapter = slice_get-get_or story i shows.2.0 (omega (arith, within, some)) in
        let is_next : slice_get story (i + 1) ≡ Some shows.2.0 = ap (slice_get story) back ∙ at.is in
        let was = full i chapter shows.2.0 is_chapter is_next in
        let long = filled i chapter shows.2.0 is_chapter is_next in
        let own : Found id was.1 = found_of k.first story was.1 i (30 * b.live.log_sectors) was.4 in
        let same : was.4.0 ≡ chapter = some_same was.4.0 chapter (sym was.4.1.is ∙ is_chapter) in
        let n = 30 * b.live.log_sectors in
        let more = one_more n chapter.past long in
        let legal = whole.legal i chapter is_chapter in
        let parts = history_split chapter.base (take n chapter.past) (more.0 ∷ []) (subst (λ (l : List Record). IsHistory chapter.base l) more.1 legal) in
        let made_legal : IsLegalOn (states chapter.base (take n chapter.past)) more.0 = first_of_history (states chapter.base (take n chapter.past)) more.0 [] parts.1 in
        record {
          moment = was.0;
          image = was.1;
          since = (omega (arith, start, was.2), was.3);
          found = own;
          before = omega (arith, epoch, back);
          full = omega (arith, length-take n was.4.0.past, was.4.1.few);
          made = more.0;
          legal = subst (λ (h : Chapter). IsLegalOn (states h.base (take n h.past)) more.0) (sym same) made_legal;
          map = at.base_is ∙ whole.links i chapter shows.2.0 is_chapter is_next ∙ ap (states chapter.base) more.1 ∙ ap (λ (h : Chapter). states h.base (take n h.past ++ more.0 ∷ [])) (sym same);
        }

    one_history : (b.asked ≡ false → AreFull k.first story b.live.log_sectors disk.moments b.start) → OneHistory seen id disk so_far b.synced
    one_history full = record {
      found = λ m image since. let shows = shown m image since in found_of k.first story image shows.0 shows.1 shows.2;
      told = told_of;
      epochs = epochs;
      one = one;
      opened = of_first;
      own = own;
      grows = grows;
      now = now;
      turned = λ asked. turned (k.filled asked) (full asked);
    }

  stopped_many : (n : ℕ) → stopped_at b ≡ Some n → n ≡ b.records
  stopped_many n is = elim (true_or_false b.stopped) [
    | inl on ↦ some_same n b.records (sym is ∙ some_at b on)
    | inr off ↦ absurd (none_some n (stopped_at b) (none_at b off) is)
  ]

  pub history_of : Opens (first_live b.live b.first_epoch) b.first_entries began.told began.moments opened.moments → Extends opened.moments disk.moments → HistoryOf seen so_far b.records b.synced disk
  history_of opening earlier =
      let same : b.live.id ≡ id = ap (λ (l : Live). l.id) k.epoch.is_live in
      record {
        id = id;
        its_id = ap Some same;
        is_story = subst (λ (l : Live). IsStory l (chapters so_far)) first_is k.epoch.story;
        many_epochs = omega (arith, now_epoch, first_epoch);
        many = k.many;
        stopped = stopped_many;
        legal = k.epoch.story.legal (length so_far.before) (record { base = so_far.base; past = so_far.past }) (get_last so_far.before (record { base = so_far.base; past = so_far.past }) (length so_far.before) refl);
        now = k.stands;
        synced = (omega (arith, k.stays.0, k.many), k.stays.1);
        few = omega (arith, k.few, k.many);
        ends = k.ends_are;
        clears = k.clears_are;
        opening = subst (λ (x : StoreId). Opens (record { version = 2; epoch = b.first_epoch; id = x; log_sectors = b.live.log_sectors }) b.first_entries began.told began.moments opened.moments) same opening;
        earlier = earlier;
        images = λ s told. one_history (k.tells s told) (k.lasts s told) (λ asked. k.full asked s told);
      }

module _ (began opened disk : DiskSeen) (b : Memory) (start : b.start ≡ length opened.moments - 1) (so_far : Story) (keeps : HasStory disk b so_far)
    (opening : ∥ Opens (first_live b.live b.first_epoch) b.first_entries began.told began.moments opened.moments ∥₁) (earlier : Extends opened.moments disk.moments) where
  pub keeps_over : KeepsOver (book_seen began opened disk b) so_far b.records b.synced disk
  keeps_over = ∥∥₁_map₂ keeps opening (λ k opens. history_of began opened disk b so_far k start opens earlier)

  pub keeps_all : b.synced ≡ b.records → KeepsAll (book_seen began opened disk b) so_far b.records disk
  keeps_all all = subst (λ n. KeepsOver (book_seen began opened disk b) so_far b.records n disk) all keeps_over

-- the disk of a book that was closed, and of one that couldn't be flushed
module _ (began_old began opened_old opened old disk : DiskSeen) (a b : Memory) (same_began : began ≡ began_old) (same_opened : opened ≡ opened_old) (so_far : Story) where
  pub closed_all : b ≡ all_synced a → b.start ≡ length opened.moments - 1 → HasStory disk b so_far → ∥ Opens (first_live b.live b.first_epoch) b.first_entries began.told began.moments opened.moments ∥₁ → Extends opened.moments disk.moments
      → KeepsAll (closed (book_seen began_old opened_old old a) disk) so_far a.records disk
  closed_all is start keeps opening earlier =
      let over = keeps_over began opened disk b start so_far keeps opening earlier in
      let seen : book_seen began opened disk b ≡ closed (book_seen began_old opened_old old a) disk = λ i. book_seen (same_began i) (same_opened i) disk (is i) in
      subst (λ n. KeepsOver (closed (book_seen began_old opened_old old a) disk) so_far a.records n disk) (ap (λ (m : Memory). m.synced) is)
      (subst (λ n. KeepsOver (closed (book_seen began_old opened_old old a) disk) so_far n b.synced disk) (ap (λ (m : Memory). m.records) is)
      (subst (λ (s : BookSeen). KeepsOver s so_far b.records b.synced disk) seen over))

  pub left_over : IsStopped a b → b.start ≡ length opened.moments - 1 → HasStory disk b so_far → ∥ Opens (first_live b.live b.first_epoch) b.first_entries began.told began.moments opened.moments ∥₁ → Extends opened.moments disk.moments
      → KeepsOver (given_up a.records (book_seen began_old opened_old old a) disk) so_far a.records a.synced disk
  left_over is start keeps opening earlier =
      let over = keeps_over began opened disk b start so_far keeps opening earlier in
      let seen : book_seen began opened disk b ≡ given_up a.records (book_seen began_old opened_old old a) disk = λ i. book_seen (same_began i) (same_opened i) disk (is i) in
      subst (λ n. KeepsOver (given_up a.records (book_seen began_old opened_old old a) disk) so_far a.records n disk) (ap (λ (m : Memory). m.synced) is)
      (subst (λ n. KeepsOver (given_up a.records (book_seen began_old opened_old old a) disk) so_far n b.synced disk) (ap (λ (m : Memory). m.records) is)
      (subst (λ (s : BookSeen). KeepsOver s so_far b.records b.synced disk) seen over))
