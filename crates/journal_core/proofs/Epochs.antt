-- One epoch over a disk: what its images show, and how it goes on.
use Rattle.std.proofs.Common.{◌≡◌, ◌⊎◌, inl, inr, ⊎_elim, ℕ, ◌+◌, ◌-◌, ◌*◌, ◌<◌, ◌≤◌, min, List, length, take, Contains, slice_get, Some, refl, sym, ap, ◌∙◌, subst, arith, length-take}
use Rattle.key_state.specs.declared.entry.Entry.{Entry}
use Rattle.key_state.specs.declared.record.Record.{Record}
use Rattle.key_state.specs.Entries.{states, IsHistory}
use Rattle.journal_layout.specs.declared.live.Live.{Live}
use Rattle.journal_layout.specs.Log.{HasCount}
use Rattle.journal_layout.specs.Recovery.{Sectors, Recovers, Gives, IsMap, blocks_of, journal_end, log_start, log_of, place_at}
use Rattle.journal_layout.proofs.LogParts.{at_least}
use Rattle.vd_disk.specs.Disk.{Table, DiskSeen, IsImage, IsImageAt, IsTale, present, sector_at}
use Rattle.journal_core.specs.Changes.{table_at, row, Tables, Changed}
use Rattle.journal_core.specs.Parts.{IsSectorOf, AllFit, Allows, Safe}
use Rattle.journal_core.specs.Chapters.{Chapter, Shows, IsBefore, IsNoWorse}
use Rattle.journal_core.specs.Keeps.{story_of, IsEpoch, Runs}
use Rattle.journal_core.proofs.Kernel.{shows_front, is_map, log_place, length-log_of, log_inside}
use Rattle.journal_core.proofs.Changes.{table_before, extends_longer}
use Rattle.journal_core.proofs.Telling.{shows_once, comes_from, tells_changed}
use Rattle.journal_core.proofs.Stories.{get_last}

least_then : (i n j k here was now least : ℕ) → IsBefore i n j k → here ≡ i → was ≡ n → here ≡ j → now ≡ k → least ≤ was → least ≤ now
least_then i n j k here was now least (inl earlier) at_i at_n at_j at_k enough = absurd (omega (arith, earlier, at_i, at_j))
least_then i n j k here was now least (inr same) at_i at_n at_j at_k enough = omega (arith, same.1, at_n, at_k, enough)

module _ (first : Live) (before : List Chapter) (live : Live) (base : List Entry) (past : List Record) (epoch : IsEpoch first before live base past) where
  abbrev story : List Chapter
  story = story_of before base past

  abbrev own : Chapter
  own = record { base = base; past = past }

  is_own : slice_get story (length before) ≡ Some own
  is_own = get_last before own (length before) refl

  history : IsHistory base past
  history = epoch.story.legal (length before) own is_own

  one_each : length base ≡ blocks_of live
  one_each = epoch.story.sized (length before) own is_own ∙ sym (ap blocks_of epoch.is_live)

  shown_as : (image : Sectors) (n : ℕ) → n ≤ length past → IsMap image live base → Gives image live.id (Recovers live (take n past) (states base (take n past))) → Shows first story image (length before) n
  shown_as image n few map gives =
      (own, record { is = is_own; few = few; map = subst (λ (l : Live). IsMap image l base) epoch.is_live map; gives = subst (λ (l : Live). Gives image l.id (Recovers l (take n past) (states base (take n past)))) epoch.is_live gives })

  pub epoch_shows : (image : Sectors) → journal_end live ≤ length image → AllFit (IsSectorOf live base past) image → (n : ℕ) × Shows first story image (length before) n
  epoch_shows image room fit =
      let front = shows_front live base past image history one_each room fit in
      (front.0, shown_as image front.0 front.1 (is_map live base past image history one_each room fit) front.2)

  -- An image with the counts of m records in its log shows at least m.
  pub shows_least : (image : Sectors) (m : ℕ) → journal_end live ≤ length image → AllFit (IsSectorOf live base past) image → m ≤ 30 * live.log_sectors
      → ((q : ℕ) → 30 * q < m → (count : ℕ) × HasCount live.version live.epoch q (sector_at image (log_start live + q)) count × (min 30 (m - 30 * q) ≤ count))
      → (n : ℕ) × Shows first story image (length before) n × (m ≤ n)
  shows_least image m room fit most counted =
      let front = shows_front live base past image history one_each room fit in
      let n = front.0 in
      let stored = front.2.1.2 in
      let logs = length-log_of image live room in
      let enough : m ≤ length (take n past) =
      at_least live front.2.1.0 (log_of image live) (take n past) m stored (omega (arith, most, logs))
      (λ q some.
      let inside : q < live.log_sectors = omega (arith, some, most) in
      let is : sector_at image (log_start live + q) ≡ place_at (log_of image live) q = sym (log_place image live q inside) in
      let has = counted q some in
      (has.0, subst (λ (x : List ℕ). HasCount live.version live.epoch q x has.0) is has.1, has.2)) in
      (n, shown_as image n front.1 (is_map live base past image history one_each room fit) front.2, omega (arith, enough, length-take n past))

  -- Another image with the same sectors but for safe contents shows no less.
  pub epoch_worse : (a b : Sectors) → journal_end live ≤ length a → length b ≡ length a → AllFit (IsSectorOf live base past) a → AllFit (IsSectorOf live base past) b
      → ((i : ℕ) → i < length a → (sector_at b i ≡ sector_at a i) ⊎ Safe live base past i (sector_at b i)) → IsNoWorse first story a b
  epoch_worse a b room same fit_a fit_b from =
      let front = shows_front live base past a history one_each room fit_a in
      let n = front.0 in
      let reads = front.2.1.2.reads in
      let logs = length-log_of a live room in
      let long : length (take n past) ≡ n = omega (arith, length-take n past, front.1) in
      let least = shows_least b n (omega (arith, room, same)) fit_b (omega (arith, reads.room, logs, long))
      (λ q some.
      let inside : q < live.log_sectors = omega (arith, some, reads.room, logs, long) in
      let at = log_inside live q inside in
      let is : place_at (log_of a live) q ≡ sector_at a (log_start live + q) = log_place a live q inside in
      ⊎_elim
      (λ kept.
      let has = reads.counted q (omega (arith, some, long)) in
      (has.0, subst (λ (x : List ℕ). HasCount live.version live.epoch q x has.0) (is ∙ sym kept) has.1, omega (arith, has.2, long)))
      (λ safe.
      let has = safe.counts q inside refl in
      (has.0, has.1, omega (arith, has.2, front.1)))
      (from (log_start live + q) (omega (arith, at, room)))) in
      (length before, n, length before, least.0, shown_as a n front.1 (is_map live base past a history one_each room fit_a) front.2, least.1, inr (refl, least.2))

  -- Calls that write safe contents alone.
  module _ (start least : ℕ) (old new : DiskSeen) (s : Sectors) (told : old.told ≡ Some s) (tale : IsTale old.sectors old.moments s) (changed : Changed (Safe live base past) old new)
      (runs : Runs first before live base past start least old) where
    tables : Tables (Safe live base past) (length old.moments) old.sectors new.moments
    tables = changed.tables s told

    longer : length old.moments ≤ length new.moments
    longer = extends_longer old.moments new.moments changed.earlier

    allowed : (i : ℕ) (content : List ℕ) → i < old.sectors → Contains (row (present old.moments) i) content → IsSectorOf live base past i content
    allowed i content inside has = runs.allows i content (omega (arith, inside, tale.size_now)) has

    worse : (a b : Sectors) → length a ≡ old.sectors → length b ≡ old.sectors → AllFit (IsSectorOf live base past) a → AllFit (IsSectorOf live base past) b
        → ((i : ℕ) → i < old.sectors → (sector_at b i ≡ sector_at a i) ⊎ Safe live base past i (sector_at b i)) → IsNoWorse first story a b
    worse a b size_a size_b fit_a fit_b from = epoch_worse a b (omega (arith, runs.room, size_a)) (omega (arith, size_a, size_b)) fit_a fit_b (λ i inside. from i (omega (arith, inside, size_a)))

    -- the table now allows what fits
    now_allows : Allows (IsSectorOf live base past) (present new.moments)
    now_allows i content inside has =
        let last = length new.moments - 1 in
        let some : 0 < length new.moments = tables.began.1 in
        let size : length (present new.moments) ≡ old.sectors = tables.sizes last (omega (arith, longer, some)) (omega (arith, some)) in
        let first_one = length old.moments - 1 in
        let same : table_at new.moments first_one ≡ present old.moments = table_before old.moments new.moments first_one changed.earlier (omega (arith, tale.began)) in
        let within : i < old.sectors = omega (arith, inside, size) in
        ⊎_elim
        (λ was. allowed i content within (subst (λ (t : Table). Contains (row t i) content) same was))
        (λ put. put.fits)
        (tables.rows first_one last i content (omega (arith, tale.began)) (omega (arith, longer)) (omega (arith, some)) within has)

    -- an image now shows what one before showed, or more
    now_shown : (image : Sectors) → IsImage (present new.moments) image → (n : ℕ) × Shows first story image (length before) n × (least ≤ n)
    now_shown image is =
        let some : 0 < length new.moments = tables.began.1 in
        let last = length new.moments - 1 in
        let first_one = length old.moments - 1 in
        let at : IsImageAt new.moments last image = record { reached = omega (arith, some); left = is } in
        let from = comes_from (Safe live base past) old.moments new.moments old.sectors changed.earlier tale.began tables first_one last image (omega (arith, tale.began)) (omega (arith, longer)) at in
        let same : table_at new.moments first_one ≡ present old.moments = table_before old.moments new.moments first_one changed.earlier (omega (arith, tale.began)) in
        let was_image : IsImage (present old.moments) from.0 = subst (λ (t : Table). IsImage t from.0) same from.1.left in
        let was = runs.shown from.0 was_image in
        let size : length image ≡ old.sectors = is.size ∙ tables.sizes last (omega (arith, longer, some)) (omega (arith, some)) in
        let size_was : length from.0 ≡ old.sectors = was_image.size ∙ tale.size_now in
        let fit_was : AllFit (IsSectorOf live base past) from.0 = λ i inside. allowed i (sector_at from.0 i) (omega (arith, inside, size_was)) (was_image.each i (omega (arith, inside, size_was, tale.size_now))) in
        let fit_now : AllFit (IsSectorOf live base past) image = λ i inside. now_allows i (sector_at image i) (omega (arith, inside, is.size)) (is.each i (omega (arith, inside, is.size))) in
        let more = worse from.0 image size_was size fit_was fit_now from.2 in
        let same_was = shows_once first story from.0 (length before) was.0 more.0 more.1 was.1 more.4 in
        let now = epoch_shows image (omega (arith, runs.room, size)) fit_now in
        let same_now = shows_once first story image (length before) now.0 more.2 more.3 now.1 more.5 in (
          now.0,
          now.1,
          least_then more.0 more.1 more.2 more.3 (length before) was.0 now.0 least more.6 same_was.0 same_was.1 same_now.0 same_now.1 was.2,
        )

    pub runs_changed : Runs first before live base past start least new
    runs_changed = record {
      tells = tells_changed first story (IsSectorOf live base past) (Safe live base past) old.moments new.moments old.sectors start changed.earlier tables allowed
          (λ i content safe. safe.fits)
          (λ image size fit. let shows = epoch_shows image (omega (arith, runs.room, size)) fit in (length before, shows.0, shows.1))
          worse runs.tells;
      room = omega (arith, runs.room, changed.sectors);
      allows = now_allows;
      shown = now_shown;
    }

-- what is read is an image
pub read_fits : (P : ℕ → List ℕ → Type 0) (disk : DiskSeen) (s : Sectors) → IsTale disk.sectors disk.moments s → Allows P (present disk.moments) → AllFit P s
read_fits P disk s tale allows i inside = allows i (sector_at s i) (omega (arith, inside, tale.as_many, tale.size_now)) (tale.now.each i (omega (arith, inside, tale.as_many, tale.size_now)))
