-- The gate of the next epoch is written: an image shows the epoch before, or the next one with no records.
use Rattle.std.proofs.Common.{◌≡◌, ◌⊎◌, inl, inr, ⊎_elim, ℕ, ◌+◌, ◌-◌, ◌^◌, ◌<◌, List, [], length, slice_range, Some, refl, sym, ap, ◌∙◌, subst, arith}
use Rattle.std.specs.Int.{w64, from_be_bytes}
use Rattle.std.proofs.lemmas.List.{length_push}
use Rattle.std.proofs.lemmas.Nat.{from_be_bytes-to_be_bytes_8}
use Rattle.key_state.specs.declared.entry.Entry.{Entry}
use Rattle.key_state.specs.declared.record.Record.{Record}
use Rattle.key_state.specs.Entries.{states}
use Rattle.journal_layout.specs.declared.gate.Gate.{Gate}
use Rattle.journal_layout.specs.declared.live.Live.{Live}
use Rattle.journal_layout.specs.Gate.{IsGate}
use Rattle.journal_layout.specs.Log.{IsForeign}
use Rattle.journal_layout.specs.Places.{log_at}
use Rattle.journal_layout.specs.Recovery.{Sectors, blocks_of, area_of, gate_of_live, log_start}
use Rattle.journal_layout.proofs.SameGate.{same_gate}
use Rattle.vd_disk.specs.Disk.{Table, DiskSeen, IsImage, IsTale, present, settled, sector_at}
use Rattle.journal_core.specs.Changes.{Changed, Tables}
use Rattle.journal_core.specs.Parts.{other_log, IsNotLater, IsSectorOf, AllFit, Allows}
use Rattle.journal_core.specs.Chapters.{Chapter, Shows, IsNoWorse, Tells}
use Rattle.journal_core.specs.Keeps.{story_of, next_of, IsEpoch, Runs, IsGateAt, IsReady}
use Rattle.journal_core.proofs.Telling.{tells_changed}
use Rattle.journal_core.proofs.Stories.{shown_few, story_chapter, grew_chapter, shows_more, tells_more}
use Rattle.journal_core.proofs.Epochs.{epoch_shows, epoch_worse}
use Rattle.journal_core.proofs.Settling.{settled_only, settled_allows}

pub foreign_later : (version epoch q : ℕ) (content : List ℕ) → epoch + 1 < 2 ^ 64 → IsNotLater epoch content → IsForeign version (epoch + 1) q content
foreign_later version epoch q content small old has =
    let is : from_be_bytes w64 (slice_range content 8 16) ≡ epoch + 1 = ap (from_be_bytes w64) has.its_epoch ∙ from_be_bytes-to_be_bytes_8 (epoch + 1) small in
    omega (arith, is, old)

pub next_epoch : (first : Live) (before : List Chapter) (live : Live) (base : List Entry) (past : List Record) → IsEpoch first before live base past → live.version ≡ 2 → live.epoch + 1 < 2 ^ 63
    → IsEpoch first (story_of before base past) (next_of live) (states base past) []
next_epoch first before live base past epoch two low = record {
  is_live =
      let more : first.epoch + length (story_of before base past) ≡ live.epoch + 1 = omega (arith, length_push before (record { base = base; past = past }), ap (λ (l : Live). l.epoch) epoch.is_live) in
      let version : 2 ≡ first.version = sym two ∙ ap (λ (l : Live). l.version) epoch.is_live in
      λ i. record { version = version i; epoch = sym more i; id = ap (λ (l : Live). l.id) epoch.is_live i; log_sectors = ap (λ (l : Live). l.log_sectors) epoch.is_live i };
  limits = record {
    is_version = (omega arith, omega arith);
    epoch = low;
    some_log = epoch.limits.some_log;
    few_logs = epoch.limits.few_logs;
  };
  story = story_chapter first before base past epoch.story;
}

module _ (live : Live) (base : List Entry) (past : List Record) (entries : List Entry) where
  abbrev next : Live
  next = next_of live

  -- what a sector may hold once the next gate is written
  abbrev pub Turned : ℕ → List ℕ → Type 0
  Turned i content = (IsSectorOf live base past i content × IsReady next entries i content) ⊎ IsGateAt next i content

  areas : area_of next ≡ 1 - area_of live
  areas = omega arith

  other_area : area_of live ≡ 1 - area_of next
  other_area = omega arith

  -- with the old gate
  pub old_fits : (image : Sectors) → area_of next < length image → AllFit Turned image → IsSectorOf live base past (area_of next) (sector_at image (area_of next)) → AllFit (IsSectorOf live base past) image
  old_fits image there fit gate i inside = ⊎_elim
      (λ old. old.0)
      (λ put. subst (λ k. IsSectorOf live base past k (sector_at image k)) (sym put.0) gate)
      (fit i inside)

  -- with the new one
  pub next_fits : live.epoch + 1 < 2 ^ 63 → (image : Sectors) → AllFit Turned image → IsGate (area_of next) (sector_at image (area_of next)) (gate_of_live next) → AllFit (IsSectorOf next entries []) image
  next_fits low image fit gate i inside =
      let log_next : log_start next ≡ other_log live = ap (λ a. log_at (blocks_of live) live.log_sectors a) areas in
      let log_other : other_log next ≡ log_start live = ap (λ a. log_at (blocks_of live) live.log_sectors a) (sym other_area) in
      ⊎_elim
      (λ old.
      record {
        gate = λ is. subst (λ k. IsGate (area_of next) (sector_at image k) (gate_of_live next)) (sym is) gate;
        other = λ is g is_gate.
            let at : i ≡ area_of live = is ∙ sym other_area in
            let own = old.0.gate at in
            let theirs : IsGate (area_of live) (sector_at image i) g = subst (λ a. IsGate a (sector_at image i) g) (sym other_area) is_gate in
            let same : g ≡ gate_of_live live = same_gate (area_of live) (sector_at image i) g (gate_of_live live) theirs own in
            let epochs : g.epoch ≡ live.epoch = ap (λ (x : Gate). x.epoch) same in
            omega (arith, epochs);
        slots = old.1.slots;
        part = λ q below is. inl (foreign_later 2 live.epoch q (sector_at image i) (omega (arith, low)) (old.0.there q below (is ∙ ap (λ n. n + q) log_next)));
        here = λ q below is. let was = old.0.there q below (is ∙ ap (λ n. n + q) log_next) in omega (arith, was);
        there = λ q below is. let was = old.0.here q below (is ∙ ap (λ n. n + q) log_other) in omega (arith, was);
      })
      (λ put.
      let low_place : i < 2 = omega (arith, put.0) in
      record {
        gate = λ is. put.1;
        other = λ is g is_gate. absurd (omega (arith, is, put.0));
        slots = λ k below is. absurd (omega (arith, is, low_place));
        part = λ q below is. absurd (omega (arith, is, low_place));
        here = λ q below is. absurd (omega (arith, is, low_place));
        there = λ q below is. absurd (omega (arith, is, low_place));
      })
      (fit i inside)

module _ (first : Live) (before : List Chapter) (live : Live) (base : List Entry) (past : List Record) (epoch : IsEpoch first before live base past) (two : live.version ≡ 2) (low : live.epoch + 1 < 2 ^ 63)
    (start least : ℕ) (old new : DiskSeen) (s : Sectors) (told : old.told ≡ Some s) (tale : IsTale old.sectors old.moments s)
    (runs : Runs first before live base past start least old) (ready : Allows (IsReady (next_of live) (states base past)) (present old.moments)) (changed : Changed (IsGateAt (next_of live)) old new) where
  abbrev story : List Chapter
  story = story_of before base past

  abbrev entries : List Entry
  entries = states base past

  abbrev all : List Chapter
  all = story_of story entries []

  abbrev after : Live
  after = next_of live

  epoch_next : IsEpoch first story after entries []
  epoch_next = next_epoch first before live base past epoch two low

  long : length story ≡ length before + 1
  long = length_push before (record { base = base; past = past })

  -- what an image shows by its gate
  shows_old : (image : Sectors) → length image ≡ old.sectors → AllFit (Turned live base past entries) image → IsSectorOf live base past (area_of after) (sector_at image (area_of after))
      → (n : ℕ) × Shows first all image (length before) n
  shows_old image size fit gate =
      let was = epoch_shows first before live base past epoch image (omega (arith, runs.room, size)) (old_fits live base past entries image (omega (arith, runs.room, size)) fit gate) in
      (was.0, shows_more first story all image (length before) was.0 (grew_chapter story (record { base = entries; past = [] })) was.1)

  shows_next : (image : Sectors) → length image ≡ old.sectors → AllFit (Turned live base past entries) image → IsGateAt after (area_of after) (sector_at image (area_of after))
      → Shows first all image (length story) 0
  shows_next image size fit gate =
      let now = epoch_shows first story after entries [] epoch_next image (omega (arith, runs.room, size)) (next_fits live base past entries low image fit gate.1) in
      let few = shown_few first story entries [] image now.0 now.1 in
      let none : now.0 ≡ 0 = omega (arith, few) in
      subst (λ n. Shows first all image (length story) n) none now.1

  by_gate : (image : Sectors) → length image ≡ old.sectors → AllFit (Turned live base past entries) image
      → IsSectorOf live base past (area_of after) (sector_at image (area_of after)) ⊎ IsGateAt after (area_of after) (sector_at image (area_of after))
  by_gate image size fit = ⊎_elim (λ was. inl was.0) (λ put. inr put) (fit (area_of after) (omega (arith, runs.room, size)))

  shows : (image : Sectors) → length image ≡ old.sectors → AllFit (Turned live base past entries) image → (i : ℕ) × (n : ℕ) × Shows first all image i n
  shows image size fit = ⊎_elim
      (λ was. let one = shows_old image size fit was in (length before, one.0, one.1))
      (λ put. (length story, 0, shows_next image size fit put))
      (by_gate image size fit)

  worse : (a b : Sectors) → length a ≡ old.sectors → length b ≡ old.sectors → AllFit (Turned live base past entries) a → AllFit (Turned live base past entries) b
      → ((i : ℕ) → i < old.sectors → (sector_at b i ≡ sector_at a i) ⊎ IsGateAt after i (sector_at b i)) → IsNoWorse first all a b
  worse a b size_a size_b fit_a fit_b from =
      let with_new : IsGateAt after (area_of after) (sector_at b (area_of after)) → IsNoWorse first all a b = λ gate.
      let now = shows_next b size_b fit_b gate in
      ⊎_elim
      (λ was. let one = shows_old a size_a fit_a was in (length before, one.0, length story, 0, one.1, now, inl (omega (arith, long))))
      (λ put. (length story, 0, length story, 0, shows_next a size_a fit_a put, now, inr (refl, omega arith)))
      (by_gate a size_a fit_a) in
      ⊎_elim
      (λ was. ⊎_elim
      (λ kept.
      let was_a : IsSectorOf live base past (area_of after) (sector_at a (area_of after)) = subst (IsSectorOf live base past (area_of after)) kept was in
      let old_a = old_fits live base past entries a (omega (arith, runs.room, size_a)) fit_a was_a in
      let old_b = old_fits live base past entries b (omega (arith, runs.room, size_b)) fit_b was in
      let grew = grew_chapter story (record { base = entries; past = [] }) in
      let one = epoch_worse first before live base past epoch a b (omega (arith, runs.room, size_a)) (omega (arith, size_a, size_b)) old_a old_b
      (λ i inside. ⊎_elim
      (λ same. inl same)
      (λ put. inl (subst (λ k. sector_at b k ≡ sector_at a k) (sym put.0) kept))
      (from i (omega (arith, inside, size_a)))) in
      (one.0, one.1, one.2, one.3, shows_more first story all a one.0 one.1 grew one.4, shows_more first story all b one.2 one.3 grew one.5, one.6))
      with_new
      (from (area_of after) (omega (arith, runs.room))))
      with_new
      (by_gate b size_b fit_b)

  tables : Tables (IsGateAt after) (length old.moments) old.sectors new.moments
  tables = changed.tables s told

  -- every image shows the story with the next epoch
  pub tells_turned : Tells first all new.moments start
  tells_turned =
      tells_changed first all (Turned live base past entries) (IsGateAt after) old.moments new.moments old.sectors start changed.earlier tables
      (λ i content inside has. inl (runs.allows i content (omega (arith, inside, tale.size_now)) has, ready i content (omega (arith, inside, tale.size_now)) has))
      (λ i content put. inr put)
      shows worse
      (tells_more first story all old.moments start (grew_chapter story (record { base = entries; past = [] })) runs.tells)

  -- synced, only the next epoch is left
  pub runs_turned : (t : Sectors) → new.told ≡ Some t → IsTale new.sectors new.moments t → present new.moments ≡ settled t
      → IsGate (area_of after) (sector_at t (area_of after)) (gate_of_live after) → Runs first story after entries [] start 0 new
  runs_turned t told_now tale_now is gate =
      let read = changed.told s told in
      let same : read.0 ≡ t = cc in
      let reads = read.2 in
      let fit_old : (i : ℕ) → i < length s → Turned live base past entries i (sector_at s i) = λ i inside.
      let has = tale.now.each i (omega (arith, inside, tale.as_many, tale.size_now)) in
      inl (
        runs.allows i (sector_at s i) (omega (arith, inside, tale.as_many, tale.size_now)) has,
        ready i (sector_at s i) (omega (arith, inside, tale.as_many, tale.size_now)) has,
      ) in
      let fit_read : AllFit (Turned live base past entries) read.0 = λ i inside.
      let within : i < length s = omega (arith, inside, reads.as_many) in
      ⊎_elim
      (λ kept. subst (Turned live base past entries i) (sym kept) (fit_old i within))
      (λ put. inr put)
      (reads.each i within) in
      let fit : AllFit (Turned live base past entries) t = subst (AllFit (Turned live base past entries)) same fit_read in
      let fits : AllFit (IsSectorOf after entries []) t = next_fits live base past entries low t fit gate in
      record {
        tells = tells_turned;
        room = omega (arith, runs.room, changed.sectors);
        allows = subst (Allows (IsSectorOf after entries [])) (sym is) (settled_allows (IsSectorOf after entries []) t fits);
        shown = λ image left.
            let one : image ≡ t = settled_only t image (subst (λ (x : Table). IsImage x image) is left) in
            let size : length t ≡ old.sectors = omega (arith, ap (λ (x : Sectors). length x) (sym same), reads.as_many, tale.as_many) in
            (0, subst (λ (x : Sectors). Shows first all x (length story) 0) (sym one) (shows_next t size fit (refl, gate)), omega arith);
      }
