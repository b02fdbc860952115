-- A synced disk, a record more, and the beginning of an epoch.
use Rattle.std.proofs.Common.{◌≡◌, inl, inr, ⊎_elim, ℕ, ◌+◌, ◌-◌, ◌*◌, ◌<◌, ◌≤◌, List, [], ◌∷◌, ◌++◌, length, get_or, refl, sym, ◌∙◌, subst, arith}
use Rattle.std.proofs.lemmas.List.{length_push, length-map, ext_get_or}
use Rattle.key_state.specs.declared.entry.Entry.{Entry}
use Rattle.key_state.specs.declared.record.Record.{Record}
use Rattle.journal_layout.specs.declared.live.Live.{Live}
use Rattle.journal_layout.specs.Recovery.{Sectors, journal_end}
use Rattle.vd_disk.specs.Disk.{Table, DiskSeen, IsImage, IsImageAt, IsTale, present, settled, sector_at}
use Rattle.journal_core.specs.Changes.{table_at}
use Rattle.journal_core.specs.Parts.{IsSectorOf, AllFit, Allows, Stands, IsPart}
use Rattle.journal_core.specs.Chapters.{Chapter, Shows}
use Rattle.journal_core.specs.Keeps.{story_of, IsEpoch, Runs}
use Rattle.journal_core.proofs.Changes.{rows_settled}
use Rattle.journal_core.proofs.Stories.{get_front, grew_record, shows_more, tells_more}
use Rattle.journal_core.proofs.Epochs.{epoch_shows, shows_least}

pub settled_only : (now image : Sectors) → IsImage (settled now) image → image ≡ now
settled_only now image is =
    let size : length image ≡ length now = is.size ∙ length-map now (λ sector. sector ∷ []) in
    ext_get_or [] image now size (λ i within. rows_settled now i (get_or image i []) (omega (arith, within, size)) (is.each i (omega (arith, within, is.size))))

pub settled_allows : (P : ℕ → List ℕ → Type 0) (s : Sectors) → AllFit P s → Allows P (settled s)
settled_allows P s fit i content inside has =
    let within : i < length s = omega (arith, inside, length-map s (λ (sector : List ℕ). sector ∷ [])) in
    subst (P i) (sym (rows_settled s i content within has)) (fit i within)

-- A synced disk whose log has m records shows at least these.
pub runs_settled : (first : Live) (before : List Chapter) (live : Live) (base : List Entry) (past : List Record) (start least m : ℕ) (disk : DiskSeen) (s : Sectors) → IsEpoch first before live base past
    → IsTale disk.sectors disk.moments s → present disk.moments ≡ settled s → m ≤ 30 * live.log_sectors → Stands live m s
    → Runs first before live base past start least disk → Runs first before live base past start m disk
runs_settled first before live base past start least m disk s epoch tale is most stands runs =
    let allows : Allows (IsSectorOf live base past) (settled s) = subst (Allows (IsSectorOf live base past)) is runs.allows in
    let fit : AllFit (IsSectorOf live base past) s = λ i inside. runs.allows i (sector_at s i) (omega (arith, inside, tale.as_many, tale.size_now)) (tale.now.each i (omega (arith, inside, tale.as_many, tale.size_now))) in
    let room : journal_end live ≤ length s = omega (arith, runs.room, tale.as_many) in
    record {
      tells = runs.tells;
      room = runs.room;
      allows = runs.allows;
      shown = λ image left.
          let same : image ≡ s = settled_only s image (subst (λ (t : Table). IsImage t image) is left) in
          subst (λ (i : Sectors). (n : ℕ) × Shows first (story_of before base past) i (length before) n × (m ≤ n)) (sym same)
          (shows_least first before live base past epoch s m room fit most stands);
    }

pub part_more : (live : Live) (past : List Record) (made : Record) (q : ℕ) (sector : List ℕ) (count : ℕ) → IsPart live past q sector count → IsPart live (past ++ made ∷ []) q sector count
part_more live past made q sector count part = record {
  counted = part.counted;
  there = omega (arith, part.there, length_push past made);
  spelled = λ j r below is. part.spelled j r below (sym (get_front past (made ∷ []) (30 * q + j) (omega (arith, below, part.there))) ∙ is);
  zeros = part.zeros;
}

pub fits_more : (live : Live) (base : List Entry) (past : List Record) (made : Record) (i : ℕ) (content : List ℕ) → IsSectorOf live base past i content → IsSectorOf live base (past ++ made ∷ []) i content
fits_more live base past made i content fits = record {
  gate = fits.gate;
  other = fits.other;
  slots = fits.slots;
  part = λ q inside at. ⊎_elim (λ foreign. inl foreign) (λ own. inr (own.0, part_more live past made q content own.0 own.1)) (fits.part q inside at);
  here = fits.here;
  there = fits.there;
}

-- one record more, which isn't written
pub runs_record : (first : Live) (before : List Chapter) (live : Live) (base : List Entry) (past : List Record) (made : Record) (start least : ℕ) (disk : DiskSeen)
    → Runs first before live base past start least disk → Runs first before live base (past ++ made ∷ []) start least disk
runs_record first before live base past made start least disk runs =
    let grew = grew_record before base past made in
    record {
      tells = tells_more first (story_of before base past) (story_of before base (past ++ made ∷ [])) disk.moments start grew runs.tells;
      room = runs.room;
      allows = λ i content inside has. fits_more live base past made i content (runs.allows i content inside has);
      shown = λ image left.
          let was = runs.shown image left in
          (was.0, shows_more first (story_of before base past) (story_of before base (past ++ made ∷ [])) image (length before) was.0 grew was.1, was.2);
    }

-- an epoch without records, over a synced disk that shows nothing else
pub runs_fresh : (live : Live) (base : List Entry) (disk : DiskSeen) (s : Sectors) → IsEpoch live [] live base [] → IsTale disk.sectors disk.moments s → present disk.moments ≡ settled s
    → journal_end live ≤ disk.sectors → AllFit (IsSectorOf live base []) s → Runs live [] live base [] (length disk.moments - 1) 0 disk
runs_fresh live base disk s epoch tale is room fit =
    let last = length disk.moments - 1 in
    let shows : (image : Sectors) → IsImage (present disk.moments) image → (n : ℕ) × Shows live (story_of [] base []) image 0 n = λ image left.
    let same : image ≡ s = settled_only s image (subst (λ (t : Table). IsImage t image) is left) in
    subst (λ (i : Sectors). (n : ℕ) × Shows live (story_of [] base []) i 0 n) (sym same) (epoch_shows live [] live base [] epoch s (omega (arith, room, tale.as_many)) fit) in
    record {
      tells = record {
        begun = omega (arith, tale.began);
        shown = λ m image later at.
            let here : m ≡ last = omega (arith, later, at.reached) in
            let one = shows image (subst (λ k. IsImage (table_at disk.moments k) image) here at.left) in
            (0, one.0, one.1);
        grows = λ m n image later order at.
            let here : n ≡ last = omega (arith, later, order, at.reached) in
            let same : n ≡ m = omega (arith, here, later, order) in
            let one = shows image (subst (λ k. IsImage (table_at disk.moments k) image) here at.left) in
            (image, subst (λ k. IsImageAt disk.moments k image) same at, (0, one.0, 0, one.0, one.1, one.1, inr (refl, omega arith)));
      };
      room = room;
      allows = subst (Allows (IsSectorOf live base [])) (sym is) (settled_allows (IsSectorOf live base []) s fit);
      shown = λ image left. let one = shows image left in (one.0, one.1, omega arith);
    }
