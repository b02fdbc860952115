-- What a stop may leave while a journal is opened anew.
use Rattle.std.proofs.Common.{◌≡◌, ◌⊎◌, inl, inr, ⊎_elim, ℕ, ◌+◌, ◌-◌, ◌*◌, ◌/◌, ◌%◌, ◌^◌, ◌<◌, ◌≤◌, List, [], length, take, replicate, slice_range, Some, Result, refl, sym, ap, ◌∙◌, subst, arith}
use Rattle.std.specs.Int.{w64, from_be_bytes}
use Rattle.std.proofs.lemmas.Bool.{cases_lt}
use Rattle.std.proofs.lemmas.List.{get_or_past, ext_get_or}
use Rattle.std.proofs.lemmas.Nat.{from_be_bytes-to_be_bytes_8}
use Rattle.std.proofs.lemmas.Option.{slice_get_within}
use Rattle.key_state.specs.declared.entry.Entry.{Entry}
use Rattle.key_state.specs.declared.record.Record.{Record}
use Rattle.journal_layout.specs.declared.live.Live.{Live}
use Rattle.journal_layout.specs.Gate.{IsGate}
use Rattle.journal_layout.specs.Log.{HasHead, HasCount, IsForeign, IsRecordOf, IsZeroPast}
use Rattle.journal_layout.specs.Places.{map_sectors}
use Rattle.journal_layout.specs.Recovery.{Sectors, Outcome, Gives, Recovers, IsWhole, IsMap, IsSlot, Stores, EndsAt, Complete, area_of, gate_of_live, blocks_of, map_start, log_start, journal_end, map_places, log_of, place_at}
use Rattle.journal_layout.proofs.OneOutcome.{gives_once}
use Rattle.key_state.specs.Entries.{states}
use Rattle.key_state.proofs.Histories.{states_nil, history_nil}
use Rattle.vd_disk.specs.Disk.{Table, DiskSeen, WhenTold, IsTale, IsAtRest, IsImage, IsImageAt, sector_at}
use Rattle.vd_outside.specs.Causes.{Rose}
use Rattle.journal_core.specs.declared.fault.OpenFault.{OpenFault}
use Rattle.journal_core.specs.declared.fault.OpenFault.TheVariants.{Failed as FailedCall}
use Rattle.journal_core.specs.Calls.{NotOpened}
use Rattle.journal_core.specs.Opening.{Opens}
use Rattle.journal_core.specs.Changes.{Changed}
use Rattle.journal_core.specs.Keeps.{next_of, IsGateAt}
use Rattle.journal_core.specs.Parts.{IsSectorOf, AllFit}
use Rattle.journal_core.specs.Writes.{HasLive, InMap, HasMap, IsSynced, ReadsGate, Begins, IsLater, ClearsBoth, HasNoneLater, Reopens}
use Rattle.journal_core.proofs.Changes.{changed_wider, changed_then, extends_longer}
use Rattle.journal_core.proofs.Clearing.{fits_written}
use Rattle.journal_core.proofs.GoingOn.{goes_reopens, not_opened}
use Rattle.journal_core.proofs.Settling.{settled_only}
use Rattle.journal_core.proofs.Telling.{comes_from, image_before}
use Rattle.journal_core.proofs.TurnSteps.{areas_apart}
use Rattle.journal_core.proofs.Kernel.{map_inside, log_inside, log_place, length-log_of, shows_front}
use Rattle.journal_core.proofs.Opened.{zero_foreign}

-- An image with the gates and the map of a journal that recovers, and its log but for later sectors, recovers the same.
module _ (live : Live) (s image : Sectors) (records : List Record) (now : List Entry) (low : live.epoch < 2 ^ 64) (size : length image ≡ length s) (was : Gives s live.id (Recovers live records now))
    (gates : (i : ℕ) → i < 2 → sector_at image i ≡ sector_at s i)
    (maps : (i : ℕ) → i < map_sectors (blocks_of live) → sector_at image (map_start live + i) ≡ sector_at s (map_start live + i))
    (logs : (q : ℕ) → q < live.log_sectors → (sector_at image (log_start live + q) ≡ sector_at s (log_start live + q))
    ⊎ ((sector_at image (log_start live + q) ≡ replicate 512 0) × IsLater live.epoch (sector_at s (log_start live + q)))) where
  room : journal_end live ≤ length s
  room = was.0.has_room

  room_now : journal_end live ≤ length image
  room_now = omega (arith, room, size)

  many : length (log_of s live) ≡ live.log_sectors
  many = length-log_of s live room

  many_now : length (log_of image live) ≡ live.log_sectors
  many_now = length-log_of image live room_now

  whole : IsWhole image live.id live
  whole =
      let before = was.0 in
      record {
        is_live = record {
          gate = record { there = omega (arith, before.is_live.gate.there, size); is_gate = subst (λ (x : List ℕ). IsGate (area_of live) x (gate_of_live live)) (sym (gates (area_of live) (omega arith))) before.is_live.gate.is_gate };
          greatest = λ other has. before.is_live.greatest other (record {
            there = omega (arith, has.there, size);
            is_gate = subst (λ (x : List ℕ). IsGate (1 - area_of live) x other) (gates (1 - area_of live) (omega arith)) has.is_gate;
          });
        };
        is_wanted = before.is_wanted;
        has_room = room_now;
      }

  abbrev base : List Entry
  base = was.1.0

  slot_now : (k : ℕ) (entry : Entry) → k < map_places (blocks_of live) → IsSlot (sector_at s (map_start live + k / 256)) (blocks_of live) k entry → IsSlot (sector_at image (map_start live + k / 256)) (blocks_of live) k entry
  slot_now k entry below slot = subst (λ (x : List ℕ). IsSlot x (blocks_of live) k entry) (sym (maps (k / 256) (omega (arith, below)))) slot

  map_now : IsMap image live base
  map_now =
      let map = was.1.1 in
      record {
        one_each = map.one_each;
        each = λ k from below inside. slot_now k _ below (map.each k from below inside);
        rest = λ k from below past. slot_now k _ below (map.rest k from below past);
      }

  -- what has the epoch's head is as it was
  headed : (q : ℕ) → q < live.log_sectors → HasHead live.version live.epoch q (place_at (log_of s live) q) → place_at (log_of image live) q ≡ place_at (log_of s live) q
  headed q below head =
      let there = log_place s live q below in
      let here = log_place image live q below in
      here ∙ ⊎_elim
      (λ same. same)
      (λ cleared.
      let is : from_be_bytes w64 (slice_range (place_at (log_of s live) q) 8 16) ≡ live.epoch = ap (from_be_bytes w64) head.its_epoch ∙ from_be_bytes-to_be_bytes_8 live.epoch low in
      let later : live.epoch < from_be_bytes w64 (slice_range (place_at (log_of s live) q) 8 16) = subst (IsLater live.epoch) (sym there) cleared.1 in
      absurd (omega (arith, is, later)))
      (logs q below)
      ∙ sym there

  foreign_now : (q : ℕ) → q < live.log_sectors → IsForeign live.version live.epoch q (place_at (log_of s live) q) → IsForeign live.version live.epoch q (place_at (log_of image live) q)
  foreign_now q below foreign =
      let there = log_place s live q below in
      let here = log_place image live q below in
      ⊎_elim
      (λ same. subst (IsForeign live.version live.epoch q) (sym (here ∙ same ∙ sym there)) foreign)
      (λ cleared. subst (IsForeign live.version live.epoch q) (sym (here ∙ cleared.0)) (zero_foreign live.version live.epoch q))
      (logs q below)

  ends_foreign : (q : ℕ) → IsForeign live.version live.epoch q (place_at (log_of s live) q) → (length (log_of image live) ≤ q) ⊎ IsForeign live.version live.epoch q (place_at (log_of image live) q)
  ends_foreign q foreign = elim (cases_lt q live.log_sectors) [
    | inl below ↦ inr (foreign_now q below foreign)
    | inr past ↦ inl (omega (arith, past, many_now))
  ]

  ends_now : (q j : ℕ) → EndsAt live base (log_of s live) records q j Complete → EndsAt live base (log_of image live) records q j Complete
  ends_now q j ends = ⊎_elim
      (λ none.
      let rest : (length (log_of image live) ≤ q) ⊎ IsForeign live.version live.epoch q (place_at (log_of image live) q) = ⊎_elim
      (λ past. inl (omega (arith, past, many, many_now)))
      (λ foreign. ends_foreign q foreign)
      none.1 in
      inl (none.0, rest))
      (λ part. elim (cases_lt q live.log_sectors) [
        | inl below ↦
            let same = headed q below part.0.head in
            inr (subst (λ (x : List ℕ). HasCount live.version live.epoch q x j) (sym same) part.0, subst (λ (x : List ℕ). IsZeroPast x j) (sym same) part.1)
        | inr past ↦
            let there : place_at (log_of s live) q ≡ [] = get_or_past (log_of s live) q [] (omega (arith, past, many)) in
            let here : place_at (log_of image live) q ≡ [] = get_or_past (log_of image live) q [] (omega (arith, past, many_now)) in
            let same : place_at (log_of image live) q ≡ place_at (log_of s live) q = here ∙ sym there in
            inr (subst (λ (x : List ℕ). HasCount live.version live.epoch q x j) (sym same) part.0, subst (λ (x : List ℕ). IsZeroPast x j) (sym same) part.1)
      ])
      ends

  stores_now : Stores live base (log_of image live) records Complete
  stores_now =
      let stores = was.1.2 in
      let reads = stores.reads in
      record {
        reads = record {
          room = omega (arith, reads.room, many, many_now);
          counted = λ q some.
              let own = reads.counted q some in
              let below : q < live.log_sectors = omega (arith, some, reads.room, many) in
              (own.0, subst (λ (x : List ℕ). HasCount live.version live.epoch q x own.0) (sym (headed q below own.1.head)) own.1, own.2);
          spelled = λ i made is.
              let within = slice_get_within records i made is in
              let own = reads.counted (i / 30) (omega (arith, within)) in
              let below : i / 30 < live.log_sectors = omega (arith, within, reads.room, many) in
              subst (λ (x : List ℕ). IsRecordOf live.version (blocks_of live) x (i % 30) made) (sym (headed (i / 30) below own.1.head)) (reads.spelled i made is);
          legal = reads.legal;
        };
        ends = ends_now (length records / 30) (length records % 30) stores.ends;
      }

  pub recovers_kept : Gives image live.id (Recovers live records now)
  recovers_kept = (whole, (base, map_now, stores_now, was.1.3))

-- the next epoch's area stands apart from this one's
next_apart : (live : Live) (i y : ℕ) → map_start (next_of live) ≤ i → i < map_start (next_of live) + (map_sectors (blocks_of live) + live.log_sectors) → y < map_sectors (blocks_of live) + live.log_sectors → i ≡ map_start live + y → ⊥
next_apart live i y from to below is =
    let m = map_sectors (blocks_of live) in
    let l = live.log_sectors in
    let areas : area_of (next_of live) ≡ 1 - area_of live = omega arith in
    let place : map_start (next_of live) ≡ 2 + (1 - area_of live) * (m + l) = ap (λ a. 2 + a * (m + l)) areas in
    let x = i - map_start (next_of live) in
    let in_x : x < m + l = omega (arith, from, to) in
    let at : 2 + (1 - area_of live) * (m + l) + x ≡ i = omega (arith, from, place) in
    areas_apart (area_of live) m l x y (omega arith) in_x below (at ∙ is)

module _ (live : Live) (entries : List Entry) (old : DiskSeen) (low : live.epoch + 1 < 2 ^ 63) (room : journal_end live ≤ old.sectors) (tale : WhenTold old.told (IsTale old.sectors old.moments))
    (gate : WhenTold old.told (ReadsGate live)) (one_each : length entries ≡ blocks_of live) (s : Sectors) (told : old.told ≡ Some s) (rests : IsAtRest old.moments s) where
  -- what is written before the gate
  abbrev Before : ℕ → List ℕ → Type 0
  Before i content = ClearsBoth live old.told i content ⊎ InMap (next_of live) i content

  size_s : length s ≡ old.sectors
  size_s = (tale s told).as_many

  kept_by : (image : Sectors) → length image ≡ length s → ((i : ℕ) → i < old.sectors → (sector_at image i ≡ sector_at s i) ⊎ Before i (sector_at image i)) → (records : List Record) (now : List Entry)
      → Gives s live.id (Recovers live records now) → Gives image live.id (Recovers live records now)
  kept_by image size from records now was = recovers_kept live s image records now (omega (arith, low)) size was
      (λ i small. ⊎_elim
      (λ same. same)
      (λ put. absurd (⊎_elim (λ clears. ⊎_elim (λ a. omega (arith, a.0.0, small)) (λ b. omega (arith, b.0.0, small)) clears) (λ map. omega (arith, map.0, small)) put))
      (from i (omega (arith, small, room))))
      (λ i below.
      let inside = map_inside live i below in
      ⊎_elim
      (λ same. same)
      (λ put. absurd (⊎_elim
      (λ clears. ⊎_elim
      (λ a. omega (arith, a.0.0, below))
      (λ b. next_apart live (map_start live + i) i (omega (arith, b.0.0)) (omega (arith, b.0.1)) (omega (arith, below)) refl)
      clears)
      (λ map. next_apart live (map_start live + i) i map.0 (omega (arith, map.1)) (omega (arith, below)) refl)
      put))
      (from (map_start live + i) (omega (arith, inside, room))))
      (λ q below.
      let inside = log_inside live q below in
      let y = map_sectors (blocks_of live) + q in
      let at : log_start live + q ≡ map_start live + y = omega arith in
      ⊎_elim
      (λ same. inl same)
      (λ put. ⊎_elim
      (λ clears. ⊎_elim
      (λ a. inr (a.0.2, a.1 s told))
      (λ b. absurd (next_apart live (log_start live + q) y (omega (arith, b.0.0)) (omega (arith, b.0.1)) (omega (arith, below)) at))
      clears)
      (λ map. absurd (next_apart live (log_start live + q) y map.0 (omega (arith, map.1)) (omega (arith, below)) at))
      put)
      (from (log_start live + q) (omega (arith, inside, room))))

  before_gate : (d : DiskSeen) → Changed Before old d → (m : ℕ) (image : Sectors) → length old.moments ≤ m + 1 → IsImageAt d.moments m image → (records : List Record) (now : List Entry)
      → Gives s live.id (Recovers live records now) → Gives image live.id (Recovers live records now)
  before_gate d changed m image since at =
      let begun = (tale s told).began in
      let last = length old.moments - 1 in
      let tables = changed.tables s told in
      let from = comes_from Before old.moments d.moments old.sectors changed.earlier begun tables last m image (omega (arith, begun)) (omega (arith, since)) at in
      let there = image_before old.moments d.moments last from.0 changed.earlier (omega (arith, begun)) from.1 in
      let same : from.0 ≡ s = rests from.0 there.left in
      let size : length image ≡ length s = at.left.size ∙ tables.sizes m since at.reached ∙ sym size_s in
      kept_by image size (subst (λ (x : Sectors). (i : ℕ) → i < old.sectors → (sector_at image i ≡ sector_at x i) ⊎ Before i (sector_at image i)) same from.2)

  shows_next : (image : Sectors) → journal_end live ≤ length image → AllFit (IsSectorOf (next_of live) entries []) image → Gives image live.id (Recovers (next_of live) [] entries)
  shows_next image there fit =
      let front = shows_front (next_of live) entries [] image (history_nil entries) one_each there fit in
      let none : front.0 ≡ 0 = omega (arith, front.1) in
      let gives : Gives image live.id (Recovers (next_of live) [] (states entries [])) =
      subst (λ n. Gives image live.id (Recovers (next_of live) (take n []) (states entries (take n [])))) none front.2 in
      subst (λ (es : List Entry). Gives image live.id (Recovers (next_of live) [] es)) (states_nil entries) gives

  to_mid : (mid : DiskSeen) → Changed (ClearsBoth live old.told) old mid → Changed Before old mid
  to_mid mid clears = changed_wider (ClearsBoth live old.told) Before old mid (λ i content put. inl put) clears

  to_ready : (mid ready : DiskSeen) → Changed (ClearsBoth live old.told) old mid → Changed (InMap (next_of live)) mid ready → Changed Before old ready
  to_ready mid ready clears maps = changed_then Before old mid ready (to_mid mid clears) (changed_wider (InMap (next_of live)) Before mid ready (λ i content put. inr put) maps)

  module _ (mid ready new : DiskSeen) (tale_ready : WhenTold ready.told (IsTale ready.sectors ready.moments)) (clears : Changed (ClearsBoth live old.told) old mid) (none : WhenTold mid.told (HasNoneLater live))
      (maps : Changed (InMap (next_of live)) mid ready) (map : IsSynced ready (HasMap (next_of live) entries)) (gates : Changed (IsGateAt (next_of live)) ready new) where
    by_gate : (m : ℕ) (image : Sectors) → length ready.moments ≤ m + 1 → IsImageAt new.moments m image
        → ((records : List Record) (now : List Entry) → Gives s live.id (Recovers live records now) → Gives image live.id (Recovers live records now)) ⊎ Gives image live.id (Recovers (next_of live) [] entries)
    by_gate m image since at =
        let at_mid = clears.told s told in
        let at_ready = maps.told at_mid.0 at_mid.1 in
        let r = at_ready.0 in
        let told_r = at_ready.1 in
        let here = tale_ready r told_r in
        let last = length ready.moments - 1 in
        let tables = gates.tables r told_r in
        let from = comes_from (IsGateAt (next_of live)) ready.moments new.moments ready.sectors gates.earlier here.began tables last m image (omega (arith, here.began)) (omega (arith, since)) at in
        let there = image_before ready.moments new.moments last from.0 gates.earlier (omega (arith, here.began)) from.1 in
        let same : from.0 ≡ r = settled_only r from.0 (subst (λ (t : Table). IsImage t from.0) (map r told_r).0 there.left) in
        let reads : (i : ℕ) → i < ready.sectors → (sector_at image i ≡ sector_at r i) ⊎ IsGateAt (next_of live) i (sector_at image i) =
        subst (λ (x : Sectors). (i : ℕ) → i < ready.sectors → (sector_at image i ≡ sector_at x i) ⊎ IsGateAt (next_of live) i (sector_at image i)) same from.2 in
        let size : length image ≡ ready.sectors = at.left.size ∙ tables.sizes m since at.reached in
        let sizes : ready.sectors ≡ old.sectors = maps.sectors ∙ clears.sectors in
        let g = area_of (next_of live) in
        let inside : g < ready.sectors = omega (arith, sizes, room) in
        ⊎_elim
        (λ kept.
        let all : image ≡ r = ext_get_or [] image r (omega (arith, size, here.as_many))
        (λ i within. ⊎_elim
        (λ e. e)
        (λ put. subst (λ k. sector_at image k ≡ sector_at r k) (sym put.0) kept)
        (reads i (omega (arith, within, size)))) in
        let now_at : IsImageAt ready.moments last image = subst (λ (x : Sectors). IsImageAt ready.moments last x) (same ∙ sym all) there in
        let longer = extends_longer old.moments ready.moments (to_ready mid ready clears maps).earlier in
        inl (before_gate ready (to_ready mid ready clears maps) last image (omega (arith, longer, here.began)) now_at))
        (λ put.
        inr (shows_next image (omega (arith, size, sizes, room))
        (fits_written live entries old mid ready low room tale gate clears none maps map image r told_r (record { as_many = size ∙ sym here.as_many; each = λ i within. reads i (omega (arith, within, here.as_many)) }) put.1)))
        (reads g inside)

  pub renews : {E : Type 0} (new : DiskSeen) (result : Result (Unit {0}) E) → Reopens live entries old new result → (m : ℕ) (image : Sectors) → length old.moments ≤ m + 1 → IsImageAt new.moments m image
      → ((records : List Record) (now : List Entry) → Gives s live.id (Recovers live records now) → Gives image live.id (Recovers live records now)) ⊎ Gives image live.id (Recovers (next_of live) [] entries)
  renews new result (inr part) m image since at = inl (before_gate new (to_mid new part.0) m image since at)
  renews new result (inl all) m image since at = begun all.4
    where
      begun : Begins (next_of live) entries all.0 new result
          → ((records : List Record) (now : List Entry) → Gives s live.id (Recovers live records now) → Gives image live.id (Recovers live records now)) ⊎ Gives image live.id (Recovers (next_of live) [] entries)
      begun (inr part) = inl (before_gate new (to_ready all.0 new all.2 part.0) m image since at)
      begun (inl rest) = elim (cases_lt m (length rest.0.moments)) [
        | inl before ↦ inl (before_gate rest.0 (to_ready all.0 rest.0 all.2 rest.2) m image since (image_before rest.0.moments new.moments m image rest.4.earlier before at))
        | inr late ↦ by_gate all.0 rest.0 new rest.1 all.2 all.3 rest.2 rest.3 rest.4 m image (omega (arith, late)) at
      ]

-- So each image gives what it gave, or the next epoch.
pub opens_next : (live : Live) (entries : List Entry) (given disk : DiskSeen) → WhenTold given.told (HasLive live)
    → ((s : Sectors) → given.told ≡ Some s → IsAtRest given.moments s → (m : ℕ) (image : Sectors) → length given.moments ≤ m + 1 → IsImageAt disk.moments m image
    → ((records : List Record) (now : List Entry) → Gives s live.id (Recovers live records now) → Gives image live.id (Recovers live records now)) ⊎ Gives image live.id (Recovers (next_of live) [] entries))
    → Opens (next_of live) entries given.told given.moments disk.moments
opens_next live entries given disk found all s told rests m image since at = ⊎_elim
    (λ kept.
    let has = found s told in
    inl (λ outcome gives.
    let once : outcome ≡ Recovers live has.0 has.1 = gives_once s live.id outcome (Recovers live has.0 has.1) gives has.2 in
    subst (λ (o : Outcome). Gives image live.id o) (sym once) (kept has.0 has.1 has.2)))
    (λ next. inr (inr next))
    (all s told rests m image since at)

-- an opening that failed
pub refused_call : {E : Type 0} (live : Live) (entries : List Entry) (given back left : DiskSeen) (why : OpenFault) (result : Result (Unit {0}) E) → left ≡ back → why ≡ FailedCall → live.epoch < 9223372036854775807 → Rose given.faults back.faults
    → Reopens live entries given back result → Opens (next_of live) entries given.told given.moments back.moments → NotOpened live entries given left why
refused_call live entries given back left why result same is low rose reopens opens =
    not_opened live entries given back left why FailedCall same is (low, rose, goes_reopens live entries given back result reopens, opens)
