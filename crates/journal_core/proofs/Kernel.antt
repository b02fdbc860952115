-- An image each of whose sectors fits recovers to a front of the records.
use Rattle.std.proofs.Common.{◌≡◌, ◌⊎◌, inl, inr, ℕ, ◌+◌, ◌-◌, ◌*◌, ◌/◌, ◌<◌, ◌≤◌, List, [], length, take, drop, get_or, refl, sym, ◌∙◌, subst, arith, length-take, length-drop}
use Rattle.std.proofs.lemmas.Bool.{cases_eq}
use Rattle.std.proofs.lemmas.List.{get_or-take, get_or-drop, get_or_past, get_or_default}
use Rattle.key_state.specs.declared.entry.Entry.{Entry}
use Rattle.key_state.specs.declared.entry.Entry.TheVariants.{Settled, Bad}
use Rattle.key_state.specs.declared.record.Record.{Record}
use Rattle.key_state.specs.Entries.{states, IsHistory}
use Rattle.journal_layout.specs.declared.live.Live.{Live}
use Rattle.journal_layout.specs.Log.{IsForeign}
use Rattle.journal_layout.specs.Places.{map_sectors}
use Rattle.journal_layout.specs.Recovery.{Sectors, Gives, Recovers, IsLive, IsMap, IsMapSlot, area_of, blocks_of, map_start, log_start, journal_end, map_places, log_of, place_at}
use Rattle.journal_layout.proofs.LogParts.{HoldsPart, front_stored}
use Rattle.vd_disk.specs.Disk.{sector_at}
use Rattle.journal_core.specs.Parts.{slot_at, IsSectorOf, AllFit, IsPart}

-- an area's sectors stand before the end
pub inside_area : (area m l i : ℕ) → area < 2 → i < m + l → 2 + area * (m + l) + i < 2 + 2 * (m + l)
inside_area area m l i small below = elim (cases_eq area 0) [
  | inl none ↦ subst (λ a. 2 + a * (m + l) + i < 2 + 2 * (m + l)) (sym none) (omega (arith, below))
  | inr some ↦
      let one : area ≡ 1 = omega (arith, small, some) in
      subst (λ a. 2 + a * (m + l) + i < 2 + 2 * (m + l)) (sym one) (omega (arith, below))
]

pub map_inside : (live : Live) (i : ℕ) → i < map_sectors (blocks_of live) → map_start live + i < journal_end live
map_inside live i below = inside_area (area_of live) (map_sectors (blocks_of live)) live.log_sectors i (omega arith) (omega (arith, below))

pub log_inside : (live : Live) (q : ℕ) → q < live.log_sectors → log_start live + q < journal_end live
log_inside live q below =
    let at = inside_area (area_of live) (map_sectors (blocks_of live)) live.log_sectors (map_sectors (blocks_of live) + q) (omega arith) (omega (arith, below)) in
    omega (arith, at)

pub log_place : (sectors : Sectors) (live : Live) (q : ℕ) → q < live.log_sectors → place_at (log_of sectors live) q ≡ sector_at sectors (log_start live + q)
log_place sectors live q below =
    get_or-take (log_start live + live.log_sectors - log_start live) (drop (log_start live) sectors) q [] (omega (arith, below)) ∙ get_or-drop (log_start live) sectors q []

pub length-log_of : (sectors : Sectors) (live : Live) → journal_end live ≤ length sectors → length (log_of sectors live) ≡ live.log_sectors
length-log_of sectors live room =
    let start = log_start live in
    let many : (start + live.log_sectors) - start ≡ live.log_sectors = omega arith in
    let rest = length-drop start sectors in
    let taken = length-take ((start + live.log_sectors) - start) (drop start sectors) in
    let inside = elim (cases_eq live.log_sectors 0) as (λ _. start + live.log_sectors ≤ length sectors ⊎ (live.log_sectors ≡ 0)) [
      | inl none ↦ inr none
      | inr some ↦ let last = log_inside live (live.log_sectors - 1) (omega (arith, some)) in inl (omega (arith, last, some, room))
    ] in
    elim inside [
      | inl within ↦ omega (arith, many, rest, taken, within)
      | inr none ↦ omega (arith, many, taken, none)
    ]

part_holds : (live : Live) (past : List Record) (q : ℕ) (sector : List ℕ) (count : ℕ) → IsPart live past q sector count → HoldsPart live past q sector count
part_holds live past q sector count part = record { counted = part.counted; there = part.there; spelled = part.spelled; zeros = part.zeros }

module _ (live : Live) (base : List Entry) (past : List Record) (image : Sectors)
    (history : IsHistory base past) (one_each : length base ≡ blocks_of live) (room : journal_end live ≤ length image) (fit : AllFit (IsSectorOf live base past) image) where
  is_live : IsLive image live
  is_live = record {
    gate = record {
      there = omega (arith, room);
      is_gate = (fit (area_of live) (omega (arith, room))).gate refl;
    };
    greatest = λ other has. (fit (1 - area_of live) has.there).other refl other has.is_gate;
  }

  is_slot : (k : ℕ) → k < map_places (blocks_of live) → IsMapSlot image (map_start live) (blocks_of live) k (slot_at base k)
  is_slot k below =
      let inside = map_inside live (k / 256) (omega (arith, below)) in
      (fit (map_start live + k / 256) (omega (arith, inside, room))).slots k below refl

  pub is_map : IsMap image live base
  is_map = record {
    one_each = omega (arith, one_each);
    each = λ k from below inside.
        let same : slot_at base k ≡ get_or base k Bad = get_or_default base k (Settled 0) Bad (omega (arith, inside, one_each)) in
        subst (λ (e : Entry). IsMapSlot image (map_start live) (blocks_of live) k e) same (is_slot k below);
    rest = λ k from below past_all.
        let none : slot_at base k ≡ Settled 0 = get_or_past base k (Settled 0) (omega (arith, past_all, one_each)) in
        subst (λ (e : Entry). IsMapSlot image (map_start live) (blocks_of live) k e) none (is_slot k below);
  }

  log_fits : (p : ℕ) → p < length (log_of image live)
      → IsForeign live.version live.epoch p (place_at (log_of image live) p) ⊎ ((count : ℕ) × HoldsPart live past p (place_at (log_of image live) p) count)
  log_fits p below =
      let inside : p < live.log_sectors = omega (arith, below, length-log_of image live room) in
      let at = log_inside live p inside in
      let is : sector_at image (log_start live + p) ≡ place_at (log_of image live) p = sym (log_place image live p inside) in
      elim ((fit (log_start live + p) (omega (arith, at, room))).part p inside refl) [
        | inl foreign ↦ inl (subst (IsForeign live.version live.epoch p) is foreign)
        | inr own ↦ inr (own.0, subst (λ (s : List ℕ). HoldsPart live past p s own.0) is (part_holds live past p _ own.0 own.1))
      ]

  pub shows_front : (n : ℕ) × (n ≤ length past) × Gives image live.id (Recovers live (take n past) (states base (take n past)))
  shows_front =
      let front = front_stored live base (log_of image live) past history log_fits in
      (front.0, front.1, (record { is_live = is_live; is_wanted = refl; has_room = room }, (base, is_map, front.2, refl)))
