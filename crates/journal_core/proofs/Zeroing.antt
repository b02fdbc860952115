-- A gate that isn't live is zeros now: a journal gives what it gave.
use Rattle.std.proofs.Common.{◌≡◌, inl, inr, ℕ, ◌+◌, ◌-◌, ◌/◌, ◌<◌, ◌≤◌, List, [], length, take, drop, replicate, sym, ap, ◌∙◌, subst, arith}
use Rattle.std.proofs.lemmas.Bool.{cases_eq}
use Rattle.std.proofs.lemmas.List.{ext_get_or, get_or-drop, length-drop}
use Rattle.key_state.specs.declared.entry.Entry.{Entry}
use Rattle.key_state.specs.declared.record.Record.{Record}
use Rattle.vd_base.specs.declared.geometry.StoreId.{StoreId}
use Rattle.journal_layout.specs.declared.damage.Damage.TheVariants.{Missing, Map, Header, Record as Illegal, Tail}
use Rattle.journal_layout.specs.declared.gate.Gate.{Gate}
use Rattle.journal_layout.specs.declared.live.Live.{Live}
use Rattle.journal_layout.specs.Gate.{IsGate}
use Rattle.journal_layout.specs.Recovery.{Sectors, HasGate, IsLive, IsWhole, IsMap, IsMapFault, IsMapSlot, IsSlot, Ending, Stores, IsLogFault, HasLogFault, WrongHeader, WrongRecord, WrongTail, Complete, Outcome, NoJournal, Mismatch, Damaged, Recovers, Gives, area_of, gate_of_live, blocks_of, map_start, log_start, log_of}
use Rattle.vd_disk.specs.Disk.{sector_at}
use Rattle.journal_core.specs.Writes.{IsNotLive}
use Rattle.journal_core.proofs.Opened.{zero_no_gate}

module _ (s image : Sectors) (area : ℕ) (small : area < 2) (not_live : IsNotLive area s) (size : length image ≡ length s) (zero : sector_at image area ≡ replicate 512 0)
    (same : (i : ℕ) → (i ≡ area → ⊥) → sector_at image i ≡ sector_at s i) where
  no_gate : (a : ℕ) (gate : Gate) → a ≡ area → HasGate image a gate → ⊥
  no_gate a gate is has =
      let here : IsGate area (sector_at image area) gate = subst (λ k. IsGate k (sector_at image k) gate) is has.is_gate in
      zero_no_gate area gate (subst (λ (x : List ℕ). IsGate area x gate) zero here)

  gate_now : (a : ℕ) (gate : Gate) → (a ≡ area → ⊥) → HasGate s a gate → HasGate image a gate
  gate_now a gate other has = record {
    there = omega (arith, has.there, size);
    is_gate = subst (λ (x : List ℕ). IsGate a x gate) (sym (same a other)) has.is_gate;
  }

  gate_before : (a : ℕ) (gate : Gate) → HasGate image a gate → HasGate s a gate
  gate_before a gate has = elim (cases_eq a area) [
    | inl is ↦ absurd (no_gate a gate is has)
    | inr other ↦ record { there = omega (arith, has.there, size); is_gate = subst (λ (x : List ℕ). IsGate a x gate) (same a other) has.is_gate }
  ]

  live_apart : (live : Live) → IsLive s live → area_of live ≡ area → ⊥
  live_apart live is at =
      let here : HasGate s area (gate_of_live live) = subst (λ a. HasGate s a (gate_of_live live)) at is.gate in
      let later = not_live (gate_of_live live) here in
      let there : HasGate s (1 - area_of live) later.0 = subst (λ a. HasGate s (1 - a) later.0) (sym at) later.1 in
      let less = is.greatest later.0 there in
      omega (arith, less, later.2)

  is_live : (live : Live) → IsLive s live → IsLive image live
  is_live live is = record {
    gate = gate_now (area_of live) (gate_of_live live) (live_apart live is) is.gate;
    greatest = λ other has. is.greatest other (gate_before (1 - area_of live) other has);
  }

  whole : (wanted : StoreId) (live : Live) → IsWhole s wanted live → IsWhole image wanted live
  whole wanted live is = record { is_live = is_live live is.is_live; is_wanted = is.is_wanted; has_room = omega (arith, is.has_room, size) }

  behind : (i : ℕ) → 2 ≤ i → sector_at image i ≡ sector_at s i
  behind i late = same i (λ is. omega (arith, is, late, small))

  at_slot : (live : Live) (k : ℕ) → sector_at image (map_start live + k / 256) ≡ sector_at s (map_start live + k / 256)
  at_slot live k = behind (map_start live + k / 256) (omega arith)

  slot_now : (live : Live) (k : ℕ) (entry : Entry) → IsMapSlot s (map_start live) (blocks_of live) k entry → IsMapSlot image (map_start live) (blocks_of live) k entry
  slot_now live k entry is = subst (λ (x : List ℕ). IsSlot x (blocks_of live) k entry) (sym (at_slot live k)) is

  slot_before : (live : Live) (k : ℕ) (entry : Entry) → IsMapSlot image (map_start live) (blocks_of live) k entry → IsMapSlot s (map_start live) (blocks_of live) k entry
  slot_before live k entry is = subst (λ (x : List ℕ). IsSlot x (blocks_of live) k entry) (at_slot live k) is

  map_now : (live : Live) (base : List Entry) → IsMap s live base → IsMap image live base
  map_now live base map = record {
    one_each = map.one_each;
    each = λ k from below inside. slot_now live k _ (map.each k from below inside);
    rest = λ k from below past. slot_now live k _ (map.rest k from below past);
  }

  fault_now : (live : Live) (k : ℕ) → IsMapFault s live k → IsMapFault image live k
  fault_now live k fault = record {
    within = fault.within;
    none = λ entry is. fault.none entry (slot_before live k entry is);
    before = λ j from below. let was = fault.before j from below in (was.0, slot_now live j was.0 was.1);
  }

  rest_same : (x : ℕ) → 2 ≤ x → drop x image ≡ drop x s
  rest_same x late =
      ext_get_or [] (drop x image) (drop x s) (omega (arith, length-drop x image, length-drop x s, size))
      (λ i within. get_or-drop x image i [] ∙ behind (x + i) (omega (arith, late)) ∙ sym (get_or-drop x s i []))

  log_same : (live : Live) → log_of image live ≡ log_of s live
  log_same live =
      let start = log_start live in
      ap (λ (rest : Sectors). take ((start + live.log_sectors) - start) rest) (rest_same start (omega arith))

  stores_now : (live : Live) (base : List Entry) (records : List Record) (ending : Ending) → Stores live base (log_of s live) records ending → Stores live base (log_of image live) records ending
  stores_now live base records ending stores = subst (λ (log : Sectors). Stores live base log records ending) (sym (log_same live)) stores

  log_fault : (wanted : StoreId) (ending : Ending) (sector at : ℕ) → HasLogFault s wanted ending sector at → HasLogFault image wanted ending sector at
  log_fault wanted ending sector at fault =
      let live = fault.0 in
      let base = fault.2.0 in
      let records = fault.2.1 in
      let is = fault.2.2 in
      let now : IsLogFault image live ending sector at base records = record {
        is_map = map_now live base is.is_map;
        stores = stores_now live base records ending is.stores;
        is_sector = is.is_sector;
        is_at = is.is_at;
      } in
      (live, whole wanted live fault.1, (base, records, now))

  pub zeroed_gives : (wanted : StoreId) (outcome : Outcome) → Gives s wanted outcome → Gives image wanted outcome
  zeroed_gives wanted NoJournal none = λ a gate below has. none a gate below (gate_before a gate has)
  zeroed_gives wanted (Mismatch found) is = (is.0, is_live is.0 is.1, is.2, is.3)
  zeroed_gives wanted (Damaged sector Missing at) is = (is.0, is_live is.0 is.1, is.2, omega (arith, is.3, size), is.4 ∙ sym size, is.5)
  zeroed_gives wanted (Damaged sector Map at) is = (is.0, whole wanted is.0 is.1, (is.2.0, fault_now is.0 is.2.0 is.2.1, is.2.2, is.2.3))
  zeroed_gives wanted (Damaged sector Header at) is = log_fault wanted WrongHeader sector at is
  zeroed_gives wanted (Damaged sector Illegal at) is = log_fault wanted WrongRecord sector at is
  zeroed_gives wanted (Damaged sector Tail at) is = log_fault wanted WrongTail sector at is
  zeroed_gives wanted (Recovers live records now) is = (whole wanted live is.0, (is.1.0, map_now live is.1.0 is.1.1, stores_now live is.1.0 records Complete is.1.2, is.1.3))
