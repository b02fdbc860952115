-- Log sectors of later epochs are cleared, and the next epoch begins.
use Rattle.std.proofs.Common.{◌≡◌, inl, inr, ⊎_elim, ℕ, ◌+◌, ◌-◌, ◌*◌, ◌^◌, ◌<◌, ◌≤◌, Bool, true, false, List, [], length, replicate, slice_get, nat_lt, Some, Result, Ok, Err, refl, sym, ap, ◌∙◌, subst, arith}
use Rattle.std.specs.Result.{OnOk}
use Rattle.std.proofs.lemmas.Bool.{cases_lt}
use Rattle.std.proofs.lemmas.Bool.Decides.{nat_tests}
use Rattle.std.proofs.lemmas.Option.{get_or_from_slice_get}
use Rattle.key_state.specs.declared.entry.Entry.{Entry}
use Rattle.journal_layout.specs.declared.gate.Gate.{Gate}
use Rattle.journal_layout.specs.declared.live.Live.{Live}
use Rattle.journal_layout.specs.Gate.{IsGate}
use Rattle.journal_layout.specs.Places.{map_sectors, log_at}
use Rattle.journal_layout.specs.Recovery.{Sectors, area_of, blocks_of, gate_of_live, map_start, log_start, journal_end, IsSlot}
use Rattle.journal_layout.proofs.SameGate.{same_gate}
use Rattle.vd_disk.specs.Disk.{DiskSeen, WhenTold, IsTale, Extends, told_written, sector_at}
use Rattle.journal_core.specs.Changes.{Changed, ReadsAs}
use Rattle.journal_core.specs.Parts.{slot_at, other_log, IsNotLater, IsSectorOf, AllFit}
use Rattle.journal_core.specs.Keeps.{next_of, IsGateAt}
use Rattle.journal_core.specs.Writes.{InMap, HasMap, IsSynced, ReadsGate, Begins, IsLater, Clears, ClearsLog, ClearsBoth, HasNoLater, HasNoneLater, HasLive, Reopens}
use Rattle.journal_core.proofs.Changes.{extends_then, changed_wider, changed_then}
use Rattle.journal_core.proofs.Kernel.{log_inside}
use Rattle.journal_core.proofs.Opened.{zero_not_later}
use Rattle.journal_core.proofs.Told.{told_before}
use Rattle.journal_core.proofs.Writes.{reads_there}
use Rattle.journal_core.proofs.Turning.{foreign_later}
use Rattle.journal_core.proofs.TurnSteps.{areas_apart, begins_leaves}

-- what is read now, by what was read before
pub reads_of : (Q : ℕ → List ℕ → Type 0) (old new : DiskSeen) → Changed Q old new → (t : Sectors) → new.told ≡ Some t → (s : Sectors) × (old.told ≡ Some s) × ReadsAs Q s t
reads_of Q old new changed t told =
    let was = told_before Q old new old.told refl changed t told in
    let now = changed.told was.0 was.1 in
    let same : now.0 ≡ t = cc in
    (was.0, was.1, subst (ReadsAs Q was.0) same now.2)

-- a sector that is later now was later before
later_before : (Q : ℕ → List ℕ → Type 0) (old new : DiskSeen) (epoch i : ℕ) → Changed Q old new → ((content : List ℕ) → Q i content → WhenTold old.told (λ s. IsLater epoch (sector_at s i)))
    → WhenTold old.told (λ s. i < length s) → WhenTold new.told (λ t. IsLater epoch (sector_at t i)) → WhenTold old.told (λ s. IsLater epoch (sector_at s i))
later_before Q old new epoch i changed put inside later s told =
    let now = changed.told s told in
    ⊎_elim
    (λ same. subst (IsLater epoch) same (later now.0 now.1))
    (λ new_one. put (sector_at now.0 i) new_one s told)
    (now.2.each i (inside s told))

-- a sector that isn't later stays so
not_later_kept : (Q : ℕ → List ℕ → Type 0) (old new : DiskSeen) (epoch i : ℕ) → Changed Q old new → ((content : List ℕ) → Q i content → content ≡ replicate 512 0)
    → WhenTold old.told (λ s. i < length s) → WhenTold old.told (λ s. IsNotLater epoch (sector_at s i)) → WhenTold new.told (λ t. IsNotLater epoch (sector_at t i))
not_later_kept Q old new epoch i changed zeros inside before t told =
    let was = reads_of Q old new changed t told in
    ⊎_elim
    (λ same. subst (IsNotLater epoch) (sym same) (before was.0 was.1))
    (λ put. subst (IsNotLater epoch) (sym (zeros (sector_at t i) put)) (zero_not_later epoch))
    (was.2.each i (inside was.0 was.1))

-- one log sector more
module _ (live : Live) (epoch place at : ℕ) (start old new : DiskSeen) (is : at ≡ log_start live + place) (below : place < live.log_sectors) (room : journal_end live ≤ start.sectors)
    (tale : WhenTold start.told (IsTale start.sectors start.moments)) (tale_old : WhenTold old.told (IsTale old.sectors old.moments))
    (before : Changed (ClearsLog live epoch start.told) start old) (step : Changed (Clears at (at + 1) epoch old.told) old new) where
  end_inside : at < start.sectors
  end_inside = let last = log_inside live place below in omega (arith, last, is, room)

  pub cleared_then : Changed (ClearsLog live epoch start.told) start new
  cleared_then = changed_then (ClearsLog live epoch start.told) start old new before
      (changed_wider (Clears at (at + 1) epoch old.told) (ClearsLog live epoch start.told) old new
      (λ i content one.
      let here : i ≡ at = omega (arith, one.0.0, one.0.1) in (
        (omega (arith, here, is), omega (arith, here, is, below), one.0.2),
        later_before (ClearsLog live epoch start.told) start old epoch i before (λ c put. put.1) (λ s told. let size = (tale s told).as_many in omega (arith, here, end_inside, size)) one.1,
      ))
      step)

  pub cleared_more : WhenTold old.told (HasNoLater live epoch place) → WhenTold new.told (λ t. IsNotLater epoch (sector_at t at)) → WhenTold new.told (HasNoLater live epoch (place + 1))
  cleared_more none own t told q early = elim (cases_lt q place) [
    | inl soon ↦ not_later_kept (Clears at (at + 1) epoch old.told) old new epoch (log_start live + q) step (λ c put. put.0.2)
        (λ s is_told. let size = (tale_old s is_told).as_many in omega (arith, soon, is, end_inside, size, before.sectors)) (λ s is_told. none s is_told q soon) t told
    | inr late ↦
        let last : at ≡ log_start live + q = omega (arith, late, early, is) in
        subst (λ n. IsNotLater epoch (sector_at t n)) last (own t told)
  ]

-- both logs, one behind the other
module _ (live : Live) (start one two : DiskSeen) (room : journal_end live ≤ start.sectors) (tale : WhenTold start.told (IsTale start.sectors start.moments)) (tale_one : WhenTold one.told (IsTale one.sectors one.moments))
    (first : Changed (ClearsLog live live.epoch start.told) start one) (second : Changed (ClearsLog (next_of live) live.epoch one.told) one two) where
  log_room : (a : Live) → journal_end a ≡ journal_end live → a.log_sectors ≡ live.log_sectors → (i : ℕ) → log_start a ≤ i → i < log_start a + a.log_sectors → i < start.sectors
  log_room a same logs i low high =
      let last = log_inside a (i - log_start a) (omega (arith, low, high)) in
      omega (arith, last, low, room, same)

  pub first_both : Changed (ClearsBoth live start.told) start one
  first_both = changed_wider (ClearsLog live live.epoch start.told) (ClearsBoth live start.told) start one (λ i content put. inl put) first

  pub cleared_both : Changed (ClearsBoth live start.told) start two
  cleared_both = changed_then (ClearsBoth live start.told) start one two first_both
      (changed_wider (ClearsLog (next_of live) live.epoch one.told) (ClearsBoth live start.told) one two
      (λ i content put. inr (
        put.0,
        later_before (ClearsLog live live.epoch start.told) start one live.epoch i first (λ c was. was.1)
            (λ s told. let size = (tale s told).as_many in let low = log_room (next_of live) refl refl i put.0.0 put.0.1 in omega (arith, low, size)) put.1,
      ))
      second)

  pub none_later : WhenTold one.told (HasNoLater live live.epoch live.log_sectors) → WhenTold two.told (HasNoLater (next_of live) live.epoch live.log_sectors) → WhenTold two.told (HasNoneLater live)
  none_later here there t told = (
    λ q below. not_later_kept (ClearsLog (next_of live) live.epoch one.told) one two live.epoch (log_start live + q) second (λ c put. put.0.2)
        (λ s is_told. let size = (tale_one s is_told).as_many in let low = log_inside live q below in omega (arith, low, room, first.sectors, size)) (λ s is_told. here s is_told q below) t told,
    there t told,
  )

pub reopens_leaves : {E : Type 0} (live : Live) (entries : List Entry) (old new : DiskSeen) (result : Result (Unit {0}) E) → Reopens live entries old new result
    → (new.sectors ≡ old.sectors) × Extends old.moments new.moments × (old.faults ≤ new.faults)
reopens_leaves live entries old new result (inl all) =
    let cleared = all.2 in
    let begun = begins_leaves (next_of live) entries all.0 new result all.4 in
    (begun.0 ∙ cleared.sectors, extends_then old.moments (all.0).moments new.moments cleared.earlier begun.1, omega (arith, cleared.later, begun.2))
reopens_leaves live entries old new result (inr part) = let cleared = part.0 in (cleared.sectors, cleared.earlier, cleared.later)

-- the map of the next epoch stands apart from the log of this one
map_apart : (live : Live) (i q : ℕ) (content : List ℕ) → InMap (next_of live) i content → q < live.log_sectors → i ≡ log_start live + q → ⊥
map_apart live i q content map below is =
    let m = map_sectors (blocks_of live) in
    let l = live.log_sectors in
    let areas : area_of (next_of live) ≡ 1 - area_of live = omega arith in
    let place : map_start (next_of live) ≡ 2 + (1 - area_of live) * (m + l) = ap (λ a. 2 + a * (m + l)) areas in
    let x = i - map_start (next_of live) in
    let low = map.0 in
    let high = map.1 in
    let in_x : x < m = omega (arith, low, high) in
    let at : 2 + (1 - area_of live) * (m + l) + x ≡ i = omega (arith, low, place) in
    areas_apart (area_of live) m l x (m + q) (omega arith) (omega (arith, in_x)) (omega (arith, below)) (omega (arith, at, is))

-- Opened anew, each sector fits the next epoch without records.
module _ (live : Live) (entries : List Entry) (old mid ready : DiskSeen) (low : live.epoch + 1 < 2 ^ 63) (room : journal_end live ≤ old.sectors) (tale : WhenTold old.told (IsTale old.sectors old.moments))
    (gate : WhenTold old.told (ReadsGate live)) (clears : Changed (ClearsBoth live old.told) old mid) (none : WhenTold mid.told (HasNoneLater live)) (maps : Changed (InMap (next_of live)) mid ready)
    (map : IsSynced ready (HasMap (next_of live) entries)) where
  pub fits_written : (t r : Sectors) → ready.told ≡ Some r → ReadsAs (IsGateAt (next_of live)) r t → ReadsGate (next_of live) t → AllFit (IsSectorOf (next_of live) entries []) t
  fits_written t r told_r reads done i inside =
      let next = next_of live in
      let to_ready = reads_of (InMap next) mid ready maps r told_r in
      let to_mid = reads_of (ClearsBoth live old.told) old mid clears to_ready.0 to_ready.1 in
      let size = (tale to_mid.0 to_mid.1).as_many in
      let size_mid = to_mid.2.as_many in
      let size_ready = to_ready.2.as_many in
      let size_t = reads.as_many in
      let areas : area_of next ≡ 1 - area_of live = omega arith in
      let other_area : area_of live ≡ 1 - area_of next = omega arith in
      let log_other : other_log next ≡ log_start live = ap (λ a. log_at (blocks_of live) live.log_sectors a) (sym other_area) in
      -- where no gate is written
      let from_ready : (i : ℕ) → i < length t → (i ≡ area_of next → ⊥) → sector_at t i ≡ sector_at r i = λ i inside other.
      ⊎_elim (λ same. same) (λ put. absurd (other put.0)) (reads.each i (omega (arith, inside, size_t))) in
      let from_mid : (i : ℕ) → i < length t → (i ≡ area_of next → ⊥) → (InMap next i (sector_at r i) → ⊥) → sector_at t i ≡ sector_at to_ready.0 i = λ i inside other apart.
      from_ready i inside other ∙ ⊎_elim (λ same. same) (λ put. absurd (apart put)) (to_ready.2.each i (omega (arith, inside, size_t, size_ready))) in
      let here_is : (q : ℕ) → q < live.log_sectors → (i : ℕ) → i < length t → i ≡ log_start next + q → IsNotLater live.epoch (sector_at t i) = λ q below i inside is.
      subst (IsNotLater live.epoch) (sym (from_mid i inside (λ at. omega (arith, at, is)) (λ put. omega (arith, put.1, is))))
      (subst (λ n. IsNotLater live.epoch (sector_at to_ready.0 n)) (sym is) ((none to_ready.0 to_ready.1).1 q below)) in
      let there_is : (q : ℕ) → q < live.log_sectors → (i : ℕ) → i < length t → i ≡ log_start live + q → IsNotLater live.epoch (sector_at t i) = λ q below i inside is.
      subst (IsNotLater live.epoch) (sym (from_mid i inside (λ at. omega (arith, at, is)) (λ put. map_apart live i q (sector_at r i) put below is)))
      (subst (λ n. IsNotLater live.epoch (sector_at to_ready.0 n)) (sym is) ((none to_ready.0 to_ready.1).0 q below)) in
      record {
        gate = λ is. subst (λ n. IsGate (area_of next) (sector_at t n) (gate_of_live next)) (sym is) done;
        other = λ is g is_gate.
            let at : i ≡ area_of live = is ∙ sym other_area in
            let kept : sector_at t i ≡ sector_at to_mid.0 i =
            from_mid i inside (λ here. omega (arith, here, is)) (λ put. omega (arith, put.0, is))
            ∙ ⊎_elim
            (λ same. same)
            (λ put. absurd (⊎_elim (λ a. omega (arith, a.0.0, is)) (λ b. omega (arith, b.0.0, is)) put))
            (to_mid.2.each i (omega (arith, inside, size_t, size_ready, size_mid))) in
            let own : IsGate (area_of live) (sector_at t i) (gate_of_live live) =
            subst (λ (x : List ℕ). IsGate (area_of live) x (gate_of_live live)) (sym kept)
            (subst (λ n. IsGate (area_of live) (sector_at to_mid.0 n) (gate_of_live live)) (sym at) (gate to_mid.0 to_mid.1)) in
            let theirs : IsGate (area_of live) (sector_at t i) g = subst (λ a. IsGate a (sector_at t i) g) (sym other_area) is_gate in
            let same : g ≡ gate_of_live live = same_gate (area_of live) (sector_at t i) g (gate_of_live live) theirs own in
            let epochs : g.epoch ≡ live.epoch = ap (λ (x : Gate). x.epoch) same in
            omega (arith, epochs);
        slots = λ k below is.
            let from = from_ready i inside (λ here. omega (arith, here, is)) in
            let slot = (map r told_r).1 k below (omega (arith, below)) in
            subst (λ (x : List ℕ). IsSlot x (blocks_of live) k (slot_at entries k)) (sym from)
            (subst (λ n. IsSlot (sector_at r n) (blocks_of live) k (slot_at entries k)) (sym is) slot);
        part = λ q below is. inl (foreign_later 2 live.epoch q (sector_at t i) (omega (arith, low)) (here_is q below i inside is));
        here = λ q below is. let was = here_is q below i inside is in omega (arith, was);
        there = λ q below is. let was = there_is q below i inside (is ∙ ap (λ n. n + q) log_other) in omega (arith, was);
      }

  pub all_reopened : (new : DiskSeen) → Changed (IsGateAt (next_of live)) ready new → IsSynced new (ReadsGate (next_of live)) → IsSynced new (AllFit (IsSectorOf (next_of live) entries []))
  all_reopened new gates done t told =
      let to_t = reads_of (IsGateAt (next_of live)) ready new gates t told in
      ((done t told).0, fits_written t to_t.0 to_t.1 to_t.2 (done t told).1)

false_true : {b : Bool} → b ≡ true → b ≡ false → ⊥
false_true a b = cc

pub fits_reopened : (E : Type 0) (live : Live) (entries : List Entry) (old new : DiskSeen) → live.epoch + 1 < 2 ^ 63 → journal_end live ≤ old.sectors → WhenTold old.told (IsTale old.sectors old.moments)
    → WhenTold old.told (ReadsGate live) → Reopens {E = E} live entries old new (Ok tt) → IsSynced new (AllFit (IsSectorOf (next_of live) entries []))
fits_reopened E live entries old new low room tale gate (inr part) = absurd (false_true part.1 refl)
fits_reopened E live entries old new low room tale gate (inl all) = ends all.4
  where
    ends : Begins {E = E} (next_of live) entries all.0 new (Ok tt) → IsSynced new (AllFit (IsSectorOf (next_of live) entries []))
    ends (inr part) = absurd (false_true part.1 refl)
    ends (inl begun) = all_reopened live entries old all.0 begun.0 low room tale gate all.2 all.3 begun.2 begun.3 new begun.4 begun.5

pub is_above : (epoch n : ℕ) → nat_lt epoch n ≡ true → epoch < n
is_above epoch n is = grind (arith, nat_tests)

pub is_not_above : (epoch n : ℕ) → nat_lt epoch n ≡ false → n ≤ epoch
is_not_above epoch n is = grind (arith, nat_tests)

-- what a read gave
pub read_later : (old new : DiskSeen) (epoch at : ℕ) (out : List ℕ) → WhenTold old.told (λ s. slice_get s at ≡ Some out) → IsLater epoch out → WhenTold old.told (λ s. IsLater epoch (sector_at s at))
read_later old new epoch at out gives later s told = subst (IsLater epoch) (sym (get_or_from_slice_get s at out [] (gives s told))) later

pub read_not_later : (old new : DiskSeen) (epoch at : ℕ) (out : List ℕ) → WhenTold old.told (λ s. slice_get s at ≡ Some out) → new ≡ record old { faults = new.faults } → IsNotLater epoch out
    → WhenTold new.told (λ t. IsNotLater epoch (sector_at t at))
read_not_later old new epoch at out gives same not t told =
    let was : old.told ≡ Some t = sym (ap (λ (d : DiskSeen). d.told) same) ∙ told in
    subst (IsNotLater epoch) (sym (get_or_from_slice_get t at out [] (gives t was))) not

-- the live gate, as recovery finds it
pub live_gate : (live : Live) (s : Sectors) → HasLive live s → ReadsGate live s
live_gate live s has = has.2.0.is_live.gate.is_gate

pub cleared_there : {E : Type 0} (old new : DiskSeen) (epoch at : ℕ) (bytes : List ℕ) (result : Result (Unit {0}) E) → bytes ≡ replicate 512 0 → at < old.sectors → WhenTold old.told (IsTale old.sectors old.moments)
    → OnOk result (new.told ≡ told_written at bytes old.told) → OnOk result (WhenTold new.told (λ t. IsNotLater epoch (sector_at t at)))
cleared_there old new epoch at bytes (Err e) zeros inside tale reads = tt
cleared_there old new epoch at bytes (Ok done) zeros inside tale reads = λ t told.
    let there : sector_at t at ≡ bytes = reads_there at bytes old.told new.told old.sectors t inside (λ s is. (tale s is).as_many) reads told in
    subst (IsNotLater epoch) (sym (there ∙ zeros)) (zero_not_later epoch)
