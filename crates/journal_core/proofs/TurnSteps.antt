-- The next epoch begins.
use Rattle.std.proofs.Common.{◌≡◌, inl, inr, ⊎_elim, ℕ, ◌+◌, ◌-◌, ◌*◌, ◌/◌, ◌^◌, ◌<◌, ◌≤◌, true, false, List, [], length, replicate, Some, Result, Ok, refl, sym, ap, ◌∙◌, subst, arith}
use Rattle.std.proofs.lemmas.List.{length_push}
use Rattle.std.proofs.lemmas.Bool.{cases_eq}
use Rattle.key_state.specs.declared.entry.Entry.{Entry}
use Rattle.key_state.specs.declared.record.Record.{Record}
use Rattle.key_state.specs.Entries.{states}
use Rattle.key_state.proofs.Histories.{states_nil}
use Rattle.journal_layout.specs.declared.live.Live.{Live}
use Rattle.journal_layout.specs.Log.{IsZeroPast}
use Rattle.journal_layout.specs.Places.{map_sectors}
use Rattle.journal_layout.specs.Recovery.{Sectors, blocks_of, area_of, map_start, IsSlot}
use Rattle.vd_disk.specs.Disk.{DiskSeen, WhenTold, IsTale, Extends, present, sector_at}
use Rattle.journal_core.specs.Changes.{Changed}
use Rattle.journal_core.specs.Parts.{slot_at, Safe, AllFit, Allows}
use Rattle.journal_core.specs.Chapters.{Chapter, IsFilled, WasFull, AreFull}
use Rattle.journal_core.specs.Keeps.{Story, story_of, all_of, with_epoch, next_of, Memory, Runs, Keeps, IsGateAt, IsReady}
use Rattle.journal_core.specs.Writes.{InMap, HasMap, IsSynced, ReadsGate, Begins}
use Rattle.journal_core.proofs.Changes.{changed_wider, extends_then}
use Rattle.journal_core.proofs.Stories.{get_cases, filled_chapter, grew_chapter}
use Rattle.journal_core.proofs.Lasting.{lasts_runs, lasts_later, are_full_later, are_full_chapter}
use Rattle.journal_core.proofs.Epochs.{runs_changed}
use Rattle.journal_core.proofs.Settling.{settled_allows}
use Rattle.journal_core.proofs.Turning.{next_epoch, tells_turned, runs_turned}
use Rattle.journal_core.proofs.Told.{told_before}
use Rattle.journal_core.proofs.Steps.{false_true, not_turning}

-- the areas stand apart: x of the one is no y of the other
pub areas_apart : (area m l x y : ℕ) → area < 2 → x < m + l → y < m + l → 2 + (1 - area) * (m + l) + x ≡ 2 + area * (m + l) + y → ⊥
areas_apart area m l x y small in_x in_y is = elim (cases_eq area 0) [
  | inl none ↦
      let here : 2 + (1 - 0) * (m + l) + x ≡ 2 + 0 * (m + l) + y = subst (λ a. 2 + (1 - a) * (m + l) + x ≡ 2 + a * (m + l) + y) none is in
      omega (arith, here, in_x, in_y)
  | inr some ↦
      let one : area ≡ 1 = omega (arith, some, small) in
      let here : 2 + (1 - 1) * (m + l) + x ≡ 2 + 1 * (m + l) + y = subst (λ a. 2 + (1 - a) * (m + l) + x ≡ 2 + a * (m + l) + y) one is in
      omega (arith, here, in_x, in_y)
]

-- the map of the next epoch is safe to write
pub map_safe : (live : Live) (base : List Entry) (past : List Record) (i : ℕ) (content : List ℕ) → InMap (next_of live) i content → Safe live base past i content
map_safe live base past i content map =
    let m = map_sectors (blocks_of live) in
    let l = live.log_sectors in
    let areas : area_of (next_of live) ≡ 1 - area_of live = omega arith in
    let place : map_start (next_of live) ≡ 2 + (1 - area_of live) * (m + l) = ap (λ a. 2 + a * (m + l)) areas in
    let x = i - map_start (next_of live) in
    let low = map.0 in
    let high = map.1 in
    let in_x : x < m = omega (arith, low, high) in
    let at : 2 + (1 - area_of live) * (m + l) + x ≡ i = omega (arith, low, place) in
    let area : area_of live < 2 = omega arith in
    record {
      fits = record {
        gate = λ is. absurd (omega (arith, is, low));
        other = λ is. absurd (omega (arith, is, low));
        slots = λ k below is. absurd (areas_apart (area_of live) m l x (k / 256) area (omega (arith, in_x)) (omega (arith, below)) (at ∙ is));
        part = λ q below is. absurd (areas_apart (area_of live) m l x (m + q) area (omega (arith, in_x)) (omega (arith, below)) (omega (arith, at, is)));
        here = λ q below is. absurd (areas_apart (area_of live) m l x (m + q) area (omega (arith, in_x)) (omega (arith, below)) (omega (arith, at, is)));
        there = λ q below is. absurd (omega (arith, at, is, in_x));
      };
      counts = λ q below is. absurd (areas_apart (area_of live) m l x (m + q) area (omega (arith, in_x)) (omega (arith, below)) (omega (arith, at, is)));
    }

pub has_map_ready : (live : Live) (entries : List Entry) (t : Sectors) → HasMap live entries t → AllFit (IsReady live entries) t
has_map_ready live entries t map i inside = record {
  slots = λ k below is. subst (λ n. IsSlot (sector_at t n) (blocks_of live) k (slot_at entries k)) (sym is) (map k below (omega (arith, below)));
}

-- a book whose next epoch has begun
abbrev pub turned_over : Memory → List ℕ → Memory
turned_over b blank = record b {
  live = next_of b.live;
  sector = blank;
  place = 0;
  count = 0;
  records = 0;
  written = 0;
  synced = 0;
  stopped = false;
  kept = b.entries;
}

module _ (old new : DiskSeen) (b : Memory) {so_far : Story} (k : Keeps old b so_far) (steady : k.half_turned ≡ false) (low : b.live.epoch + 1 < 2 ^ 63)
    (runs : WhenTold old.told (λ s. Runs k.first so_far.before b.live so_far.base so_far.past b.start b.synced old)) (ended : b.asked ≡ false → length so_far.past ≡ 30 * b.live.log_sectors + 1)
    (was_full : b.asked ≡ false → WhenTold old.told (λ s. WasFull k.first (story_of so_far.before so_far.base so_far.past) b.live.log_sectors old.moments b.start (length so_far.before)))
    (tale : WhenTold old.told (IsTale old.sectors old.moments)) (tale_new : WhenTold new.told (IsTale new.sectors new.moments)) where
  abbrev story : List Chapter
  story = story_of so_far.before so_far.base so_far.past

  abbrev after : Live
  after = next_of b.live

  filled_story : b.asked ≡ false → IsFilled b.live.log_sectors story
  filled_story = subst (λ t. b.asked ≡ false → IsFilled b.live.log_sectors (all_of t so_far.before so_far.base so_far.past)) steady k.filled

  filled_all : b.asked ≡ false → IsFilled b.live.log_sectors (all_of true so_far.before so_far.base so_far.past)
  filled_all asked = filled_chapter b.live.log_sectors so_far.before so_far.base so_far.past (record { base = states so_far.base so_far.past; past = [] }) (filled_story asked) (ended asked)

  full_story : b.asked ≡ false → WhenTold old.told (λ s. AreFull k.first story b.live.log_sectors old.moments b.start)
  full_story = subst (λ t. b.asked ≡ false → WhenTold old.told (λ s. AreFull k.first (all_of t so_far.before so_far.base so_far.past) b.live.log_sectors old.moments b.start)) steady k.full

  full_all : (mid : DiskSeen) → Changed (InMap after) old mid → Changed (IsGateAt after) mid new → b.asked ≡ false
      → WhenTold new.told (λ s. AreFull k.first (all_of true so_far.before so_far.base so_far.past) b.live.log_sectors new.moments b.start)
  full_all mid map gate asked t told =
      let at_mid = told_before (IsGateAt after) mid new mid.told refl gate t told in
      let was = told_before (InMap after) old mid old.told refl map at_mid.0 at_mid.1 in
      are_full_chapter k.first so_far.before so_far.base so_far.past (record { base = states so_far.base so_far.past; past = [] }) b.live.log_sectors b.start old.moments new.moments
      (extends_then old.moments mid.moments new.moments map.earlier gate.earlier) (full_story asked was.0 was.1) (was_full asked was.0 was.1)

  map_run : (mid : DiskSeen) → Changed (InMap after) old mid → WhenTold mid.told (λ t. Runs k.first so_far.before b.live so_far.base so_far.past b.start b.synced mid)
  map_run mid changed t told =
      let was = told_before (InMap after) old mid old.told refl changed t told in
      runs_changed k.first so_far.before b.live so_far.base so_far.past k.epoch b.start b.synced old mid was.0 was.1 (tale was.0 was.1)
      (changed_wider (InMap after) (Safe b.live so_far.base so_far.past) old mid (λ i content map. map_safe b.live so_far.base so_far.past i content map) changed) (runs was.0 was.1)

  ready : (mid : DiskSeen) (t : Sectors) → mid.told ≡ Some t → IsSynced mid (HasMap after b.entries) → Allows (IsReady after (states so_far.base so_far.past)) (present mid.moments)
  ready mid t told synced =
      let is = synced t told in
      let map : HasMap after (states so_far.base so_far.past) t = subst (λ (es : List Entry). HasMap after es t) k.stands is.1 in
      subst (Allows (IsReady after (states so_far.base so_far.past))) (sym is.0) (settled_allows (IsReady after (states so_far.base so_far.past)) t (has_map_ready after (states so_far.base so_far.past) t map))

  -- the fault came before the gate, or after the map was synced
  pub keeps_turn_failed : {E : Type 0} (result : Result (Unit {0}) E) → Begins after b.entries old new result → Keeps new (record b { stopped = true }) so_far
  keeps_turn_failed result (inr part) = record {
    first = k.first;
    half_turned = false;
    epoch = k.epoch;
    version = k.version;
    opened = k.opened;
    many = k.many;
    stands = k.stands;
    stays = k.stays;
    ends_are = k.ends_are;
    clears_are = k.clears_are;
    filled = filled_story;
    stops = λ no. refl;
    few = k.few;
    tells = λ t told. (map_run new part.0 t told).tells;
    lasts = λ t told. lasts_runs k.first so_far.before b.live so_far.base so_far.past b.start b.synced new (map_run new part.0 t told);
    full = λ asked. are_full_later k.first story b.live.log_sectors b.start (InMap after) old new part.0 (full_story asked);
    running = λ on. absurd (false_true refl on);
  }
  keeps_turn_failed result (inl all) = record {
    first = k.first;
    half_turned = true;
    epoch = k.epoch;
    version = k.version;
    opened = k.opened;
    many = k.many;
    stands = k.stands;
    stays = k.stays;
    ends_are = k.ends_are;
    clears_are = k.clears_are;
    filled = filled_all;
    stops = λ no. refl;
    few = k.few;
    tells = λ t told.
        let mid = all.0 in
        let was = told_before (IsGateAt after) mid new mid.told refl all.4 t told in
        tells_turned k.first so_far.before b.live so_far.base so_far.past k.epoch k.version low b.start b.synced mid new was.0 was.1 (all.1 was.0 was.1) (map_run mid all.2 was.0 was.1) (ready mid was.0 was.1 all.3) all.4;
    lasts = λ t told.
        let mid = all.0 in
        let was = told_before (IsGateAt after) mid new mid.told refl all.4 t told in
        let run = map_run mid all.2 was.0 was.1 in
        lasts_later k.first story (all_of true so_far.before so_far.base so_far.past) mid.moments new.moments b.start (length so_far.before) b.synced (grew_chapter story (record { base = states so_far.base so_far.past; past = [] }))
        (tells_turned k.first so_far.before b.live so_far.base so_far.past k.epoch k.version low b.start b.synced mid new was.0 was.1 (all.1 was.0 was.1) run (ready mid was.0 was.1 all.3) all.4)
        all.4.earlier run.tells.begun (lasts_runs k.first so_far.before b.live so_far.base so_far.past b.start b.synced mid run);
    full = full_all all.0 all.2 all.4;
    running = λ on. absurd (false_true refl on);
  }

  turned_runs : (mid : DiskSeen) → WhenTold mid.told (IsTale mid.sectors mid.moments) → Changed (InMap after) old mid → IsSynced mid (HasMap after b.entries) → Changed (IsGateAt after) mid new
      → IsSynced new (ReadsGate after) → WhenTold new.told (λ t. Runs k.first story after (states so_far.base so_far.past) [] b.start 0 new)
  turned_runs mid mid_tale map synced gate done t told =
      let was = told_before (IsGateAt after) mid new mid.told refl gate t told in
      let is = done t told in
      runs_turned k.first so_far.before b.live so_far.base so_far.past k.epoch k.version low b.start b.synced mid new was.0 was.1 (mid_tale was.0 was.1) (map_run mid map was.0 was.1) (ready mid was.0 was.1 synced) gate
      t told (tale_new t told) is.0 is.1

  pub keeps_turned : (E : Type 0) (blank : List ℕ) → blank ≡ replicate 512 0 → Begins {E = E} after b.entries old new (Ok tt) → Keeps new (turned_over b blank) (with_epoch so_far)
  keeps_turned E blank zeros (inr part) = absurd (false_true part.1 refl)
  keeps_turned E blank zeros (inl all) =
      let runs_on = turned_runs all.0 all.1 all.2 all.3 all.4 all.5 in
      let later : k.first.epoch ≤ b.live.epoch = omega (arith, ap (λ (l : Live). l.epoch) k.epoch.is_live) in
      record {
        first = k.first;
        half_turned = false;
        epoch = next_epoch k.first so_far.before b.live so_far.base so_far.past k.epoch k.version low;
        version = refl;
        opened = (
          k.opened.0,
          λ chapter is. ⊎_elim
              (λ early. k.opened.1 chapter early.1)
              (λ last. absurd (omega (arith, last.0, length_push so_far.before (record { base = so_far.base; past = so_far.past }))))
              (get_cases story (record { base = states so_far.base so_far.past; past = [] }) 0 chapter is),
        );
        many = refl;
        stands = k.stands ∙ sym (states_nil (states so_far.base so_far.past));
        stays = (omega arith, k.stands ∙ sym (states_nil (states so_far.base so_far.past)));
        ends_are = λ same. absurd (omega (arith, same, later, k.opened.0));
        clears_are = λ same. absurd (omega (arith, same, later, k.opened.0));
        filled = filled_all;
        stops = λ no. absurd (false_true no refl);
        few = omega arith;
        tells = λ t told. (runs_on t told).tells;
        lasts = λ t told. lasts_runs k.first story after (states so_far.base so_far.past) [] b.start 0 new (runs_on t told);
        full = full_all all.0 all.2 all.4;
        running = λ on. record {
          shaped = record {
            counted = omega arith;
            most = omega arith;
            inside = omega arith;
            some = λ some. absurd (omega (arith, some));
            full = omega arith;
            fewer = omega arith;
            stay = omega arith;
          };
          hand = record {
            zeros = subst (λ (x : List ℕ). IsZeroPast x 0) (sym zeros) refl;
            part = λ some. absurd (omega (arith, some));
          };
          runs = λ t told. (runs_on t told, λ q below. absurd (omega (arith, below)));
          rests = λ same t told. (all.5 t told).0;
        };
      }

-- what any beginning leaves
pub begins_leaves : {E : Type 0} (live : Live) (entries : List Entry) (old new : DiskSeen) (result : Result (Unit {0}) E) → Begins live entries old new result
    → (new.sectors ≡ old.sectors) × Extends old.moments new.moments × (old.faults ≤ new.faults)
begins_leaves live entries old new result (inl all) =
    let map = all.2 in
    let gate = all.4 in
    (gate.sectors ∙ map.sectors, extends_then old.moments (all.0).moments new.moments map.earlier gate.earlier, omega (arith, map.later, gate.later))
begins_leaves live entries old new result (inr part) = let map = part.0 in (map.sectors, map.earlier, map.later)

-- A turnover that is asked for.
module _ (old new : DiskSeen) (b : Memory) {so_far : Story} (k : Keeps old b so_far) (runs_on : b.stopped ≡ false) (low : b.live.epoch + 1 < 2 ^ 63)
    (tale : WhenTold old.told (IsTale old.sectors old.moments)) (tale_new : WhenTold new.told (IsTale new.sectors new.moments)) where
  abbrev asked_of : Memory
  asked_of = record b { asked = true }

  asked : (after : Keeps old asked_of so_far) × (after.half_turned ≡ false) × WhenTold old.told (λ s. Runs after.first so_far.before b.live so_far.base so_far.past b.start b.synced old)
  asked = (
    record {
      first = k.first;
      half_turned = k.half_turned;
      epoch = k.epoch;
      version = k.version;
      opened = k.opened;
      many = k.many;
      stands = k.stands;
      stays = k.stays;
      ends_are = k.ends_are;
      clears_are = k.clears_are;
      filled = λ no. absurd (false_true refl no);
      stops = k.stops;
      few = k.few;
      tells = k.tells;
      lasts = k.lasts;
      full = λ no. absurd (false_true refl no);
      running = λ on. let run = k.running on in record { shaped = run.shaped; hand = run.hand; runs = run.runs; rests = run.rests };
    },
    not_turning k.half_turned b.stopped k.stops runs_on,
    λ s told. ((k.running runs_on).runs s told).0,
  )

  pub keeps_asked_failed : {E : Type 0} (result : Result (Unit {0}) E) → Begins (next_of b.live) b.entries old new result → Keeps new (record b { asked = true; stopped = true }) so_far
  keeps_asked_failed result begins = keeps_turn_failed old new asked_of asked.0 asked.1 low asked.2 (λ no. absurd (false_true refl no)) (λ no. absurd (false_true refl no)) tale tale_new result begins

  pub keeps_asked : (E : Type 0) (blank : List ℕ) → blank ≡ replicate 512 0 → Begins {E = E} (next_of b.live) b.entries old new (Ok tt) → Keeps new (turned_over (record b { asked = true }) blank) (with_epoch so_far)
  keeps_asked E blank zeros begins = keeps_turned old new asked_of asked.0 asked.1 low asked.2 (λ no. absurd (false_true refl no)) (λ no. absurd (false_true refl no)) tale tale_new E blank zeros begins
