-- The log sector in hand is written; what was written is synced.
use Rattle.std.proofs.Common.{◌≡◌, inl, inr, ℕ, ◌+◌, ◌-◌, ◌*◌, ◌<◌, ◌≤◌, min, true, false, List, [], length, replicate, slice_range, Some, Result, get_or, refl, sym, ap, ◌∙◌, subst, arith}
use Rattle.std.specs.Int.{w64, from_be_bytes}
use Rattle.std.proofs.lemmas.List.{take_all, get_or-set_other}
use Rattle.std.proofs.lemmas.Nat.{from_be_bytes-to_be_bytes_8}
use Rattle.std.proofs.lemmas.Bool.{cases_lt, cases_eq}
use Rattle.key_state.specs.declared.entry.Entry.{Entry}
use Rattle.key_state.specs.declared.record.Record.{Record}
use Rattle.key_state.specs.Entries.{states}
use Rattle.journal_layout.specs.declared.live.Live.{Live}
use Rattle.journal_layout.specs.Gate.{IsWithinLimits}
use Rattle.journal_layout.specs.Log.{HasCount, IsZeroPast}
use Rattle.journal_layout.specs.Places.{map_sectors}
use Rattle.journal_layout.specs.Recovery.{Sectors, blocks_of, area_of, gate_of_live, log_start}
use Rattle.vd_disk.specs.Disk.{DiskSeen, WhenTold, IsTale, Writes, Syncs, Leaves, told_written, sector_at}
use Rattle.journal_core.specs.Changes.{Changed}
use Rattle.journal_core.specs.Parts.{Safe, Stands, IsPart}
use Rattle.journal_core.specs.Keeps.{Story, story_of, Memory, Runs, IsRunning, Keeps}
use Rattle.journal_core.specs.Writes.{IsSynced}
use Rattle.journal_core.proofs.Kernel.{log_inside}
use Rattle.journal_core.proofs.Changes.{changed_write, changed_sync}
use Rattle.journal_core.proofs.Epochs.{runs_changed}
use Rattle.journal_core.proofs.Settling.{runs_settled}
use Rattle.journal_core.proofs.Writes.{written_reads, reads_there}
use Rattle.journal_core.proofs.Lasting.{lasts_runs, are_full_later}
use Rattle.journal_core.proofs.Told.{told_before}
use Rattle.journal_core.proofs.Steps.{filled_now, full_before, false_true}

-- the logs of both areas stand apart
apart : (area m l p q : ℕ) → area < 2 → p < l → q < l → 2 + (1 - area) * (m + l) + m + q ≡ 2 + area * (m + l) + m + p → ⊥
apart area m l p q small in_p in_q is = elim (cases_eq area 0) [
  | inl none ↦
      let here : 2 + (1 - 0) * (m + l) + m + q ≡ 2 + 0 * (m + l) + m + p = subst (λ a. 2 + (1 - a) * (m + l) + m + q ≡ 2 + a * (m + l) + m + p) none is in
      omega (arith, here, in_p, in_q)
  | inr some ↦
      let one : area ≡ 1 = omega (arith, some, small) in
      let here : 2 + (1 - 1) * (m + l) + m + q ≡ 2 + 1 * (m + l) + m + p = subst (λ a. 2 + (1 - a) * (m + l) + m + q ≡ 2 + a * (m + l) + m + p) one is in
      omega (arith, here, in_p, in_q)
]

-- a part of a log sector is safe to write where it has all the records of its place
pub part_safe : (live : Live) (base : List Entry) (past : List Record) (place count at : ℕ) (sector : List ℕ) → IsWithinLimits (gate_of_live live) → place < live.log_sectors → at ≡ log_start live + place
    → min 30 (length past - 30 * place) ≤ count → IsPart live past place sector count → Safe live base past at sector
part_safe live base past place count at sector limits inside is all part =
    let epoch : from_be_bytes w64 (slice_range sector 8 16) ≡ live.epoch =
    ap (from_be_bytes w64) part.counted.head.its_epoch ∙ from_be_bytes-to_be_bytes_8 live.epoch (omega (arith, limits.epoch)) in
    record {
      fits = record {
        gate = λ low. absurd (omega (arith, low, is));
        other = λ low. absurd (omega (arith, low, is));
        slots = λ k below here. absurd (omega (arith, below, here, is));
        part = λ q below here.
            let same : place ≡ q = omega (arith, here, is) in
            inr (count, subst (λ n. IsPart live past n sector count) same part);
        here = λ q below here. omega (arith, epoch);
        there = λ q below here. absurd (apart (area_of live) (map_sectors (blocks_of live)) live.log_sectors place q (omega arith) inside below (sym here ∙ is));
      };
      counts = λ q below here.
          let same : place ≡ q = omega (arith, here, is) in
          subst (λ n. (c : ℕ) × HasCount live.version live.epoch n sector c × (min 30 (length past - 30 * n) ≤ c)) same (count, part.counted, all);
    }

module _ (old new : DiskSeen) (b : Memory) {so_far : Story} (k : Keeps old b so_far) (runs_on : b.stopped ≡ false) (some : 0 < b.count) (tale : WhenTold old.told (IsTale old.sectors old.moments)) (at : ℕ)
    (is : at ≡ log_start b.live + b.place) (leaves : Leaves old new) (later : old.faults ≤ new.faults) where
  run : IsRunning old b k.first so_far.before so_far.base so_far.past
  run = k.running runs_on

  part : IsPart b.live so_far.past b.place b.sector b.count
  part = run.hand.part some

  safe : Safe b.live so_far.base so_far.past at b.sector
  safe = part_safe b.live so_far.base so_far.past b.place b.count at b.sector k.epoch.limits (run.shaped.some some) is (omega (arith, k.many, run.shaped.counted)) part

  changed : {E : Type 0} (result : Result (Unit {0}) E) → Writes at b.sector old new result → Changed (Safe b.live so_far.base so_far.past) old new
  changed result writes = changed_write (Safe b.live so_far.base so_far.past) old new tale at b.sector result safe writes leaves later

  runs_now : {E : Type 0} (result : Result (Unit {0}) E) → Writes at b.sector old new result → WhenTold new.told (λ t. Runs k.first so_far.before b.live so_far.base so_far.past b.start b.synced new)
  runs_now result writes t told =
      let was = told_before (Safe b.live so_far.base so_far.past) old new old.told refl (changed result writes) t told in
      runs_changed k.first so_far.before b.live so_far.base so_far.past k.epoch b.start b.synced old new was.0 was.1 (tale was.0 was.1) (changed result writes) (run.runs was.0 was.1).0

  stands_now : new.told ≡ told_written at b.sector old.told → WhenTold new.told (Stands b.live b.records)
  stands_now reads t told q below =
      let was = written_reads at b.sector old.told new.told t reads told in
      let shaped = run.shaped in
      elim (cases_lt q b.place) [
        | inl early ↦
            let has = (run.runs was.0 was.1).1 q (omega (arith, early, shaped.full)) in
            let kept : sector_at was.0 (log_start b.live + q) ≡ sector_at t (log_start b.live + q) =
            sym (get_or-set_other was.0 at (log_start b.live + q) b.sector [] (λ e. omega (arith, e, is, early))) ∙ ap (λ (x : Sectors). get_or x (log_start b.live + q) []) was.2 in
            (has.0, subst (λ (x : List ℕ). HasCount b.live.version b.live.epoch q x has.0) kept has.1, omega (arith, has.2, shaped.full, early))
        | inr late ↦
            let same : b.place ≡ q = omega (arith, late, below, shaped.counted, shaped.most) in
            let t_tale = tale was.0 was.1 in
            let inside = log_inside b.live b.place (shaped.some some) in
            let room = (run.runs was.0 was.1).0.room in
            let there : sector_at t at ≡ b.sector = reads_there at b.sector old.told new.told old.sectors t (omega (arith, inside, is, room)) (λ s e. (tale s e).as_many) reads told in
            let here : b.sector ≡ sector_at t (log_start b.live + q) = sym there ∙ ap (λ n. sector_at t n) (is ∙ ap (λ n. log_start b.live + n) same) in (
              b.count,
              subst (λ (x : List ℕ). HasCount b.live.version b.live.epoch q x b.count) here (subst (λ n. HasCount b.live.version b.live.epoch n b.sector b.count) same part.counted),
              omega (arith, shaped.counted, same),
            )
      ]

  -- the write answered Ok
  pub keeps_wrote : b.written < b.records → new.told ≡ told_written at b.sector old.told → {E : Type 0} (result : Result (Unit {0}) E) → Writes at b.sector old new result → Keeps new (record b { written = b.records }) so_far
  keeps_wrote more reads result writes = record {
    first = k.first;
    half_turned = false;
    epoch = k.epoch;
    version = k.version;
    opened = k.opened;
    many = k.many;
    stands = k.stands;
    stays = k.stays;
    ends_are = k.ends_are;
    clears_are = k.clears_are;
    filled = filled_now old b k runs_on;
    stops = λ no. absurd (false_true no refl);
    few = k.few;
    tells = λ t told. (runs_now result writes t told).tells;
    lasts = λ t told. lasts_runs k.first so_far.before b.live so_far.base so_far.past b.start b.synced new (runs_now result writes t told);
    full = λ asked. are_full_later k.first (story_of so_far.before so_far.base so_far.past) b.live.log_sectors b.start (Safe b.live so_far.base so_far.past) old new (changed result writes) (full_before old b k runs_on asked);
    running = λ on.
        let shaped = run.shaped in
        record {
          shaped = record {
            counted = shaped.counted;
            most = shaped.most;
            inside = shaped.inside;
            some = shaped.some;
            full = omega (arith, shaped.full, shaped.fewer);
            fewer = omega arith;
            stay = omega (arith, shaped.stay, shaped.fewer);
          };
          hand = run.hand;
          runs = λ t told. (runs_now result writes t told, stands_now reads t told);
          rests = λ same. absurd (omega (arith, same, shaped.stay, more));
        };
  }

  -- or failed
  pub keeps_write_failed : {E : Type 0} (result : Result (Unit {0}) E) → Writes at b.sector old new result → Keeps new (record b { stopped = true }) so_far
  keeps_write_failed result writes = record {
    first = k.first;
    half_turned = false;
    epoch = k.epoch;
    version = k.version;
    opened = k.opened;
    many = k.many;
    stands = k.stands;
    stays = k.stays;
    ends_are = k.ends_are;
    clears_are = k.clears_are;
    filled = filled_now old b k runs_on;
    stops = λ no. absurd (false_true no refl);
    few = k.few;
    tells = λ t told. (runs_now result writes t told).tells;
    lasts = λ t told. lasts_runs k.first so_far.before b.live so_far.base so_far.past b.start b.synced new (runs_now result writes t told);
    full = λ asked. are_full_later k.first (story_of so_far.before so_far.base so_far.past) b.live.log_sectors b.start (Safe b.live so_far.base so_far.past) old new (changed result writes) (full_before old b k runs_on asked);
    running = λ on. absurd (false_true refl on);
  }

-- A full sector that was written makes room for the next one.
zeros_past : (count : ℕ) → IsZeroPast (replicate 512 0) 0
zeros_past count = refl

pub keeps_advanced : (disk : DiskSeen) (b : Memory) (blank : List ℕ) {so_far : Story} → Keeps disk b so_far → b.count ≡ 30 → b.written ≡ b.records → blank ≡ replicate 512 0
    → Keeps disk (record b { sector = blank; place = b.place + 1; count = 0 }) so_far
keeps_advanced disk b blank k full all is = record {
  first = k.first;
  half_turned = k.half_turned;
  epoch = k.epoch;
  version = k.version;
  opened = k.opened;
  many = k.many;
  stands = k.stands;
  stays = k.stays;
  ends_are = k.ends_are;
  clears_are = k.clears_are;
  filled = k.filled;
  stops = k.stops;
  few = k.few;
  tells = k.tells;
  lasts = k.lasts;
  full = k.full;
  running = λ on.
      let run = k.running on in
      let shaped = run.shaped in
      let more = shaped.some (omega (arith, full)) in
      record {
        shaped = record {
          counted = omega (arith, shaped.counted, full);
          most = omega arith;
          inside = omega (arith, more);
          some = λ some. absurd (omega (arith, some));
          full = omega (arith, shaped.counted, full, all);
          fewer = shaped.fewer;
          stay = shaped.stay;
        };
        hand = record {
          zeros = subst (λ (x : List ℕ). IsZeroPast x 0) (sym is) (zeros_past 0);
          part = λ some. absurd (omega (arith, some));
        };
        runs = run.runs;
        rests = run.rests;
      };
}

module _ (old new : DiskSeen) (b : Memory) {so_far : Story} (k : Keeps old b so_far) (runs_on : b.stopped ≡ false) (tale : WhenTold old.told (IsTale old.sectors old.moments)) (tale_new : WhenTold new.told (IsTale new.sectors new.moments))
    (leaves : Leaves old new) (later : old.faults ≤ new.faults) where
  synced_run : IsRunning old b k.first so_far.before so_far.base so_far.past
  synced_run = k.running runs_on

  synced_changed : {E : Type 0} (result : Result (Unit {0}) E) → Syncs old new result → Changed (Safe b.live so_far.base so_far.past) old new
  synced_changed result syncs = changed_sync (Safe b.live so_far.base so_far.past) old new tale result syncs leaves later

  synced_runs : {E : Type 0} (result : Result (Unit {0}) E) → Syncs old new result → WhenTold new.told (λ t. Runs k.first so_far.before b.live so_far.base so_far.past b.start b.synced new)
  synced_runs result syncs t told =
      let was = told_before (Safe b.live so_far.base so_far.past) old new old.told refl (synced_changed result syncs) t told in
      runs_changed k.first so_far.before b.live so_far.base so_far.past k.epoch b.start b.synced old new was.0 was.1 (tale was.0 was.1) (synced_changed result syncs) (synced_run.runs was.0 was.1).0

  all_synced : {E : Type 0} (result : Result (Unit {0}) E) → Syncs old new result → IsSynced new (λ (t : Sectors). old.told ≡ Some t) → b.written ≡ b.records
      → WhenTold new.told (λ t. Runs k.first so_far.before b.live so_far.base so_far.past b.start b.records new × Stands b.live b.written t)
  all_synced result syncs synced all t told =
      let shaped = synced_run.shaped in
      let is = synced t told in
      let was = synced_run.runs t is.1 in
      let stands : Stands b.live b.records t = subst (λ n. Stands b.live n t) all was.1 in
      let room : b.records ≤ 30 * b.live.log_sectors = elim (cases_eq b.count 0) [
        | inl none ↦ omega (arith, shaped.counted, shaped.inside, none)
        | inr some ↦ let below = shaped.some (omega (arith, some)) in omega (arith, shaped.counted, shaped.most, below)
      ] in (
        runs_settled k.first so_far.before b.live so_far.base so_far.past b.start b.synced b.records new t k.epoch (tale_new t told) is.0 room stands (synced_runs result syncs t told),
        was.1,
      )

  -- the sync answered Ok, and all was written
  pub keeps_synced : {E : Type 0} (result : Result (Unit {0}) E) → Syncs old new result → IsSynced new (λ (t : Sectors). old.told ≡ Some t) → b.written ≡ b.records
      → Keeps new (record b { synced = b.records; kept = b.entries }) so_far
  keeps_synced result syncs synced all = record {
    first = k.first;
    half_turned = false;
    epoch = k.epoch;
    version = k.version;
    opened = k.opened;
    many = k.many;
    stands = k.stands;
    stays = (omega (arith, k.many), k.stands ∙ ap (states so_far.base) (sym (take_all b.records so_far.past (omega (arith, k.many)))));
    ends_are = k.ends_are;
    clears_are = k.clears_are;
    filled = filled_now old b k runs_on;
    stops = λ no. absurd (false_true no refl);
    few = k.few;
    tells = λ t told. (synced_runs result syncs t told).tells;
    lasts = λ t told. lasts_runs k.first so_far.before b.live so_far.base so_far.past b.start b.records new (all_synced result syncs synced all t told).0;
    full = λ asked. are_full_later k.first (story_of so_far.before so_far.base so_far.past) b.live.log_sectors b.start (Safe b.live so_far.base so_far.past) old new (synced_changed result syncs) (full_before old b k runs_on asked);
    running = λ on.
        let shaped = synced_run.shaped in
        record {
          shaped = record {
            counted = shaped.counted;
            most = shaped.most;
            inside = shaped.inside;
            some = shaped.some;
            full = shaped.full;
            fewer = shaped.fewer;
            stay = omega (arith, all);
          };
          hand = synced_run.hand;
          runs = all_synced result syncs synced all;
          rests = λ same t told. (synced t told).0;
        };
  }

  -- or it failed
  pub keeps_sync_failed : {E : Type 0} (result : Result (Unit {0}) E) → Syncs old new result → Keeps new (record b { stopped = true }) so_far
  keeps_sync_failed result syncs = record {
    first = k.first;
    half_turned = false;
    epoch = k.epoch;
    version = k.version;
    opened = k.opened;
    many = k.many;
    stands = k.stands;
    stays = k.stays;
    ends_are = k.ends_are;
    clears_are = k.clears_are;
    filled = filled_now old b k runs_on;
    stops = λ no. absurd (false_true no refl);
    few = k.few;
    tells = λ t told. (synced_runs result syncs t told).tells;
    lasts = λ t told. lasts_runs k.first so_far.before b.live so_far.base so_far.past b.start b.synced new (synced_runs result syncs t told);
    full = λ asked. are_full_later k.first (story_of so_far.before so_far.base so_far.past) b.live.log_sectors b.start (Safe b.live so_far.base so_far.past) old new (synced_changed result syncs) (full_before old b k runs_on asked);
    running = λ on. absurd (false_true refl on);
  }
