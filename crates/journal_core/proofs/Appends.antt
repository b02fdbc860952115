-- A record is appended.
use Rattle.std.proofs.Common.{◌≡◌, inl, inr, ℕ, ◌+◌, ◌-◌, ◌*◌, ◌%◌, ◌^◌, ◌<◌, ◌≤◌, Bool, true, false, List, [], ◌∷◌, ◌++◌, length, replicate, Result, Ok, Err, refl, sym, subst, arith}
use Rattle.std.specs.Result.{is_err, OnOk}
use Rattle.std.proofs.lemmas.Bool.{cases_eq}
use Rattle.key_state.specs.declared.entry.Entry.{Entry}
use Rattle.key_state.specs.declared.record.Record.{Record}
use Rattle.key_state.specs.declared.record.Record.TheVariants.{Begin, End, Bad as BadRecord, BeginRun, EndRun, Clear}
use Rattle.key_state.specs.Entries.{first_of, many_of, ends_of, IsLegalOn}
use Rattle.key_state.specs.Books.{Steps, clears_of}
use Rattle.journal_layout.specs.Log.{IsSpelled, IsBelow}
use Rattle.vd_disk.specs.Disk.{DiskSeen, WhenTold, IsTale}
use Rattle.journal_core.specs.Parts.{InHand, Stands}
use Rattle.journal_core.specs.Chapters.{WasFull}
use Rattle.journal_core.specs.Keeps.{Story, with_record, with_epoch, Memory, IsRunning, Keeps, Runs, Shape, next_of, story_of}
use Rattle.journal_core.specs.Writes.{Begins}
use Rattle.journal_core.proofs.Settling.{runs_record}
use Rattle.journal_core.proofs.Lasting.{full_now}
use Rattle.journal_core.proofs.Steps.{noted, keeps_noted, false_true}
use Rattle.journal_core.proofs.TurnSteps.{turned_over, keeps_turned, keeps_turn_failed}

some_blocks : (made : Record) → IsSpelled 2 made → 1 ≤ many_of made
some_blocks (Begin block old new) is = omega arith
some_blocks (End block key) is = omega arith
some_blocks (BadRecord block) is = omega arith
some_blocks (BeginRun first many) is = omega (arith, is.1)
some_blocks (EndRun first many) is = omega (arith, is.1)
some_blocks (Clear first many) is = omega (arith, is.1)

-- all blocks of a legal record are there
pub legal_below : (entries : List Entry) (made : Record) → IsLegalOn entries made → IsSpelled 2 made → IsBelow (length entries) made
legal_below entries made legal spelled =
    let some = some_blocks made spelled in
    let last = first_of made + many_of made - 1 in
    let there = (legal last (omega (arith, some), omega (arith, some))).0 in
    omega (arith, there, some)

pub ok_of : {T E : Type 0} (result : Result T E) (P : Type 0) → is_err result ≡ false → OnOk result P → P
ok_of (Ok x) P good on = on
ok_of (Err e) P good on = absurd (false_true refl good)

pub ok_unit : {E : Type 0} (result : Result (Unit {0}) E) → is_err result ≡ false → result ≡ Ok tt
ok_unit (Ok done) good = refl
ok_unit (Err e) good = absurd (false_true refl good)

pub low_epoch : (epoch : ℕ) → (epoch ≡ 9223372036854775807 → ⊥) → epoch < 2 ^ 63 → epoch + 1 < 2 ^ 63
low_epoch epoch other low = omega (arith, other, low)

-- a log with no room has thirty records a sector
pub full_records : {logs place count records written synced : ℕ} → Shape logs place count records written synced → place ≡ logs → records ≡ 30 * logs
full_records {logs} {place} {count} shape full = elim (cases_eq count 0) [
  | inl is ↦ omega (arith, shape.counted, full, is)
  | inr some ↦ let inside = shape.some (omega (arith, some)) in absurd (omega (arith, inside, full))
]

-- the memory with a record more, of which the counts are known
abbrev pub put_in : Memory → List Entry → List ℕ → ℕ → ℕ → ℕ → Bool → Memory
put_in b entries sector count ends clears stopped = record b {
  entries = entries;
  sector = sector;
  count = count;
  records = b.records + 1;
  ends = ends;
  clears = clears;
  stopped = stopped;
}

module _ (old : DiskSeen) (b : Memory) {so_far : Story} (k : Keeps old b so_far) (runs_on : b.stopped ≡ false) (made : Record) (entries : List Entry) (legal : IsLegalOn b.entries made) (steps : Steps made b.entries entries)
    (ends clears : ℕ) (is_ends : ends ≡ (b.ends + ends_of made) % 2 ^ 64) (is_clears : clears ≡ (b.clears + clears_of b.entries made) % 2 ^ 64) where
  run : IsRunning old b k.first so_far.before so_far.base so_far.past
  run = k.running runs_on

  counted : (sector : List ℕ) (count : ℕ) (stopped : Bool) → Keeps old (noted b made entries sector count stopped) (with_record so_far made) → Keeps old (put_in b entries sector count ends clears stopped) (with_record so_far made)
  counted sector count stopped keeps =
      subst (λ n. Keeps old (put_in b entries sector count n clears stopped) (with_record so_far made)) (sym is_ends)
      (subst (λ n. Keeps old (put_in b entries sector count ((b.ends + ends_of made) % 2 ^ 64) n stopped) (with_record so_far made)) (sym is_clears) keeps)

  noted_only : (sector : List ℕ) (count : ℕ) → b.records ≤ 30 * b.live.log_sectors → (b.stopped ≡ false → IsRunning old (noted b made entries sector count b.stopped) k.first so_far.before so_far.base (so_far.past ++ made ∷ []))
      → Keeps old (noted b made entries sector count b.stopped) (with_record so_far made)
  noted_only sector count room running = (keeps_noted old b k runs_on made entries sector count b.stopped legal steps room running).0

  more_runs : WhenTold old.told (λ s. Runs k.first so_far.before b.live so_far.base (so_far.past ++ made ∷ []) b.start b.synced old)
  more_runs s told = runs_record k.first so_far.before b.live so_far.base so_far.past made b.start b.synced old (run.runs s told).0

  -- in hand
  pub keeps_put : (sector : List ℕ) (count : ℕ) → count ≡ b.count + 1 → b.count < 30 → b.place < b.live.log_sectors
      → ((past : List Record) → length past ≡ 30 * b.place + b.count → InHand b.live past b.place b.count b.sector → InHand b.live (past ++ made ∷ []) b.place (b.count + 1) sector)
      → Keeps old (put_in b entries sector count ends clears b.stopped) (with_record so_far made)
  keeps_put sector count is few inside hand =
      let shaped = run.shaped in
      counted sector count b.stopped
      (noted_only sector count (omega (arith, shaped.counted, few, inside))
      (λ on. record {
        shaped = record {
          counted = omega (arith, shaped.counted, is);
          most = omega (arith, is, few);
          inside = shaped.inside;
          some = λ some. inside;
          full = shaped.full;
          fewer = omega (arith, shaped.fewer);
          stay = shaped.stay;
        };
        hand = subst (λ n. InHand b.live (so_far.past ++ made ∷ []) b.place n sector) (sym is) (hand so_far.past (omega (arith, k.many, shaped.counted)) run.hand);
        runs = λ s told. (more_runs s told, (run.runs s told).1);
        rests = run.rests;
      }))

  -- Over a full log it stands in no sector: the next epoch begins, or the book is stopped.
  module _ (new : DiskSeen) (full : b.place ≡ b.live.log_sectors) (low : b.live.epoch + 1 < 2 ^ 63) (tale : WhenTold old.told (IsTale old.sectors old.moments)) (tale_new : WhenTold new.told (IsTale new.sectors new.moments)) where
    none : b.count ≡ 0
    none = elim (cases_eq b.count 0) [
      | inl is ↦ is
      | inr some ↦ let inside = run.shaped.some (omega (arith, some)) in absurd (omega (arith, inside, full))
    ]

    over : (after : Keeps old (noted b made entries b.sector b.count true) (with_record so_far made)) × (after.half_turned ≡ false) × (length (so_far.past ++ made ∷ []) ≡ b.records + 1)
        × WhenTold old.told (λ s. Runs after.first so_far.before b.live so_far.base (so_far.past ++ made ∷ []) b.start b.synced old)
        × (WhenTold old.told (λ s. WasFull k.first (story_of so_far.before so_far.base so_far.past) b.live.log_sectors old.moments b.start (length so_far.before))
        → WhenTold old.told (λ s. WasFull after.first (story_of so_far.before so_far.base (so_far.past ++ made ∷ [])) b.live.log_sectors old.moments b.start (length so_far.before)))
    over =
        let shaped = run.shaped in
        keeps_noted old b k runs_on made entries b.sector b.count true legal steps (omega (arith, shaped.counted, full, none)) (λ on. absurd (false_true refl on))

    long_over : length (so_far.past ++ made ∷ []) ≡ 30 * b.live.log_sectors + 1
    long_over = let shaped = run.shaped in omega (arith, over.2, shaped.counted, full, none)

    full_over : WhenTold old.told (λ s. WasFull (over.0).first (story_of so_far.before so_far.base (so_far.past ++ made ∷ [])) b.live.log_sectors old.moments b.start (length so_far.before))
    full_over =
        let shaped = run.shaped in
        let all : b.written ≡ 30 * b.live.log_sectors = omega (arith, shaped.full, shaped.fewer, shaped.counted, full, none) in
        let was : WhenTold old.told (λ s. WasFull k.first (story_of so_far.before so_far.base so_far.past) b.live.log_sectors old.moments b.start (length so_far.before)) = λ s told.
        let here = run.runs s told in
        full_now k.first so_far.before b.live so_far.base so_far.past b.start b.synced old s k.epoch (tale s told) here.0 (omega (arith, k.many, shaped.counted, full, none)) (subst (λ n. Stands b.live n s) all here.1) in
        over.4 was

    pub keeps_over_failed : {E : Type 0} (result : Result (Unit {0}) E) → Begins (next_of b.live) entries old new result → Keeps new (put_in b entries b.sector b.count ends clears true) (with_record so_far made)
    keeps_over_failed result begins =
        let kept = keeps_turn_failed old new (noted b made entries b.sector b.count true) over.0 over.1 low over.3 (λ asked. long_over) (λ asked. full_over) tale tale_new result begins in
        subst (λ n. Keeps new (put_in b entries b.sector b.count n clears true) (with_record so_far made)) (sym is_ends)
        (subst (λ n. Keeps new (put_in b entries b.sector b.count ((b.ends + ends_of made) % 2 ^ 64) n true) (with_record so_far made)) (sym is_clears) kept)

    pub keeps_over : (E : Type 0) (blank : List ℕ) → blank ≡ replicate 512 0 → Begins {E = E} (next_of b.live) entries old new (Ok tt) → Keeps new (turned_over (put_in b entries b.sector b.count ends clears true) blank) (with_epoch (with_record so_far made))
    keeps_over E blank zeros begins =
        let kept = keeps_turned old new (noted b made entries b.sector b.count true) over.0 over.1 low over.3 (λ asked. long_over) (λ asked. full_over) tale tale_new E blank zeros begins in
        subst (λ n. Keeps new (turned_over (put_in b entries b.sector b.count n clears true) blank) (with_epoch (with_record so_far made))) (sym is_ends)
        (subst (λ n. Keeps new (turned_over (put_in b entries b.sector b.count ((b.ends + ends_of made) % 2 ^ 64) n true) blank) (with_epoch (with_record so_far made))) (sym is_clears) kept)
