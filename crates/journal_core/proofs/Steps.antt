-- What a book keeps, as it goes on.
use Rattle.std.proofs.Common.{◌≡◌, ⊎_elim, ℕ, ◌+◌, ◌*◌, ◌%◌, ◌^◌, ◌≤◌, Bool, true, false, List, [], ◌∷◌, ◌++◌, length, refl, sym, ap, ◌∙◌, subst, arith}
use Rattle.std.proofs.lemmas.List.{length_push, take-append-le}
use Rattle.std.proofs.lemmas.List.Sums.{sum_by_push}
use Rattle.key_state.specs.declared.entry.Entry.{Entry}
use Rattle.key_state.specs.declared.record.Record.{Record}
use Rattle.key_state.specs.Entries.{states, ends, ends_of, entry_at, IsLegalOn, Takes}
use Rattle.key_state.specs.Books.{Steps, clears_of, clears as clears_in}
use Rattle.key_state.proofs.Histories.{states_of_one, states-append, legal_leaves, states_nil}
use Rattle.vd_disk.specs.Disk.{DiskSeen, WhenTold, present}
use Rattle.journal_core.specs.Chapters.{Chapter, Tells, IsFilled, Lasts, WasFull, AreFull}
use Rattle.journal_core.specs.Keeps.{Story, story_of, all_of, with_record, Memory, Runs, IsRunning, Keeps}
use Rattle.journal_core.proofs.Changes.{extends_none}
use Rattle.journal_core.proofs.Stories.{get_front, get_last, get_cases, grew_record, tells_more, story_record, filled_record}
use Rattle.journal_core.proofs.Settling.{runs_record}
use Rattle.journal_core.proofs.Lasting.{lasts_more, are_full_record, full_more}

-- the entries after one record more
pub states_more : (base : List Entry) (past : List Record) (made : Record) (old new : List Entry) → old ≡ states base past → IsLegalOn old made → Steps made old new → new ≡ states base (past ++ made ∷ [])
states_more base past made old new is legal steps =
    states_of_one old made new steps.sized
    (λ block inside named. subst (Takes made (entry_at old block)) (sym (steps.named block named)) (legal_leaves made (entry_at old block) (legal block named).1))
    (λ block inside other. steps.others block other)
    ∙ ap (λ (b : List Entry). states b (made ∷ [])) is ∙ sym (states-append base past (made ∷ []))

pub ends_more : (past : List Record) (made : Record) → ends (past ++ made ∷ []) ≡ ends past + ends_of made
ends_more past made = sum_by_push ends_of past made

pub clears_more : (base : List Entry) (past : List Record) (made : Record) → clears_in base (past ++ made ∷ []) ≡ clears_in base past + clears_of (states base past) made
clears_more base [] made = let same = ap (λ (b : List Entry). clears_of b made) (states_nil base) in omega (arith, same)
clears_more base (r ∷ past) made =
    let same = ap (λ (b : List Entry). clears_of b made) (states-append base (r ∷ []) past) in
    omega (arith, clears_more (states base (r ∷ [])) past made, same)

pub false_true : {b : Bool} → b ≡ true → b ≡ false → ⊥
false_true a b = cc

-- what isn't true is false
pub not_turning : (half_turned stopped : Bool) → (half_turned ≡ true → stopped ≡ true) → stopped ≡ false → half_turned ≡ false
not_turning false stopped stops running = refl
not_turning true stopped stops running = absurd (false_true (stops refl) running)

-- the memory of a book that took a record
abbrev pub noted : Memory → Record → List Entry → List ℕ → ℕ → Bool → Memory
noted b made entries sector count stopped = record b {
  entries = entries;
  sector = sector;
  count = count;
  records = b.records + 1;
  ends = (b.ends + ends_of made) % 2 ^ 64;
  clears = (b.clears + clears_of b.entries made) % 2 ^ 64;
  stopped = stopped;
}

module _ (disk : DiskSeen) (b : Memory) {so_far : Story} (k : Keeps disk b so_far) (runs_on : b.stopped ≡ false) where
  pub steady : k.half_turned ≡ false
  steady = not_turning k.half_turned b.stopped k.stops runs_on

  pub tells_now : WhenTold disk.told (λ s. Tells k.first (story_of so_far.before so_far.base so_far.past) disk.moments b.start)
  tells_now = subst (λ t. WhenTold disk.told (λ s. Tells k.first (all_of t so_far.before so_far.base so_far.past) disk.moments b.start)) steady k.tells

  pub filled_now : b.asked ≡ false → IsFilled b.live.log_sectors (story_of so_far.before so_far.base so_far.past)
  filled_now = subst (λ t. b.asked ≡ false → IsFilled b.live.log_sectors (all_of t so_far.before so_far.base so_far.past)) steady k.filled

  pub lasts_now : WhenTold disk.told (λ s. Lasts k.first (story_of so_far.before so_far.base so_far.past) (present disk.moments) (length so_far.before) b.synced)
  lasts_now = subst (λ t. WhenTold disk.told (λ s. Lasts k.first (all_of t so_far.before so_far.base so_far.past) (present disk.moments) (length so_far.before) b.synced)) steady k.lasts

  pub full_before : b.asked ≡ false → WhenTold disk.told (λ s. AreFull k.first (story_of so_far.before so_far.base so_far.past) b.live.log_sectors disk.moments b.start)
  full_before = subst (λ t. b.asked ≡ false → WhenTold disk.told (λ s. AreFull k.first (all_of t so_far.before so_far.base so_far.past) b.live.log_sectors disk.moments b.start)) steady k.full

  -- one record more, wherever it stands
  pub keeps_noted : (made : Record) (entries : List Entry) (sector : List ℕ) (count : ℕ) (stopped : Bool) → IsLegalOn b.entries made → Steps made b.entries entries → b.records ≤ 30 * b.live.log_sectors
      → (stopped ≡ false → IsRunning disk (noted b made entries sector count stopped) k.first so_far.before so_far.base (so_far.past ++ made ∷ []))
      → (after : Keeps disk (noted b made entries sector count stopped) (with_record so_far made)) × (after.half_turned ≡ false) × (length (so_far.past ++ made ∷ []) ≡ b.records + 1)
      × WhenTold disk.told (λ s. Runs after.first so_far.before b.live so_far.base (so_far.past ++ made ∷ []) b.start b.synced disk)
      × (WhenTold disk.told (λ s. WasFull k.first (story_of so_far.before so_far.base so_far.past) b.live.log_sectors disk.moments b.start (length so_far.before))
      → WhenTold disk.told (λ s. WasFull after.first (story_of so_far.before so_far.base (so_far.past ++ made ∷ [])) b.live.log_sectors disk.moments b.start (length so_far.before)))
  keeps_noted made entries sector count stopped legal steps room running =
      let past = so_far.past ++ made ∷ [] in
      let own : Chapter = record { base = so_far.base; past = so_far.past } in
      let now : Chapter = record { base = so_far.base; past = past } in
      let long = length_push so_far.past made in (
        record {
          first = k.first;
          half_turned = false;
          epoch = record {
            is_live = k.epoch.is_live;
            limits = k.epoch.limits;
            story = story_record k.first so_far.before so_far.base so_far.past made k.epoch.story (subst (λ (es : List Entry). IsLegalOn es made) k.stands legal);
          };
          version = k.version;
          opened = (
            k.opened.0,
            λ chapter is. ⊎_elim
                (λ early. k.opened.1 chapter (get_front so_far.before (own ∷ []) 0 early.0 ∙ early.1))
                (λ last. ap (λ (c : Chapter). c.base) (sym last.1) ∙ k.opened.1 own (get_last so_far.before own 0 last.0))
                (get_cases so_far.before now 0 chapter is),
          );
          many = omega (arith, long, k.many);
          stands = states_more so_far.base so_far.past made b.entries entries k.stands legal steps;
          stays = (omega (arith, k.stays.0, long), k.stays.1 ∙ ap (states so_far.base) (sym (take-append-le b.synced so_far.past (made ∷ []) k.stays.0)));
          ends_are = λ same. let was = k.ends_are same in omega (arith, was, ends_more so_far.past made);
          clears_are = λ same.
              let was = k.clears_are same in
              let cleared : clears_of b.entries made ≡ clears_of (states so_far.base so_far.past) made = ap (λ (es : List Entry). clears_of es made) k.stands in
              omega (arith, was, cleared, clears_more so_far.base so_far.past made);
          filled = λ asked. filled_record b.live.log_sectors so_far.before so_far.base so_far.past made (filled_now asked);
          stops = λ no. absurd (false_true no refl);
          few = omega (arith, long, room, k.many);
          tells = λ s told. tells_more k.first (story_of so_far.before so_far.base so_far.past) (story_of so_far.before so_far.base past) disk.moments b.start (grew_record so_far.before so_far.base so_far.past made) (tells_now s told);
          lasts = λ s told. lasts_more k.first (story_of so_far.before so_far.base so_far.past) (story_of so_far.before so_far.base past) (present disk.moments) (length so_far.before) b.synced (grew_record so_far.before so_far.base so_far.past made) (lasts_now s told);
          full = λ asked s told. are_full_record k.first so_far.before so_far.base so_far.past made b.live.log_sectors b.start disk.moments (extends_none disk.moments) (full_before asked s told);
          running = running;
        },
        refl,
        omega (arith, long, k.many),
        λ s told. runs_record k.first so_far.before b.live so_far.base so_far.past made b.start b.synced disk ((k.running runs_on).runs s told).0,
        λ was s told. full_more k.first (story_of so_far.before so_far.base so_far.past) (story_of so_far.before so_far.base past) b.live.log_sectors disk.moments disk.moments b.start (length so_far.before) (grew_record so_far.before so_far.base so_far.past made)
            (extends_none disk.moments) (was s told),
      )

-- A stopped book keeps what it kept.
pub keeps_stopped : (disk : DiskSeen) (b : Memory) {so_far : Story} → Keeps disk b so_far → Keeps disk (record b { stopped = true }) so_far
keeps_stopped disk b k = record {
  first = k.first;
  half_turned = k.half_turned;
  epoch = k.epoch;
  version = k.version;
  opened = k.opened;
  many = k.many;
  stands = k.stands;
  stays = k.stays;
  ends_are = k.ends_are;
  clears_are = k.clears_are;
  filled = k.filled;
  stops = λ is. refl;
  few = k.few;
  tells = k.tells;
  lasts = k.lasts;
  full = k.full;
  running = λ no. absurd (false_true refl no);
}
