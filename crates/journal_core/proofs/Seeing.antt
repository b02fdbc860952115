-- What is seen of a book before and after a call.
use Rattle.std.proofs.Common.{◌≡◌, ◌⊎◌, ℕ, ◌+◌, ◌*◌, ◌%◌, ◌^◌, ◌<◌, ◌≤◌, Bool, true, false, List, Option, Some, None, Result, Ok, Err, refl, sym, ap, ◌∙◌, subst, arith}
use Rattle.std.specs.Prelude.{◌&&◌, ◌||◌, ◌==◌, nat_le, if◌then◌else◌, IsSome}
use Rattle.std.proofs.lemmas.Bool.Decides.{nat_tests}
use Rattle.vd_outside.specs.Causes.{Rose}
use Rattle.key_state.specs.declared.entry.Entry.{Entry}
use Rattle.key_state.specs.declared.record.Record.{Record}
use Rattle.key_state.specs.declared.fault.BookFault.TheVariants.{Failed, Stopped, EpochEnd}
use Rattle.key_state.specs.declared.fault.BookFault.{BookFault}
use Rattle.key_state.specs.declared.seen.BookSeen.{BookSeen}
use Rattle.std.specs.Result.{is_err}
use Rattle.key_state.specs.Entries.{ends_of}
use Rattle.key_state.specs.Books.{Steps, clears_of, Appended, HasBookCause, HasFlushCause}
use Rattle.vd_disk.specs.Disk.{DiskSeen}
use Rattle.journal_layout.specs.declared.live.Live.{Live}
use Rattle.journal_core.specs.Keeps.{Memory, new_memory}
use Rattle.journal_core.specs.Seen.{is_over, last_epoch, stopped_at, origin_of, book_seen}
use Rattle.journal_core.proofs.Steps.{false_true}

and_false : (a b : Bool) → b ≡ false → (a && b) ≡ false
and_false true b is = is
and_false false b is = refl

false_and : (a b : Bool) → a ≡ false → (a && b) ≡ false
false_and a b is = ap (λ x. x && b) is

or_false : (a b : Bool) → a ≡ false → b ≡ false → (a || b) ≡ false
or_false a b is_a is_b = ap (λ x. x || b) is_a ∙ is_b

-- A book that isn't stopped is open while its log has room or an epoch follows.
pub open_room : (b : Memory) → b.stopped ≡ false → b.records < 30 * b.live.log_sectors → (b.stopped || is_over b) ≡ false
open_room b runs room =
    let test : nat_le (30 * b.live.log_sectors) b.records ≡ false = grind (arith, nat_tests) in
    or_false b.stopped (is_over b) runs (and_false (b.live.epoch == last_epoch) (nat_le (30 * b.live.log_sectors) b.records) test)

pub open_low : (b : Memory) → b.stopped ≡ false → b.live.epoch < 9223372036854775807 → (b.stopped || is_over b) ≡ false
open_low b runs low =
    let test : (b.live.epoch == 9223372036854775807) ≡ false = grind (arith, nat_tests) in
    or_false b.stopped (is_over b) runs (false_and (b.live.epoch == last_epoch) (nat_le (30 * b.live.log_sectors) b.records) test)

-- A new book is open.
pub opened_room : (b : Memory) (live : Live) (entries : List Entry) (blank : List ℕ) (start : ℕ) → b ≡ new_memory live entries blank start → 0 < live.log_sectors → (b.stopped || is_over b) ≡ false
opened_room b live entries blank start is some =
    let records : b.records ≡ 0 = ap (λ (m : Memory). m.records) is in
    let logs : b.live.log_sectors ≡ live.log_sectors = ap (λ (m : Memory). m.live.log_sectors) is in
    open_room b (ap (λ (m : Memory). m.stopped) is) (omega (arith, records, logs, some))

pub none_at : (b : Memory) → b.stopped ≡ false → stopped_at b ≡ None
none_at b runs = ap (λ t. if t then Some b.records else None) runs

pub some_at : (b : Memory) → b.stopped ≡ true → stopped_at b ≡ Some b.records
some_at b is = ap (λ t. if t then Some b.records else None) is

pub none_some : (n : ℕ) (o : Option ℕ) → o ≡ None → o ≡ Some n → ⊥
none_some n o a b = cc

-- A flush that answers Err failed now, unless the book was stopped before.
pub failed_now : (old new : BookSeen) (result : Result (Unit {0}) BookFault) → is_err result ≡ true → HasFlushCause old new result → old.stopped ≡ None → Rose old.faults new.faults
failed_now old new (Ok v) bad cause none = absurd (false_true bad refl)
failed_now old new (Err Failed) bad cause none = cause.1
failed_now old new (Err (Stopped records)) bad cause none = absurd (none_some records old.stopped none cause.0)
failed_now old new (Err (EpochEnd epoch)) bad cause none = absurd cause

module _ (began opened old new : DiskSeen) (b c : Memory) (made : Record) where
  pub appended_seen : b.stopped ≡ false → (b.stopped || is_over b) ≡ false → origin_of began opened c ≡ origin_of began opened b → b.live.epoch ≤ c.live.epoch → old.faults ≤ new.faults
      → Steps made b.entries c.entries → (c.kept ≡ b.kept) ⊎ (c.kept ≡ c.entries) → c.ends ≡ (b.ends + ends_of made) % 2 ^ 64 → c.clears ≡ (b.clears + clears_of b.entries made) % 2 ^ 64
      → Appended made (book_seen began opened old b) (book_seen began opened new c)
  appended_seen runs is_open origin epoch later steps synced ends clears = record {
    follows = record {
      origin = origin;
      epoch = epoch;
      later = later;
      stopped = λ records is. absurd (none_some records (stopped_at b) (none_at b runs) is);
      shut = λ is. absurd (false_true is is_open);
      sized = steps.sized;
    };
    steps = steps;
    synced = synced;
    ends = ends;
    clears = clears;
  }

  pub cause_ok : (b.stopped || is_over b) ≡ false → new.faults ≡ old.faults → c.stopped ≡ false → HasBookCause (book_seen began opened old b) (book_seen began opened new c) (Ok (tt {0}))
  cause_ok is_open same runs = (is_open, same, none_at c runs)

  pub cause_failed : (b.stopped || is_over b) ≡ false → Rose old.faults new.faults → c.stopped ≡ true → HasBookCause {T = Unit {0}} (book_seen began opened old b) (book_seen began opened new c) (Err Failed)
  cause_failed is_open rose is = (is_open, rose, subst (λ (o : Option ℕ). IsSome o) (sym (some_at c is)) refl)
