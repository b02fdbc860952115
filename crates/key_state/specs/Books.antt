-- What a call of a book does: the book before and after.
use Rattle.std.specs.Prelude.{◌≡◌, ◌⊎◌, ℕ, ◌+◌, ◌%◌, ◌^◌, ◌≤◌, ◌<◌, ◌==◌, true, false, if◌then◌else◌, List, [], ◌∷◌, length, replicate, map, sum_by, Option, Some, None, IsSome, Result, Ok, Err, refl}
use Rattle.std.specs.List.{range_with_len}
use Rattle.std.proofs.Common.{◌∙◌, arith}
use Rattle.vd_outside.specs.Causes.{Rose}
use Rattle.key_state.specs.Entries.{Names, entry_at, leaves, states, ends_of, AreEntries, IsLegalOn}
use Rattle.key_state.specs.declared.entry.Entry.{Entry}
use Rattle.key_state.specs.declared.entry.Entry.TheVariants.{Settled, Pending, Bad}
use Rattle.key_state.specs.declared.record.Record.{Record}
use Rattle.key_state.specs.declared.record.Record.TheVariants.{Begin, End, Bad as BadRecord, BeginRun, EndRun, Clear}
use Rattle.key_state.specs.declared.fault.BookFault.{BookFault}
use Rattle.key_state.specs.declared.fault.BookFault.TheVariants.{Failed, Stopped, EpochEnd}
use Rattle.key_state.specs.declared.seen.Origin.{Origin}
use Rattle.key_state.specs.declared.seen.BookSeen.{BookSeen}

-- what is true of every book
pub record IsBook (book : BookSeen) : Type 0 where
  pub valid : AreEntries book.now
  pub valid_synced : AreEntries book.synced
  pub as_many : length book.synced ≡ length book.now
  pub stopped : IsSome book.stopped → book.shut ≡ true
  pub ends_range : book.ends < 2 ^ 64
  pub clears_range : book.clears < 2 ^ 64

-- A book some calls later: opened as it was, no epoch and no fault taken back, still stopped and still shut where it was.
pub record Follows (old new : BookSeen) : Type 0 where
  pub origin : new.origin ≡ old.origin
  pub epoch : old.epoch ≤ new.epoch
  pub later : old.faults ≤ new.faults
  pub stopped : (records : ℕ) → old.stopped ≡ Some records → new.stopped ≡ Some records
  pub shut : old.shut ≡ true → new.shut ≡ true
  pub sized : length new.now ≡ length old.now

pub follows_same : (book : BookSeen) → Follows book book
follows_same book = record {
  origin = refl;
  epoch = omega arith;
  later = omega arith;
  stopped = λ records is. is;
  shut = λ is. is;
  sized = refl;
}

pub follows_then : (first next last : BookSeen) → Follows first next → Follows next last → Follows first last
follows_then first next last one two = record {
  origin = two.origin ∙ one.origin;
  epoch = omega (arith, one.epoch, two.epoch);
  later = omega (arith, one.later, two.later);
  stopped = λ records is. two.stopped records (one.stopped records is);
  shut = λ is. two.shut (one.shut is);
  sized = two.sized ∙ one.sized;
}

-- what is synced is as it was, or is what the book has now
abbrev pub SyncedOrNow : BookSeen → BookSeen → Type 0
SyncedOrNow old new = (new.synced ≡ old.synced) ⊎ (new.synced ≡ new.now)

-- one for an entry that isn't settled at 0
abbrev pub used : Entry → ℕ
used (Settled key) = if key == 0 then 0 else 1
used (Pending old new) = 1
used Bad = 1

-- how many of these blocks have an entry that isn't settled at 0
abbrev pub used_among : List Entry → ℕ → ℕ → ℕ
used_among entries first many = sum_by used (map (entry_at entries) (range_with_len first many))

-- how many blocks a record clears that weren't settled at 0
abbrev pub clears_of : List Entry → Record → ℕ
clears_of entries (Begin block old new) = 0
clears_of entries (End block key) = 0
clears_of entries (BadRecord block) = 0
clears_of entries (BeginRun first many) = 0
clears_of entries (EndRun first many) = 0
clears_of entries (Clear first many) = used_among entries first.0 many

-- the same of a list of records
abbrev pub clears : List Entry → List Record → ℕ
clears base [] = 0
clears base (made ∷ records) = clears_of base made + clears (states base (made ∷ [])) records

-- Each block of the record took its step, and no other block did.
pub record Steps (made : Record) (old new : List Entry) : Type 0 where
  pub sized : length new ≡ length old
  pub named : (block : ℕ) → Names made block → entry_at new block ≡ leaves made (entry_at old block)
  pub others : (block : ℕ) → (Names made block → ⊥) → entry_at new block ≡ entry_at old block

-- These are the states after the one record.
abbrev pub StepsAreStates : Type 0
StepsAreStates = (made : Record) (old new : List Entry) → IsLegalOn old made → Steps made old new → new ≡ states old (made ∷ [])

-- The record was appended.
pub record Appended (made : Record) (old new : BookSeen) : Type 0 where
  pub follows : Follows old new
  pub steps : Steps made old.now new.now
  pub synced : SyncedOrNow old new
  pub ends : new.ends ≡ (old.ends + ends_of made) % 2 ^ 64
  pub clears : new.clears ≡ (old.clears + clears_of old.now made) % 2 ^ 64

-- No record was appended; more may be synced.
pub record Kept (old new : BookSeen) : Type 0 where
  pub follows : Follows old new
  pub now : new.now ≡ old.now
  pub synced : SyncedOrNow old new
  pub ends : new.ends ≡ old.ends
  pub clears : new.clears ≡ old.clears

-- The book takes no more, and the record was appended or left out.
abbrev pub Shuts : Record → BookSeen → BookSeen → Type 0
Shuts made old new = (new.shut ≡ true) × (Appended made old new ⊎ Kept old new)

-- Why a call failed that appends a record: the count of faults rose, and the book is stopped from now on; or it was stopped before, or
-- its log was full in its last epoch, and then nothing changed. At Ok it wasn't shut, and no fault was counted.
abbrev pub HasBookCause : {T : Type 0} → BookSeen → BookSeen → Result T BookFault → Type 0
HasBookCause old new (Ok done) = (old.shut ≡ false) × (new.faults ≡ old.faults) × (new.stopped ≡ None)
HasBookCause old new (Err Failed) = (old.shut ≡ false) × Rose old.faults new.faults × IsSome new.stopped
HasBookCause old new (Err (Stopped records)) = (old.stopped ≡ Some records) × (new ≡ old)
HasBookCause old new (Err (EpochEnd epoch)) = (old.stopped ≡ None) × (old.shut ≡ true) × (epoch ≡ old.epoch) × (new ≡ old)

-- The same of a call that appends none: it isn't refused at the end of the last epoch, and doesn't shut a book but by its failure.
abbrev pub HasFlushCause : {T : Type 0} → BookSeen → BookSeen → Result T BookFault → Type 0
HasFlushCause old new (Ok done) = (new.faults ≡ old.faults) × (new.stopped ≡ None) × (new.shut ≡ old.shut)
HasFlushCause old new (Err Failed) = (old.stopped ≡ None) × Rose old.faults new.faults × IsSome new.stopped
HasFlushCause old new (Err (Stopped records)) = (old.stopped ≡ Some records) × (new ≡ old)
HasFlushCause old new (Err (EpochEnd epoch)) = ⊥

-- Without a turnover an append to a journal syncs nothing.
abbrev pub Unsynced : BookSeen → BookSeen → Type 0
Unsynced old new = IsSome old.origin.id → new.epoch ≡ old.epoch → new.synced ≡ old.synced

-- A record can be appended: it is legal at the entry of each of its blocks.
abbrev pub MayAppend : BookSeen → Record → Type 0
MayAppend book made = IsLegalOn book.now made

-- what a book without a journal was opened over: nothing
abbrev pub quiet_origin : ℕ → Origin
quiet_origin blocks = record {
  began = [];
  opened = [];
  told = None;
  faults = 0;
  id = None;
  log_sectors = 0;
  epoch = 0;
  entries = replicate blocks (Settled 0);
  turned_over = false;
}
