-- What each call of a journal book answers, and what it leaves.
use Rattle.std.specs.Prelude.{◌≡◌, ◌⊎◌, ℕ, ◌+◌, ◌-◌, ◌*◌, ◌<◌, ◌≤◌, true, false, List, length, replicate, Some, Result, Ok, Err}
use Rattle.key_state.specs.declared.fault.BookFault.{BookFault}
use Rattle.key_state.specs.declared.fault.BookFault.TheVariants.{Failed, Stopped, EpochEnd}
use Rattle.key_state.specs.declared.seen.BookSeen.{BookSeen}
use Rattle.key_state.specs.declared.record.Record.{Record}
use Rattle.key_state.specs.Books.{Appended, SyncedOrNow}
use Rattle.vd_outside.specs.Causes.{Rose}
use Rattle.key_state.specs.declared.entry.Entry.{Entry}
use Rattle.journal_layout.specs.declared.live.Live.{Live}
use Rattle.vd_disk.specs.Disk.{DiskSeen, WhenTold, Rests}
use Rattle.journal_core.specs.declared.fault.OpenFault.{OpenFault}
use Rattle.journal_core.specs.declared.fault.OpenFault.TheVariants.{EpochEnd as LastEpoch, Failed as FailedCall, NoMemory}
use Rattle.journal_core.specs.Keeps.{Memory, Story, Keeps, HasStory, first_story, with_record, with_epoch, new_memory, next_of}
use Rattle.journal_core.specs.Opening.{Opens}
use Rattle.journal_layout.specs.Recovery.{journal_end}
use Rattle.journal_core.specs.Changes.{Changed}
use Rattle.journal_core.specs.Seen.{last_epoch}

-- The log has no room for one more record.
abbrev pub IsFull : Memory → Type 0
IsFull b = b.records ≡ 30 * b.live.log_sectors

-- One more record is held in memory, since the sector in hand has room for more than that.
abbrev pub StaysInHand : Memory → Type 0
StaysInHand b = (b.count < 29) × (b.records < 30 * b.live.log_sectors)

-- Stopped comes exactly after a failed call, and EpochEnd exactly where the epoch after the last one is due.
abbrev pub Answers : {T : Type 0} → Type 0 → Memory → Result T BookFault → Type 0
Answers due b (Ok done) = (b.stopped ≡ false) × (due → b.live.epoch < last_epoch)
Answers due b (Err Failed) = (b.stopped ≡ false) × (due → b.live.epoch < last_epoch)
Answers due b (Err (Stopped records)) = (b.stopped ≡ true) × (records ≡ b.records)
Answers due b (Err (EpochEnd epoch)) = (b.stopped ≡ false) × due × (b.live.epoch ≡ last_epoch) × (epoch ≡ b.live.epoch)

-- The record is appended, and stays so where the call failed; where none was tried nothing changes.
abbrev pub StaysAppended : {T : Type 0} → Record → BookSeen → BookSeen → Result T BookFault → Type 0
StaysAppended made old new (Ok done) = Appended made old new
StaysAppended made old new (Err Failed) = Appended made old new
StaysAppended made old new (Err (Stopped records)) = new ≡ old
StaysAppended made old new (Err (EpochEnd epoch)) = new ≡ old

-- A record more: in this epoch, or in the map of the next one where the log was full.
abbrev pub OneMore : {T : Type 0} → Memory → Memory → Result T BookFault → Type 0
OneMore old new (Ok done) = (new.stopped ≡ false)
    × ((IsFull old × (new.live ≡ next_of old.live) × (new.records ≡ 0) × (new.kept ≡ new.entries))
    ⊎ ((old.records < 30 * old.live.log_sectors) × (new.live ≡ old.live) × (new.records ≡ old.records + 1) × (new.synced ≡ old.synced)))
OneMore old new (Err Failed) = (new.stopped ≡ true) × (new.live ≡ old.live) × (new.records ≡ old.records + 1) × (new.synced ≡ old.synced)
OneMore old new (Err (Stopped records)) = new ≡ old
OneMore old new (Err (EpochEnd epoch)) = new ≡ old

-- The epoch that is due has begun, or the book is stopped; where neither was tried nothing changes.
abbrev pub OneTurn : {T : Type 0} → Memory → Memory → Result T BookFault → Type 0
OneTurn old new (Ok done) = (new.live ≡ next_of old.live) × (new.records ≡ 0) × (new.stopped ≡ false) × (new.asked ≡ true) × (new.kept ≡ new.entries)
OneTurn old new (Err Failed) = (new.stopped ≡ true) × (new.live ≡ old.live) × (new.records ≡ old.records) × (new.asked ≡ true) × (new.synced ≡ old.synced) × (new.kept ≡ old.kept)
OneTurn old new (Err (Stopped records)) = new ≡ old
OneTurn old new (Err (EpochEnd epoch)) = new ≡ old

-- Whatever story the book has, it has it still.
abbrev pub SameStory : DiskSeen → Memory → DiskSeen → Memory → Type 0
SameStory old b new c = (so_far : Story) → HasStory old b so_far → HasStory new c so_far

-- It goes on by exactly this record, in the same epoch or in one that then ended; where none was tried it stays as it is.
abbrev pub Continues : {T : Type 0} → Record → DiskSeen → Memory → DiskSeen → Memory → Result T BookFault → Type 0
Continues made old b new c (Ok done) = (so_far : Story) → HasStory old b so_far
    → ((c.live ≡ b.live) × HasStory new c (with_record so_far made)) ⊎ ((c.live ≡ next_of b.live) × HasStory new c (with_epoch (with_record so_far made)))
Continues made old b new c (Err Failed) = (so_far : Story) → HasStory old b so_far → HasStory new c (with_record so_far made)
Continues made old b new c (Err (Stopped records)) = SameStory old b new c
Continues made old b new c (Err (EpochEnd epoch)) = SameStory old b new c

-- Its epoch ended; where a turnover failed or none was tried the story is as it was.
abbrev pub Renews : {T : Type 0} → DiskSeen → Memory → DiskSeen → Memory → Result T BookFault → Type 0
Renews old b new c (Ok done) = (so_far : Story) → HasStory old b so_far → HasStory new c (with_epoch so_far)
Renews old b new c (Err fault) = SameStory old b new c

-- A turnover keeps all but the synced entries, and notes that it was asked for.
pub record Turns (old new : BookSeen) : Type 0 where
  pub origin : (new.origin ≡ old.origin) ⊎ (new.origin ≡ record old.origin { turned_over = true })
  pub epoch : old.epoch ≤ new.epoch
  pub later : old.faults ≤ new.faults
  pub stopped : (records : ℕ) → old.stopped ≡ Some records → new.stopped ≡ Some records
  pub shut : old.shut ≡ true → new.shut ≡ true
  pub now : new.now ≡ old.now
  pub synced : SyncedOrNow old new
  pub ends : new.ends ≡ old.ends
  pub clears : new.clears ≡ old.clears

-- A turnover fails only where the count of faults rose; where none was tried the disk is as it was.
abbrev pub TurnCause : {T : Type 0} → DiskSeen → DiskSeen → Result T BookFault → Type 0
TurnCause old new (Ok done) = new.faults ≡ old.faults
TurnCause old new (Err Failed) = Rose old.faults new.faults
TurnCause old new (Err (Stopped records)) = new ≡ old
TurnCause old new (Err (EpochEnd epoch)) = new ≡ old

-- What is written stands before a journal's end: no other sector changes, as read or in an image of a later moment; nor does an earlier
-- moment, nor how many sectors there are, and a disk that tells goes on telling.
abbrev pub GoesOn : ℕ → DiskSeen → DiskSeen → Type 0
GoesOn end old new = Changed (λ i content. i < end) old new

-- At most so many moments more, on a disk that tells: each write and sync that answered Ok makes one.
abbrev pub AddsAtMost : ℕ → DiskSeen → DiskSeen → Type 0
AddsAtMost n old new = WhenTold old.told (λ _. length new.moments ≤ length old.moments + n)

-- All records of a running book are synced.
abbrev pub all_synced : Memory → Memory
all_synced b = record b { written = b.records; synced = b.records; kept = b.entries }

-- It is stopped; more may be written, and the rest is as it was.
abbrev pub IsStopped : Memory → Memory → Type 0
IsStopped old new = new ≡ record old { stopped = true; written = new.written }

-- A new book, of an epoch without records: the disk as it was handed in, as the opening began and as it ended, and now.
pub record IsOpened (given began opened disk : DiskSeen) (b : Memory) (live : Live) (entries : List Entry) : Type 0 where
  pub opens : Opens live entries given.told given.moments disk.moments
  pub since : began ≡ given
  pub ended : opened ≡ disk
  pub faults : disk.faults ≡ given.faults
  pub goes_on : GoesOn (journal_end live) given disk
  pub memory : b ≡ new_memory live entries (replicate 512 0) (length disk.moments - 1)
  pub story : HasStory disk b (first_story entries)

-- why no journal was made, and what is left of the disk
abbrev pub NotMade : Live → List Entry → DiskSeen → DiskSeen → OpenFault → Type 0
NotMade live entries given back (LastEpoch epoch) = ⊥
NotMade live entries given back FailedCall = Rose given.faults back.faults × GoesOn (journal_end live) given back × Opens live entries given.told given.moments back.moments
NotMade live entries given back NoMemory = back ≡ given

-- why a journal wasn't opened; exactly the last epoch has no next one
abbrev pub NotOpened : Live → List Entry → DiskSeen → DiskSeen → OpenFault → Type 0
NotOpened live entries given back (LastEpoch epoch) = (live.epoch ≡ last_epoch) × (epoch ≡ live.epoch) × (back ≡ given)
NotOpened live entries given back FailedCall = (live.epoch < last_epoch) × Rose given.faults back.faults × GoesOn (journal_end live) given back × Opens (next_of live) entries given.told given.moments back.moments
NotOpened live entries given back NoMemory = (live.epoch < last_epoch) × (back ≡ given)

-- The disk that a closed book gives back: it keeps what the book kept, with all records synced, and rests.
pub record IsClosed (old new : DiskSeen) (b : Memory) : Type 0 where
  pub running : b.stopped ≡ false
  pub story : SameStory old b new (all_synced b)
  pub rests : Rests new
  pub faults : new.faults ≡ old.faults
  pub goes_on : GoesOn (journal_end b.live) old new

-- or that of a book that couldn't be flushed
pub record IsGivenUp (began old new : DiskSeen) (b : Memory) : Type 0 where
  pub story : (so_far : Story) → HasStory old b so_far → ∥ ((written : ℕ) × Keeps new (record b { stopped = true; written = written }) so_far) ∥₁
  pub cause : Rose began.faults new.faults
  pub goes_on : GoesOn (journal_end b.live) old new
