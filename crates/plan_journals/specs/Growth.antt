-- What a command that opens and closes journals leaves of the kept disks.
use Rattle.std.specs.Prelude.{◌≡◌, ◌⊎◌, ℕ, ◌≤◌, List, [], ◌∷◌, ⊤, Option, Some, None, slice_get, IsTrue}
use Rattle.key_state.specs.declared.seen.BookSeen.{BookSeen}
use Rattle.vd_outside.specs.Causes.{Rose}
use Rattle.vd_disk.specs.Disk.{DiskSeen, Rests}
use Rattle.journal_core.specs.Calls.{GoesOn}
use Rattle.journal_core.specs.History.{HistoryOf, closed}
use Rattle.journal_core.specs.Keeps.{Story}
use Rattle.journal_core.specs.Opening.{Opens}
use Rattle.journal_layout.specs.Recovery.{journal_end}
use Rattle.plan_types.specs.declared.store.StorePlan.{StorePlan}
use Rattle.vd_yard.specs.Kept.{Kept, kept_at}
use Rattle.vd_yard.specs.Yard.{YardSeen, StaysThere}
use Rattle.plan_journals.specs.Open.{CameFrom, IsHanded, IsOpenedAs, Start, StillTells, live_of}

-- A disk keeps the history of a book, with some story of it; how many records a stop can't take back isn't said. And so that all records of
-- its epoch stay.
abbrev pub HasHistory : BookSeen → DiskSeen → Type 0
HasHistory b disk = ∥ ((so_far : Story) × (records : ℕ) × (least : ℕ) × HistoryOf b so_far records least disk) ∥₁

abbrev pub HasWholeHistory : BookSeen → DiskSeen → Type 0
HasWholeHistory b disk = ∥ ((so_far : Story) × (records : ℕ) × HistoryOf b so_far records records disk) ∥₁

-- What is left of the disk of a journal that was to be opened so, where this was kept at its path. It was open, still tells, and keeps the
-- history of its book in every image since the opening ended. Or a call of the disk failed as it was opened, and each image since it was handed out, of
-- a disk at rest then, gives what that gave, no journal where epoch 0 is made, or the opened epoch. Or it is the disk as it was handed out.
pub data Journaled (start : Start) (kept : Option DiskSeen) (disk : DiskSeen) : Type 0 where
  was_open : (b : BookSeen) → IsOpenedAs start b.origin → CameFrom kept b → b.faults ≡ disk.faults → StillTells b disk → HasHistory b disk → Journaled start kept disk
  not_opened : (handed : DiskSeen) → IsHanded kept handed → Rose handed.faults disk.faults → GoesOn (journal_end (live_of start)) handed disk
      → Opens (live_of start) start.entries handed.told handed.moments disk.moments → Journaled start kept disk
  given_back : IsHanded kept disk → Journaled start kept disk

-- At a path is kept what is left of one of these journals.
pub record HasJournal (starts : List Start) (old new : Kept DiskSeen) (path : List ℕ) : Type 0 where
  pub place : ℕ
  pub start : Start
  pub there : slice_get starts place ≡ Some start
  pub its_path : path ≡ start.journal
  pub disk : DiskSeen
  pub kept : kept_at new path ≡ Some disk
  pub journaled : Journaled start (kept_at old path) disk

-- At a path is kept the disk that was kept there, but that its count of faults may have risen.
pub record OnlyRead (old new : Kept DiskSeen) (path : List ℕ) : Type 0 where
  pub was : DiskSeen
  pub had : kept_at old path ≡ Some was
  pub disk : DiskSeen
  pub kept : kept_at new path ≡ Some disk
  pub same : disk ≡ record was { faults = disk.faults }
  pub later : was.faults ≤ disk.faults

-- A path has what it had, what is left of one of these journals, or a disk that was only read.
pub data Becomes (starts : List Start) (old new : Kept DiskSeen) (path : List ℕ) : Type 0 where
  stays : kept_at new path ≡ kept_at old path → Becomes starts old new path
  is_journal : HasJournal starts old new path → Becomes starts old new path
  was_read : OnlyRead old new path → Becomes starts old new path

-- the same of each path
abbrev pub ChangesOnlyJournals : List Start → Kept DiskSeen → Kept DiskSeen → Type 0
ChangesOnlyJournals starts old new = (path : List ℕ) → Becomes starts old new path

-- At a path is kept the disk as it was handed out.
pub record IsAsHanded (old new : Kept DiskSeen) (path : List ℕ) : Type 0 where
  pub disk : DiskSeen
  pub hands : IsHanded (kept_at old path) disk
  pub kept : kept_at new path ≡ Some disk

-- No disk's sectors were written: the kept disks are as they were, or the one at a path as it was handed out.
abbrev pub IsUnwritten : Kept DiskSeen → Kept DiskSeen → List ℕ → Type 0
IsUnwritten old new path = (new ≡ old) ⊎ IsAsHanded old new path

-- The journal of a book that was opened so stands closed on this disk: it is at rest and all records stay. The images since the opening
-- ended and the closing are those of one book, and so have one end of the opening.
pub record ClosedWell (start : Start) (kept : Option DiskSeen) (b : BookSeen) (disk : DiskSeen) : Type 0 where
  pub opened : IsOpenedAs start b.origin
  pub came : CameFrom kept b
  pub running : b.stopped ≡ None
  pub faults : disk.faults ≡ b.faults
  pub telling : StillTells b disk
  pub whole : HasWholeHistory (closed b disk) disk
  pub rests : Rests disk

-- At a journal's path is kept the disk on which this book's journal stands closed.
pub record IsKeptClosed (first now : Kept DiskSeen) (start : Start) (b : BookSeen) : Type 0 where
  pub disk : DiskSeen
  pub kept : kept_at now start.journal ≡ Some disk
  pub well : ClosedWell start (kept_at first start.journal) b disk

-- the same of each of these books
abbrev pub AreKeptClosed : Kept DiskSeen → Kept DiskSeen → List Start → List BookSeen → Type 0
AreKeptClosed first now starts [] = ⊤
AreKeptClosed first now [] (b ∷ books) = ⊥
AreKeptClosed first now (start ∷ starts) (b ∷ books) = IsKeptClosed first now start b × AreKeptClosed first now starts books

-- the count of faults of what is kept at a path; 0 where nothing is
abbrev pub faults_of : Option DiskSeen → ℕ
faults_of None = 0
faults_of (Some disk) = disk.faults

-- A path is that of none of these stores' journals.
abbrev pub IsNoneOf : List ℕ → List StorePlan → Type 0
IsNoneOf path stores = (place : ℕ) (store : StorePlan) → slice_get stores place ≡ Some store → path ≡ store.journal → ⊥

-- The count of faults of the disk that is kept at a path rose.
pub record DiskRose (old new : Kept DiskSeen) (path : List ℕ) : Type 0 where
  pub disk : DiskSeen
  pub kept : kept_at new path ≡ Some disk
  pub rose : Rose (faults_of (kept_at old path)) disk.faults

-- That of the journal of one of these stores did.
pub record SomeRose (stores : List StorePlan) (old new : Kept DiskSeen) : Type 0 where
  pub place : ℕ
  pub store : StorePlan
  pub there : slice_get stores place ≡ Some store
  pub rose : DiskRose old new store.journal

-- what a call that opens or closes journals leaves of a yard besides its disks and what is out
pub record LeavesRest (old new : YardSeen) : Type 0 where
  pub tells : new.tells ≡ old.tells
  pub later : old.faults ≤ new.faults
  pub counts : new.counts ≡ old.counts
  pub contents : new.contents ≡ old.contents
  pub willing : IsTrue old.willing → IsTrue new.willing
  pub files : StaysThere old.files new.files
