-- Open journals, as plain data: how each was opened, what its book was opened over, and what is out with them.
use Rattle.std.specs.Prelude.{◌≡◌, ℕ, ◌≤◌, false, IsTrue, List, [], ◌∷◌, ⊤, Option, Some, None, IsSome, map, replicate}
use Rattle.key_state.specs.Books.{Follows}
use Rattle.key_state.specs.declared.entry.Entry.{Entry}
use Rattle.key_state.specs.declared.entry.Entry.TheVariants.{Settled}
use Rattle.key_state.specs.declared.seen.BookSeen.{BookSeen}
use Rattle.key_state.specs.declared.seen.Origin.{Origin}
use Rattle.vd_disk.specs.Disk.{DiskSeen, Extends, IsImage, IsTale, Sectors, WhenTold, present}
use Rattle.vd_disk.specs.declared.disk.Disk.{Ghosts}
use Rattle.journal_core.specs.declared.book.JournalBook.{JournalBook}
use Rattle.journal_core.specs.Book.{memory_of, disk_of, began_of, opened_of}
use Rattle.journal_core.specs.Keeps.{Memory}
use Rattle.journal_core.specs.Seen.{book_seen}
use Rattle.journal_layout.specs.declared.live.Live.{Live}
use Rattle.journal_layout.specs.Recovery.{Gives, Recovers}
use Rattle.plan_types.specs.declared.store.StorePlan.{StorePlan}
use Rattle.vd_base.specs.declared.geometry.StoreId.{StoreId}
use Rattle.vd_yard.specs.Hands.{HandsOut}
use Rattle.vd_yard.specs.Kept.{Kept, kept_at}
use Rattle.vd_yard.specs.Out.{Out, AtDisk, one_more}
use Rattle.vd_yard.specs.Yard.{YardSeen}

-- how a journal is opened: its path, the store it is of, the epoch that then begins, and the entries with which that begins
pub record Start : Type 0 where
  pub journal : List ℕ
  pub id : StoreId
  pub log_sectors : ℕ
  pub epoch : ℕ
  pub entries : List Entry

-- what the gate of that epoch says
abbrev pub live_of : Start → Live
live_of start = record { version = 2; epoch = start.epoch; id = start.id; log_sectors = start.log_sectors }

-- It is that of this store's journal.
pub record IsStartOf (store : StorePlan) (start : Start) : Type 0 where
  pub its_path : start.journal ≡ store.journal
  pub its_id : start.id ≡ store.id

-- the entries of a store none of whose blocks was ever written
abbrev pub never_written : StorePlan → List Entry
never_written store = replicate store.id.geometry.blocks (Settled 0)

-- a store's journal that is made anew, with so many log sectors in an area; and those of stores
abbrev pub new_start : ℕ → StorePlan → Start
new_start logs store = record { journal = store.journal; id = store.id; log_sectors = logs; epoch = 0; entries = never_written store }

abbrev pub new_starts : ℕ → List StorePlan → List Start
new_starts logs stores = map (new_start logs) stores

-- As the opening ended each image that its disk told gives the opened epoch, with its entries and no records.
abbrev pub GivesOpened : Start → Origin → Type 0
GivesOpened start origin =
    WhenTold origin.told (λ _. ∥ ((image : Sectors) → IsImage (present origin.opened) image → Gives image start.id (Recovers (live_of start) [] start.entries)) ∥₁)

-- A book was opened so, and no turnover was asked for since.
pub record IsOpenedAs (start : Start) (origin : Origin) : Type 0 where
  pub its_id : origin.id ≡ Some start.id
  pub its_logs : origin.log_sectors ≡ start.log_sectors
  pub its_epoch : origin.epoch ≡ start.epoch
  pub its_entries : origin.entries ≡ start.entries
  pub only : GivesOpened start origin
  pub unasked : origin.turned_over ≡ false

-- What a disk tells fits together, and one that tells nothing has no moments.
pub record FitsTogether (disk : DiskSeen) : Type 0 where
  pub tale : WhenTold disk.told (IsTale disk.sectors disk.moments)
  pub untold : disk.told ≡ None → disk.moments ≡ []

-- A disk is one that was handed out where this was kept.
pub record IsHanded (kept : Option DiskSeen) (handed : DiskSeen) : Type 0 where
  pub hands : HandsOut kept handed
  pub fits : FitsTogether handed

-- Its disk is one that was handed out where this was kept: as the opening ended moments had only come behind those that it had then, and
-- its count of faults is no lower.
pub record CameFrom (kept : Option DiskSeen) (b : BookSeen) : Type 0 where
  pub handed : DiskSeen
  pub hands : IsHanded kept handed
  pub its_moments : b.origin.began ≡ handed.moments
  pub its_sectors : b.origin.told ≡ handed.told
  pub its_faults : b.origin.faults ≡ handed.faults
  pub grown : Extends handed.moments b.origin.opened
  pub later : handed.faults ≤ b.faults

-- Each of these books, one for each of the first stores, was opened so as its store's journal, over what was handed out where this was
-- kept.
abbrev pub AreFrom : Kept DiskSeen → List StorePlan → List Start → List BookSeen → Type 0
AreFrom kept stores starts [] = ⊤
AreFrom kept (store ∷ stores) (start ∷ starts) (b ∷ books) =
    IsStartOf store start × IsOpenedAs start b.origin × CameFrom (kept_at kept store.journal) b × AreFrom kept stores starts books
AreFrom kept stores starts books = ⊥

-- A disk still tells, where that of the book told as its opening began, and what it tells fits together.
pub record StillTells (b : BookSeen) (disk : DiskSeen) : Type 0 where
  pub tells : IsSome b.origin.told → IsSome disk.told
  pub fits : FitsTogether disk

-- A book as its opening ended: without records, and the count of its disk's faults hasn't changed.
pub record IsFresh (start : Start) (b : BookSeen) : Type 0 where
  pub now : b.now ≡ start.entries
  pub synced : b.synced ≡ start.entries
  pub epoch : b.epoch ≡ start.epoch
  pub faults : b.faults ≡ b.origin.faults
  pub ends : b.ends ≡ 0
  pub clears : b.clears ≡ 0
  pub running : b.stopped ≡ None
  pub ready : b.shut ≡ false

-- A journal was opened so just now, over the disk that the yard handed out for its path.
pub record IsOpenedNow (yard : YardSeen) (start : Start) (b : BookSeen) : Type 0 where
  pub opened : IsOpenedAs start b.origin
  pub fresh : IsFresh start b
  pub came : IsTrue yard.tells.keeps_disks → CameFrom (kept_at yard.disks start.journal) b

-- These are the first of such journals, in order, each opened just now.
abbrev pub AreOpenedNow : YardSeen → List Start → List BookSeen → Type 0
AreOpenedNow yard starts [] = ⊤
AreOpenedNow yard [] (b ∷ books) = ⊥
AreOpenedNow yard (start ∷ starts) (b ∷ books) = IsOpenedNow yard start b × AreOpenedNow yard starts books

-- each of them is that of its store
abbrev pub AreStartsOf : List StorePlan → List Start → Type 0
AreStartsOf [] [] = ⊤
AreStartsOf (store ∷ stores) (start ∷ starts) = IsStartOf store start × AreStartsOf stores starts
AreStartsOf stores starts = ⊥

-- The journal of a store was made just now; and those of the first of the stores were.
abbrev pub IsMade : YardSeen → StorePlan → ℕ → BookSeen → Type 0
IsMade yard store logs b = IsOpenedNow yard (new_start logs store) b

abbrev pub AreMade : YardSeen → ℕ → List StorePlan → List BookSeen → Type 0
AreMade yard logs stores books = AreOpenedNow yard (new_starts logs stores) books

-- Each of the new books follows its own among the old ones.
abbrev pub AllFollow : List BookSeen → List BookSeen → Type 0
AllFollow [] [] = ⊤
AllFollow (old ∷ olds) (new ∷ news) = Follows old new × AllFollow olds news
AllFollow olds news = ⊥

-- an open journal: its disk as the opening began, as it ended and now, and what its book has in memory
pub record Held : Type 0 where
  pub began : DiskSeen
  pub opened : DiskSeen
  pub disk : DiskSeen
  pub memory : Memory

abbrev pub held_of : {D : Type 0} {G : Ghosts D} → JournalBook D G → Held
held_of {D} {G} book = record { began = began_of book; opened = opened_of book; disk = disk_of book; memory = memory_of book }

-- as callers of its book see it
abbrev pub seen_held : Held → BookSeen
seen_held held = book_seen held.began held.opened held.disk held.memory

-- what is out with the disk of each of these stores' journals besides
abbrev pub out_besides : Out → List StorePlan → Out
out_besides out [] = out
out_besides out (store ∷ stores) = out_besides (one_more out AtDisk store.journal) stores

-- The disks of these stores' journals are out.
pub data JournalsAreOut (out : Out) (stores : List StorePlan) : Type 0 where
  journals_are_out : (before : Out) → out ≡ out_besides before stores → JournalsAreOut out stores
