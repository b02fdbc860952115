-- A journal book, as plain data.
use Rattle.std.specs.Prelude.{◌≡◌, ◌||◌, ℕ, ◌-◌, Bool, true, false, if◌then◌else◌, length, Option, Some, None, IsSome, refl}
use Rattle.key_state.specs.Books.{IsBook}
use Rattle.key_state.specs.declared.seen.BookSeen.{BookSeen}
use Rattle.vd_disk.specs.Disk.{DiskSeen}
use Rattle.vd_disk.specs.declared.disk.Disk.{Ghosts}
use Rattle.journal_core.specs.declared.book.JournalBook.{JournalBook}
use Rattle.journal_core.specs.Keeps.{Memory}
use Rattle.journal_core.specs.Seen.{is_over, book_seen}

abbrev pub memory_of : {D : Type 0} {G : Ghosts D} → JournalBook D G → Memory
memory_of {D} {G} b = record {
  live = b.live;
  entries = b.entries.items;
  sector = b.sector;
  place = b.place;
  count = b.count;
  records = b.records;
  written = b.written;
  synced = b.synced;
  stopped = b.stopped;
  ends = b.ends;
  clears = b.clears;
  asked = b.asked;
  kept = b.kept.value.items;
  start = length (G.seen b.opened.value).moments - 1;
  first_epoch = b.first_epoch.value;
  first_entries = b.first_entries.value.items;
}

-- its disk now, as the opening began, and as it ended
abbrev pub disk_of : {D : Type 0} {G : Ghosts D} → JournalBook D G → DiskSeen
disk_of {D} {G} b = G.seen b.disk

abbrev pub began_of : {D : Type 0} {G : Ghosts D} → JournalBook D G → DiskSeen
began_of {D} {G} b = G.seen b.began.value

abbrev pub opened_of : {D : Type 0} {G : Ghosts D} → JournalBook D G → DiskSeen
opened_of {D} {G} b = G.seen b.opened.value

-- all that callers of a book see of it
abbrev pub seen_of : {D : Type 0} {G : Ghosts D} → JournalBook D G → BookSeen
seen_of {D} {G} b = book_seen (began_of b) (opened_of b) (disk_of b) (memory_of b)

none_there : (o : Option ℕ) → o ≡ None → IsSome o → ⊥
none_there None is has = cc
none_there (Some n) is has = cc

shut_where : (stopped over : Bool) (records : ℕ) → IsSome (if stopped then Some records else None) → (stopped || over) ≡ true
shut_where true over records is = refl
shut_where false over records is = absurd (none_there None refl is)

-- It is a book.
pub journal_is_book : {D : Type 0} {G : Ghosts D} (b : JournalBook D G) → IsBook (seen_of b)
journal_is_book {D} {G} b = record {
  valid = b.valid;
  valid_synced = b.kept_valid;
  as_many = b.kept_each;
  stopped = λ is. shut_where b.stopped (is_over (memory_of b)) b.records is;
  ends_range = b.ends_range;
  clears_range = b.clears_range;
}
