-- What contracts see of a book without a journal.
use Rattle.std.specs.Prelude.{◌≡◌, ℕ, List, length, replicate, false, None, refl}
use Rattle.key_state.specs.Books.{quiet_origin, IsBook}
use Rattle.key_state.specs.declared.entry.Entry.{Entry}
use Rattle.key_state.specs.declared.entry.Entry.TheVariants.{Settled}
use Rattle.key_state.specs.declared.seen.BookSeen.{BookSeen}
use Rattle.key_state.specs.declared.quiet.QuietBook.{QuietBook}

-- a book that was opened over nothing, never fails, and has these entries, synced too
abbrev pub quiet : List Entry → ℕ → ℕ → BookSeen
quiet entries ends clears = record {
  origin = quiet_origin (length entries);
  epoch = 0;
  faults = 0;
  stopped = None;
  shut = false;
  now = entries;
  synced = entries;
  ends = ends;
  clears = clears;
}

abbrev pub quiet_seen : QuietBook → BookSeen
quiet_seen book = quiet book.entries.items book.ends book.clears

-- It is a book.
pub quiet_is_book : (book : QuietBook) → IsBook (quiet_seen book)
quiet_is_book book = record {
  valid = book.valid;
  valid_synced = book.valid;
  as_many = refl;
  stopped = λ is. cc;
  ends_range = book.ends_range;
  clears_range = book.clears_range;
}
