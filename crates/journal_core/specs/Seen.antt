-- What contracts see of a journal book.
use Rattle.std.specs.Prelude.{ℕ, ◌*◌, ◌==◌, ◌&&◌, ◌||◌, Bool, if◌then◌else◌, nat_le, Option, Some, None}
use Rattle.key_state.specs.declared.seen.Origin.{Origin}
use Rattle.key_state.specs.declared.seen.BookSeen.{BookSeen}
use Rattle.vd_disk.specs.Disk.{DiskSeen}
use Rattle.journal_core.specs.Keeps.{Memory}

-- the greatest epoch: 2^63 - 1
abbrev pub last_epoch : ℕ
last_epoch = 9223372036854775807

-- Its log is full in the last epoch.
abbrev pub is_over : Memory → Bool
is_over b = (b.live.epoch == last_epoch) && nat_le (30 * b.live.log_sectors) b.records

abbrev pub stopped_at : Memory → Option ℕ
stopped_at b = if b.stopped then Some b.records else None

-- what it was opened over, by the disk as the opening began and as it ended
abbrev pub origin_of : DiskSeen → DiskSeen → Memory → Origin
origin_of began opened b = record {
  began = began.moments;
  opened = opened.moments;
  told = began.told;
  faults = began.faults;
  id = Some b.live.id;
  log_sectors = b.live.log_sectors;
  epoch = b.first_epoch;
  entries = b.first_entries;
  turned_over = b.asked;
}

abbrev pub book_seen : DiskSeen → DiskSeen → DiskSeen → Memory → BookSeen
book_seen began opened disk b = record {
  origin = origin_of began opened b;
  epoch = b.live.epoch;
  faults = disk.faults;
  stopped = stopped_at b;
  shut = b.stopped || is_over b;
  now = b.entries;
  synced = b.kept;
  ends = b.ends;
  clears = b.clears;
}
