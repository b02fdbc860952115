-- The rows of a run's report.
use Rattle.std.specs.Prelude.{ℕ, zero, suc, ◌+◌, ◌-◌, ◌/◌, ◌^◌, min, cond, List, [], ◌∷◌}
use Rattle.worker_tally.specs.Dones.{reads_of, writes_of, bytes_of, has_called}
use Rattle.worker_tally.specs.declared.done.Done.{Done}
use Rattle.worker_tally.specs.declared.row.IntervalRow.{IntervalRow}
use Rattle.worker_tally.specs.declared.row.Intervals.{Intervals}

abbrev pub empty_row : IntervalRow
empty_row = record { turns = 0; reads = 0; writes = 0; bytes = 0; micros = 0 }

-- the row of the interval in which a time falls: the first one before the start, and the last one behind the end
abbrev pub place_of : Intervals → ℕ → ℕ
place_of intervals time = min ((time - intervals.start) / intervals.length) (intervals.many - 1)

-- what a turn adds to its row, in blocks of this size
abbrev pub row_of : ℕ → Done → IntervalRow
row_of size done = record {
  turns = 1;
  reads = reads_of done;
  writes = writes_of done;
  bytes = bytes_of size done;
  micros = done.timed.after - done.timed.before;
}

-- both in one row; the sum of times is held at the greatest u64
abbrev pub both : IntervalRow → IntervalRow → IntervalRow
both one other = record {
  turns = one.turns + other.turns;
  reads = one.reads + other.reads;
  writes = one.writes + other.writes;
  bytes = one.bytes + other.bytes;
  micros = min (one.micros + other.micros) (2 ^ 64 - 1);
}

-- the rows with this much more at one place; empty ones come before it where there were none
abbrev pub row_added : ℕ → IntervalRow → List IntervalRow → List IntervalRow
row_added zero more [] = both empty_row more ∷ []
row_added zero more (row ∷ rows) = both row more ∷ rows
row_added (suc place) more [] = empty_row ∷ row_added place more []
row_added (suc place) more (row ∷ rows) = row ∷ row_added place more rows

-- the rows after a turn, which counts where it made a transfer
abbrev pub rows_with : Intervals → ℕ → Done → List IntervalRow → List IntervalRow
rows_with intervals size done rows = cond (has_called done) (row_added (place_of intervals done.timed.after) (row_of size done) rows) rows
