-- Sums with one row more, or one worker, and how large they are.
use Rattle.std.specs.Prelude.{ℕ, ◌+◌, ◌-◌, ◌*◌, ◌^◌, ◌≤◌}
use Rattle.worker_tally.specs.declared.row.IntervalRow.{IntervalRow}
use Rattle.worker_tally.specs.declared.tally.Numbers.{Numbers}
use Rattle.run_report.specs.declared.run_sums.RowSums.{RowSums}
use Rattle.run_report.specs.declared.run_sums.Totals.{Totals}

abbrev pub with_row : RowSums → IntervalRow → RowSums
with_row sums row = record {
  turns = sums.turns + row.turns;
  reads = sums.reads + row.reads;
  writes = sums.writes + row.writes;
  bytes = sums.bytes + row.bytes;
  micros = sums.micros + row.micros;
}

abbrev pub with_numbers : Totals → Numbers → Totals
with_numbers totals numbers = record {
  workers = totals.workers + 1;
  turns = totals.turns + numbers.turns;
  reads = totals.reads + numbers.reads;
  prereads = totals.prereads + numbers.prereads;
  rereads = totals.rereads + numbers.rereads;
  writes = totals.writes + numbers.writes;
  busy = totals.busy + numbers.busy;
  badskip = totals.badskip + numbers.badskip;
  bytes = totals.bytes + numbers.bytes;
  faults = totals.faults + numbers.faults;
  corrupt = totals.corrupt + numbers.corrupt;
}

-- sums of at most so many rows, or workers, of numbers below 2^64
pub record AreRowsUpTo (n : ℕ) (sums : RowSums) : Type 0 where
  pub turns : sums.turns ≤ n * (2 ^ 64 - 1)
  pub reads : sums.reads ≤ n * (2 ^ 64 - 1)
  pub writes : sums.writes ≤ n * (2 ^ 64 - 1)
  pub bytes : sums.bytes ≤ n * (2 ^ 64 - 1)
  pub micros : sums.micros ≤ n * (2 ^ 64 - 1)

pub record AreTotalsUpTo (n : ℕ) (totals : Totals) : Type 0 where
  pub workers : totals.workers ≤ n
  pub turns : totals.turns ≤ n * (2 ^ 64 - 1)
  pub reads : totals.reads ≤ n * (2 ^ 64 - 1)
  pub prereads : totals.prereads ≤ n * (2 ^ 64 - 1)
  pub rereads : totals.rereads ≤ n * (2 ^ 64 - 1)
  pub writes : totals.writes ≤ n * (2 ^ 64 - 1)
  pub busy : totals.busy ≤ n * (2 ^ 64 - 1)
  pub badskip : totals.badskip ≤ n * (2 ^ 64 - 1)
  pub bytes : totals.bytes ≤ n * (2 ^ 64 - 1)
  pub faults : totals.faults ≤ n * (2 ^ 64 - 1)
  pub corrupt : totals.corrupt ≤ n * (2 ^ 64 - 1)
