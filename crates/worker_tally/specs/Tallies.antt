-- What contracts see of a tally, and what each call adds to it.
use Rattle.std.specs.Prelude.{ℕ, ◌≡◌, ◌+◌, ◌*◌, ◌^◌, ◌≤◌, List, [], ◌∷◌, ◌++◌, All, sum_by}
use Rattle.block_verdict.specs.declared.finding.Finding.{Finding}
use Rattle.worker_tally.specs.Dones.{bytes_of, corrupt_of, faults_of, prereads_of, reads_of, rereads_of, writes_of}
use Rattle.worker_tally.specs.Rows.{rows_with}
use Rattle.worker_tally.specs.declared.done.Done.{Done}
use Rattle.worker_tally.specs.declared.done.Refusal.{Refusal}
use Rattle.worker_tally.specs.declared.done.Refusal.TheVariants.{Busy, Bad}
use Rattle.worker_tally.specs.declared.row.IntervalRow.{IntervalRow}
use Rattle.worker_tally.specs.declared.row.Intervals.{Intervals}
use Rattle.worker_tally.specs.declared.tally.Numbers.{Numbers}

-- all that contracts see of a tally: its numbers, its rows from the first interval on, its findings in the order in which they were
-- made, and for how many of both it has room
pub record Tallied : Type 0 where
  pub numbers : Numbers
  pub rows : List IntervalRow
  pub findings : List Finding
  pub row_room : ℕ
  pub finding_room : ℕ

abbrev pub no_numbers : Numbers
no_numbers = record { turns = 0; reads = 0; prereads = 0; rereads = 0; writes = 0; busy = 0; badskip = 0; bytes = 0; faults = 0; corrupt = 0 }

-- the numbers after a turn, in blocks of this size
abbrev pub numbers_with : ℕ → Done → Numbers → Numbers
numbers_with size done old = record {
  turns = old.turns + 1;
  reads = old.reads + reads_of done;
  prereads = old.prereads + prereads_of done;
  rereads = old.rereads + rereads_of done;
  writes = old.writes + writes_of done;
  busy = old.busy;
  badskip = old.badskip;
  bytes = old.bytes + bytes_of size done;
  faults = old.faults + faults_of done;
  corrupt = old.corrupt + corrupt_of done;
}

-- the numbers after a turn that had none of its blocks
abbrev pub numbers_without : Refusal → Numbers → Numbers
numbers_without Busy old = record old { turns = old.turns + 1; busy = old.busy + 1 }
numbers_without Bad old = record old { turns = old.turns + 1; badskip = old.badskip + 1 }

-- the tally after each call
abbrev pub with_done : Intervals → ℕ → Done → Tallied → Tallied
with_done intervals size done old = record old { numbers = numbers_with size done old.numbers; rows = rows_with intervals size done old.rows }

abbrev pub turned_away : Refusal → Tallied → Tallied
turned_away refusal old = record old { numbers = numbers_without refusal old.numbers }

abbrev pub with_finding : Finding → Tallied → Tallied
with_finding finding old = record old { findings = old.findings ++ finding ∷ [] }

-- each number is at most this bound
pub record AreWithin (bound : ℕ) (numbers : Numbers) : Type 0 where
  pub turns : numbers.turns ≤ bound
  pub reads : numbers.reads ≤ bound
  pub prereads : numbers.prereads ≤ bound
  pub rereads : numbers.rereads ≤ bound
  pub writes : numbers.writes ≤ bound
  pub busy : numbers.busy ≤ bound
  pub badskip : numbers.badskip ≤ bound
  pub bytes : numbers.bytes ≤ bound
  pub faults : numbers.faults ≤ bound
  pub corrupt : numbers.corrupt ≤ bound

-- each number of a row but the time is at most this bound
pub record IsRowWithin (bound : ℕ) (row : IntervalRow) : Type 0 where
  pub turns : row.turns ≤ bound
  pub reads : row.reads ≤ bound
  pub writes : row.writes ≤ bound
  pub bytes : row.bytes ≤ bound

-- each number of a tally and of its rows is at most this bound, but for the times
pub record IsWithin (bound : ℕ) (tally : Tallied) : Type 0 where
  pub numbers : AreWithin bound tally.numbers
  pub rows : All (IsRowWithin bound) tally.rows

-- a tally that may take one turn more
abbrev pub IsSmall : Tallied → Type 0
IsSmall tally = IsWithin (2 ^ 63) tally

-- a tally that at most so many turns may have made: one adds at most 2^28 to each number
abbrev pub IsUpTo : ℕ → Tallied → Type 0
IsUpTo turns tally = IsWithin (turns * 2 ^ 28) tally

-- the rows have together what the numbers have
pub record AddsUp (tally : Tallied) : Type 0 where
  pub reads : sum_by (λ (row : IntervalRow). row.reads) tally.rows ≡ tally.numbers.reads
  pub writes : sum_by (λ (row : IntervalRow). row.writes) tally.rows ≡ tally.numbers.writes
  pub bytes : sum_by (λ (row : IntervalRow). row.bytes) tally.rows ≡ tally.numbers.bytes

-- the turns of all rows
abbrev pub turns_in : List IntervalRow → ℕ
turns_in rows = sum_by (λ (row : IntervalRow). row.turns) rows
