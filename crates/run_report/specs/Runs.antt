-- What a run prints once it has ended.
use Rattle.std.specs.Prelude.{ℕ, ◌≡◌, ◌⊎◌, ◌+◌, ◌-◌, ◌^◌, ◌<◌, min, max, List, [], ◌∷◌, All, Bool, nat_eq, nat_lt, if◌then◌else◌, Option, Some, None, IfSome, codes, decimal, length, slice_get, slice_index_or}
use Rattle.std.specs.List.{filter, flat_map, fold, range_with_len, sum_by, zip}
use Rattle.block_verdict.specs.declared.finding.Finding.{Finding}
use Rattle.plan_types.specs.declared.run.RunPlan.{RunPlan}
use Rattle.plan_types.specs.declared.run.WorkerPlan.{WorkerPlan}
use Rattle.plan_types.specs.declared.store.StorePlan.{StorePlan}
use Rattle.worker_tally.specs.Rows.{empty_row}
use Rattle.worker_tally.specs.Tallies.{Tallied}
use Rattle.worker_tally.specs.declared.row.IntervalRow.{IntervalRow}
use Rattle.run_report.specs.Findings.{IsPrintable, finding_text}
use Rattle.run_report.specs.Plans.{name_of}
use Rattle.run_report.specs.Texts.{◌⧺◌}
use Rattle.run_report.specs.declared.run_sums.Group.{Group}
use Rattle.run_report.specs.declared.run_sums.Group.TheVariants as group
use Rattle.run_report.specs.declared.run_sums.RowSums.{RowSums}
use Rattle.run_report.specs.declared.run_sums.Totals.{Totals}

-- a worker with its tally
abbrev pub Worked : Type 0
Worked = WorkerPlan × Tallied

abbrev pub title_text : RunPlan → List ℕ
title_text run = codes "run " ⧺ decimal run.number ⧺ codes " " ⧺ run.name ⧺ codes "\n"

-- the findings of a worker, each with its store's name
abbrev pub found_text : Option StorePlan → List Finding → List ℕ
found_text None findings = []
found_text (Some store) findings = flat_map (finding_text store.id) findings

unfoldable pub findings_text : List StorePlan → Worked → List ℕ
findings_text stores one = found_text (slice_get stores one.0.store) one.1.findings

-- the row at a place of a tally, which is empty behind its last one
abbrev pub row_at : ℕ → Tallied → IntervalRow
row_at place tally = slice_index_or tally.rows place empty_row

-- the rows at a place of all tallies, added up
unfoldable pub row_sums : ℕ → List Tallied → RowSums
row_sums place tallies = record {
  turns = sum_by (λ tally. (row_at place tally).turns) tallies;
  reads = sum_by (λ tally. (row_at place tally).reads) tallies;
  writes = sum_by (λ tally. (row_at place tally).writes) tallies;
  bytes = sum_by (λ tally. (row_at place tally).bytes) tallies;
  micros = sum_by (λ tally. (row_at place tally).micros) tallies;
}

-- the sum of times is held at the greatest u64
abbrev pub row_text : ℕ → RowSums → List ℕ
row_text number sums =
    codes "interval " ⧺ decimal number ⧺ codes " reads " ⧺ decimal sums.reads ⧺ codes " writes " ⧺ decimal sums.writes ⧺ codes " bytes "
    ⧺ decimal sums.bytes ⧺ codes " micros " ⧺ decimal (min sums.micros (2 ^ 64 - 1)) ⧺ codes "\n"

-- an interval has a line where a turn ended in it that called its device; the first is number 1
unfoldable pub interval_text : List Tallied → ℕ → List ℕ
interval_text tallies place =
    if nat_lt 0 (row_sums place tallies).turns then row_text (place + 1) (row_sums place tallies) else []

-- how many rows the longest tally has
abbrev pub most_rows : List Tallied → ℕ
most_rows tallies = fold (λ most tally. max most (length tally.rows)) 0 tallies

abbrev pub intervals_text : List Tallied → List ℕ
intervals_text tallies = flat_map (interval_text tallies) (range_with_len 0 (most_rows tallies))

-- the numbers of workers, added up, and how many workers there are
unfoldable pub totals_of : List Worked → Totals
totals_of worked = record {
  workers = length worked;
  turns = sum_by (λ one. one.1.numbers.turns) worked;
  reads = sum_by (λ one. one.1.numbers.reads) worked;
  prereads = sum_by (λ one. one.1.numbers.prereads) worked;
  rereads = sum_by (λ one. one.1.numbers.rereads) worked;
  writes = sum_by (λ one. one.1.numbers.writes) worked;
  busy = sum_by (λ one. one.1.numbers.busy) worked;
  badskip = sum_by (λ one. one.1.numbers.badskip) worked;
  bytes = sum_by (λ one. one.1.numbers.bytes) worked;
  faults = sum_by (λ one. one.1.numbers.faults) worked;
  corrupt = sum_by (λ one. one.1.numbers.corrupt) worked;
}

-- whether a worker is one of a slave, or of the store at a place of the plan
abbrev pub is_of : Group → WorkerPlan → Bool
is_of (group.Slave number) worker = nat_eq worker.slave number
is_of (group.Store place) worker = nat_eq worker.store place

abbrev pub group_totals : Group → List Worked → Totals
group_totals group worked = totals_of (filter (λ one. is_of group one.0) worked)

abbrev pub slave_line_text : ℕ → Totals → List ℕ
slave_line_text number totals =
    codes "slave " ⧺ decimal number ⧺ codes " workers " ⧺ decimal totals.workers ⧺ codes " turns " ⧺ decimal totals.turns ⧺ codes "\n"

unfoldable pub slave_text : List Worked → ℕ → List ℕ
slave_text worked number = slave_line_text number (group_totals (group.Slave number) worked)

abbrev pub blocks_text : Totals → List ℕ
blocks_text totals =
    codes "turns " ⧺ decimal totals.turns ⧺ codes " reads " ⧺ decimal totals.reads ⧺ codes " prereads " ⧺ decimal totals.prereads
    ⧺ codes " rereads " ⧺ decimal totals.rereads ⧺ codes " writes " ⧺ decimal totals.writes

abbrev pub errors_text : Totals → List ℕ
errors_text totals =
    codes "busy " ⧺ decimal totals.busy ⧺ codes " badskip " ⧺ decimal totals.badskip ⧺ codes " bytes " ⧺ decimal totals.bytes ⧺ codes " faults "
    ⧺ decimal totals.faults ⧺ codes " corrupt " ⧺ decimal totals.corrupt

abbrev pub total_text : List ℕ → Totals → List ℕ
total_text name totals = codes "total " ⧺ name ⧺ codes " " ⧺ blocks_text totals ⧺ codes " " ⧺ errors_text totals ⧺ codes "\n"

-- a store has a line where it has a worker
abbrev pub total_or_none : List ℕ → Totals → List ℕ
total_or_none name totals = if nat_lt 0 totals.workers then total_text name totals else []

unfoldable pub store_total_text : List StorePlan → List Worked → ℕ → List ℕ
store_total_text stores worked place = total_or_none (name_of (slice_get stores place)) (group_totals (group.Store place) worked)

-- the findings, worker by worker; the intervals; the slaves from number 1 on; the stores in order of definition
abbrev pub worked_text : List StorePlan → RunPlan → List Tallied → List ℕ
worked_text stores run tallies =
    flat_map (findings_text stores) (zip run.workers tallies) ⧺ intervals_text tallies
    ⧺ flat_map (slave_text (zip run.workers tallies)) (range_with_len 1 run.slaves)
    ⧺ flat_map (store_total_text stores (zip run.workers tallies)) (range_with_len 0 (length stores))

-- A run with its workers' tallies, in their order. Where no worker ran there are none, and nothing follows its name.
abbrev pub run_text : List StorePlan → RunPlan → List Tallied → List ℕ
run_text stores run [] = title_text run
run_text stores run (tally ∷ tallies) = title_text run ⧺ worked_text stores run (tally ∷ tallies)

-- a worker's store is there, and each of its findings has a line
pub record PrintsFindings (stores : List StorePlan) (one : Worked) : Type 0 where
  pub known : one.0.store < length stores
  pub printable : IfSome (slice_get stores one.0.store) (λ store. All (IsPrintable store.id) one.1.findings)

-- one tally for each worker, or none
pub record PrintsRun (stores : List StorePlan) (run : RunPlan) (tallies : List Tallied) : Type 0 where
  pub many : (tallies ≡ []) ⊎ (length tallies ≡ length run.workers)
  pub each : All (PrintsFindings stores) (zip run.workers tallies)
