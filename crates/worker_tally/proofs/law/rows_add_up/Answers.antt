use Rattle.std.proofs.Common.{arith, refl}
use Rattle.worker_tally.specs.Dones.{has_called}
use Rattle.worker_tally.specs.Rows.{place_of, row_of}
use Rattle.worker_tally.specs.declared.row.IntervalRow.{IntervalRow}
use Rattle.worker_tally.proofs.RowSteps.{sum_with}
use Rattle.worker_tally.proofs.TurnNumbers.{bytes_called, reads_called, writes_called}
use Rattle.worker_tally.proofs.law.rows_add_up.Goals as goal

pub returns-clause-done : goal.returns-clause-done
returns-clause-done c = λ intervals size done t adds. record {
  reads = omega (
    arith,
    adds.reads,
    reads_called done,
    sum_with (λ (row : IntervalRow). row.reads) (row_of size done) refl (λ row. refl) (has_called done) (place_of intervals done.timed.after) t.rows,
  );
  writes = omega (
    arith,
    adds.writes,
    writes_called done,
    sum_with (λ (row : IntervalRow). row.writes) (row_of size done) refl (λ row. refl) (has_called done) (place_of intervals done.timed.after) t.rows,
  );
  bytes = omega (
    arith,
    adds.bytes,
    bytes_called size done,
    sum_with (λ (row : IntervalRow). row.bytes) (row_of size done) refl (λ row. refl) (has_called done) (place_of intervals done.timed.after) t.rows,
  );
}

pub returns-clause-done_turns : goal.returns-clause-done_turns
returns-clause-done_turns c = λ intervals size done t.
    sum_with (λ (row : IntervalRow). row.turns) (row_of size done) refl (λ row. refl) (has_called done) (place_of intervals done.timed.after) t.rows
