use Rattle.std.proofs.Common.{arith}
use Rattle.worker_tally.specs.Dones.{has_called}
use Rattle.worker_tally.specs.Rows.{place_of, row_of}
use Rattle.worker_tally.proofs.RowSteps.{length_with}
use Rattle.worker_tally.proofs.law.rows_fit.Goals as goal

pub returns : goal.returns
returns c = λ intervals size done t some few.
    length_with (has_called done) (row_of size done) (place_of intervals done.timed.after) intervals.many t.rows (omega arith) few
