use Rattle.std.proofs.Common.{arith, ◌+◌, ◌*◌}
use Rattle.worker_tally.specs.Dones.{has_called}
use Rattle.worker_tally.specs.Rows.{place_of, row_of}
use Rattle.worker_tally.specs.Tallies.{IsRowWithin}
use Rattle.worker_tally.proofs.RowSteps.{all_with}
use Rattle.worker_tally.proofs.TurnNumbers.{bytes_most, faults_most, prereads_most, reads_most, rereads_most, writes_most}
use Rattle.worker_tally.proofs.law.turns_stay_small.Goals as goal

pub returns-clause-done : goal.returns-clause-done
returns-clause-done c = λ n intervals size done t small few corrupt within. record {
  numbers = record {
    turns = omega (arith, within.numbers.turns);
    reads = omega (arith, within.numbers.reads, reads_most done);
    prereads = omega (arith, within.numbers.prereads, prereads_most done);
    rereads = omega (arith, within.numbers.rereads, rereads_most done);
    writes = omega (arith, within.numbers.writes, writes_most done);
    busy = omega (arith, within.numbers.busy);
    badskip = omega (arith, within.numbers.badskip);
    bytes = omega (arith, within.numbers.bytes, bytes_most size done small few);
    faults = omega (arith, within.numbers.faults, faults_most done);
    corrupt = omega (arith, within.numbers.corrupt);
  };
  rows = all_with (IsRowWithin (n * 268435456)) (IsRowWithin ((n + 1) * 268435456)) (row_of size done)
      (λ row here. record { turns = omega arith; reads = omega arith; writes = omega arith; bytes = omega arith })
      (λ row here. record {
        turns = omega arith;
        reads = omega (arith, reads_most done);
        writes = omega (arith, writes_most done);
        bytes = omega (arith, bytes_most size done small few);
      })
      (record { turns = omega arith; reads = omega arith; writes = omega arith; bytes = omega arith })
      (has_called done) (place_of intervals done.timed.after) t.rows within.rows;
}
