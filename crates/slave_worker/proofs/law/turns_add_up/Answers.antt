use Rattle.slave_worker.proofs.Counts.{faults_found, rows_but_one, rows_turns}
use Rattle.slave_worker.proofs.Rises.{faults_counted, rows_add, writes_good}
use Rattle.slave_worker.proofs.Sentences.{corrupt_bad, corrupt_same, noted_once, reads_good, writes_ended}
use Rattle.slave_worker.proofs.Turnwise.{bytes_moved, prereads_turns, reads_turns, refusals_met, rereads_turns}
use Rattle.slave_worker.proofs.law.turns_add_up.Goals as goal

pub returns-clause-writes : goal.returns-clause-writes
returns-clause-writes c = writes_ended c.rows_add_up.ensures.done_turns

pub returns-clause-corrupt : goal.returns-clause-corrupt
returns-clause-corrupt c = corrupt_bad c.rows_add_up.ensures.done_turns

pub returns-clause-no_more : goal.returns-clause-no_more
returns-clause-no_more c = corrupt_same c.rows_add_up.ensures.done_turns

pub returns-clause-reads : goal.returns-clause-reads
returns-clause-reads c = reads_good c.rows_add_up.ensures.done_turns

pub returns-clause-notes : goal.returns-clause-notes
returns-clause-notes c = noted_once c.rows_add_up.ensures.done_turns

pub returns-clause-findings : goal.returns-clause-findings
returns-clause-findings c = faults_found c.rows_add_up.ensures.done_turns

pub returns-clause-rows : goal.returns-clause-rows
returns-clause-rows c = rows_turns c.rows_add_up.ensures.done_turns

pub returns-clause-rows_but_one : goal.returns-clause-rows_but_one
returns-clause-rows_but_one c = rows_but_one c.rows_add_up.ensures.done_turns

pub returns-clause-good_writes : goal.returns-clause-good_writes
returns-clause-good_writes c = writes_good

pub returns-clause-faults : goal.returns-clause-faults
returns-clause-faults c = faults_counted c.rows_add_up.ensures.done_turns

pub returns-clause-sums : goal.returns-clause-sums
returns-clause-sums c = rows_add c.rows_add_up.ensures.done c.rows_add_up.ensures.refusal

pub returns-clause-read_turns : goal.returns-clause-read_turns
returns-clause-read_turns c = reads_turns c.rows_add_up.ensures.done_turns

pub returns-clause-preread_turns : goal.returns-clause-preread_turns
returns-clause-preread_turns c = prereads_turns c.rows_add_up.ensures.done_turns

pub returns-clause-reread_turns : goal.returns-clause-reread_turns
returns-clause-reread_turns c = rereads_turns c.rows_add_up.ensures.done_turns

pub returns-clause-refusals : goal.returns-clause-refusals
returns-clause-refusals c = refusals_met

pub returns-clause-bytes : goal.returns-clause-bytes
returns-clause-bytes c = bytes_moved
