-- The numbers of one turn that had its blocks.
use Rattle.std.specs.Prelude.{ℕ, ◌+◌, ◌*◌, cond, Bool, true, false, nat_lt}
use Rattle.worker_tally.specs.declared.done.Look.{Look}
use Rattle.worker_tally.specs.declared.done.Look.TheVariants as look
use Rattle.worker_tally.specs.declared.done.Put.{Put}
use Rattle.worker_tally.specs.declared.done.Put.TheVariants as put
use Rattle.worker_tally.specs.declared.done.Done.{Done}

-- 1 for a read that the device answered
abbrev pub good : Look → ℕ
good look.Skipped = 0
good look.Fault = 0
good (look.Read corrupt) = 1

-- 1 for one that failed
abbrev pub fault : Look → ℕ
fault look.Skipped = 0
fault look.Fault = 1
fault (look.Read corrupt) = 0

-- how many of the blocks that were read are corrupt
abbrev pub corrupt_in : Look → ℕ
corrupt_in look.Skipped = 0
corrupt_in look.Fault = 0
corrupt_in (look.Read corrupt) = corrupt

-- 1 for a write that the device answered
abbrev pub good_put : Put → ℕ
good_put put.Skipped = 0
good_put put.Refused = 0
good_put put.Fault = 0
good_put (put.Unended appended) = 1
good_put put.Ended = 1

-- 1 for one that failed
abbrev pub fault_put : Put → ℕ
fault_put put.Fault = 1
fault_put put.Skipped = 0
fault_put put.Refused = 0
fault_put (put.Unended appended) = 0
fault_put put.Ended = 0

-- 1 for one whose end was recorded
abbrev pub ended_put : Put → ℕ
ended_put put.Ended = 1
ended_put (put.Unended appended) = cond appended 1 0
ended_put put.Skipped = 0
ended_put put.Refused = 0
ended_put put.Fault = 0

-- 1 for one whose end was recorded by a call that failed
abbrev pub unended_put : Put → ℕ
unended_put (put.Unended appended) = cond appended 1 0
unended_put put.Ended = 0
unended_put put.Skipped = 0
unended_put put.Refused = 0
unended_put put.Fault = 0

-- whether the book refused
abbrev pub is_refused : Put → Bool
is_refused put.Refused = true
is_refused (put.Unended appended) = true
is_refused put.Skipped = false
is_refused put.Fault = false
is_refused put.Ended = false

-- The blocks that a read turn read, that a write turn read before it wrote, and that were read again; and those whose write was ended.
abbrev pub reads_of : Done → ℕ
reads_of done = cond done.read (done.many * good done.first) 0

abbrev pub prereads_of : Done → ℕ
prereads_of done = cond done.read 0 (done.many * good done.first)

abbrev pub rereads_of : Done → ℕ
rereads_of done = done.many * good done.again

abbrev pub writes_of : Done → ℕ
writes_of done = done.many * ended_put done.put

-- the calls of the device that failed, and the corrupt blocks
abbrev pub faults_of : Done → ℕ
faults_of done = fault done.first + fault_put done.put + fault done.again

abbrev pub corrupt_of : Done → ℕ
corrupt_of done = corrupt_in done.first + corrupt_in done.again

-- all blocks that the device read well, and that it wrote well
abbrev pub good_reads_of : Done → ℕ
good_reads_of done = done.many * (good done.first + good done.again)

abbrev pub good_writes_of : Done → ℕ
good_writes_of done = done.many * good_put done.put

-- the bytes of all of them, in blocks of this size
abbrev pub bytes_of : ℕ → Done → ℕ
bytes_of size done = size * (good_reads_of done + good_writes_of done)

-- its calls of the device, those that the device answered and those that failed; and whether there was one
abbrev pub calls_of : Done → ℕ
calls_of done = good done.first + good_put done.put + good done.again + faults_of done

abbrev pub has_called : Done → Bool
has_called done = nat_lt 0 (calls_of done)
