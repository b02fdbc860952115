-- Sentences on a worker's turns: what its numbers, lists and calls have to do with each other, whatever its turns were.
use Rattle.std.specs.Prelude.{◌≡◌, ℕ, cond, Option, Some, None, ◌*◌, ◌+◌, ◌-◌, ◌^◌, min, ◌≤◌, List, ◌++◌, length}
use Rattle.vd_base.specs.declared.geometry.StoreId.{StoreId}
use Rattle.vd_arm.specs.Arm.{Counted}
use Rattle.key_state.specs.declared.fault.BookFault.{BookFault}
use Rattle.block_verdict.specs.declared.finding.Finding.{Finding}
use Rattle.block_verdict.specs.declared.finding.Finding.TheVariants.{Corrupt, ReadFault, WriteFault}
use Rattle.claim_table.specs.Sums.{Each, total}
use Rattle.worker_tally.specs.Tallies.{AddsUp, turns_in}
use Rattle.worker_tally.specs.declared.tally.Numbers.{Numbers}
use Rattle.worker_tally.specs.Dones.{ended_put, fault, unended_put}
use Rattle.worker_tally.specs.declared.done.Refusal.{Refusal}
use Rattle.worker_tally.specs.declared.done.Refusal.TheVariants.{Bad, Busy}
use Rattle.slave_worker.specs.Dids.{IsTurn, some_used, where_none}
use Rattle.slave_worker.specs.Ends.{MetFault, NoFault}
use Rattle.slave_worker.specs.Standings.{Standing, Worked}
use Rattle.slave_worker.specs.declared.did.Did.{Did}
use Rattle.slave_worker.specs.declared.did.Rules.{Rules}

-- what holds of every list of turns by the rules that made the second standing of the first
abbrev pub OfWork : (List Did → Standing → Standing → Type 0) → Type 0
OfWork Holds =
    (rules : Rules) (store : StoreId) (dids : List Did) (looks : ℕ) (before after : Standing)
    → Each (IsTurn rules store) dids
    → Worked rules.intervals store.geometry.block_size dids looks before after
    → Holds dids before after

-- `writes` grew by the growth of the seat's list of ended writes.
abbrev pub WritesAreEnded : Type 0
WritesAreEnded = OfWork (λ dids before after. after.tally.numbers.writes + length before.view.wrote ≡ before.tally.numbers.writes + length after.view.wrote)

-- `corrupt` grew by the growth of the seat's list of blocks made bad, or by more; not by more where the book answered no fault.
abbrev pub CorruptAreBad : Type 0
CorruptAreBad = OfWork (λ dids before after. before.tally.numbers.corrupt + length after.view.spoilt ≤ after.tally.numbers.corrupt + length before.view.spoilt)

abbrev pub NoMoreCorrupt : Type 0
NoMoreCorrupt = OfWork (λ dids before after. NoFault dids → before.tally.numbers.corrupt + length after.view.spoilt ≡ after.tally.numbers.corrupt + length before.view.spoilt)

abbrev pub all_reads : Numbers → ℕ
all_reads numbers = numbers.reads + numbers.prereads + numbers.rereads

-- The arm's good reads rose by the growth of `reads`, `prereads` and `rereads` together.
abbrev pub ReadsAreGood : Type 0
ReadsAreGood = OfWork (λ dids before after. (many : ℕ) × (all_reads after.tally.numbers ≡ all_reads before.tally.numbers + many) × Counted many before.arm.good_reads after.arm.good_reads)

-- 1 for a finding of a failed call, and for a corrupt block
abbrev pub fault_in : Finding → ℕ
fault_in (ReadFault block) = 1
fault_in (WriteFault block) = 1
fault_in _ = 0

abbrev pub corrupt_block_in : Finding → ℕ
corrupt_block_in (Corrupt block entry sector part) = 1
corrupt_block_in _ = 0

-- New findings stand behind the old ones: those of failed calls are as many as `faults` grew by, and the corrupt blocks as many as
-- `corrupt` grew by.
abbrev pub FaultsAreFound : Type 0
FaultsAreFound = OfWork (λ dids before after. (more : List Finding) × (after.tally.findings ≡ before.tally.findings ++ more) × (after.tally.numbers.faults ≡ before.tally.numbers.faults + total fault_in more) × (after.tally.numbers.corrupt ≡ before.tally.numbers.corrupt + total corrupt_block_in more))

-- The error seat noted once for each finding.
abbrev pub NotedOnce : Type 0
NotedOnce = OfWork (λ dids before after. after.notes + length before.tally.findings ≡ before.notes + length after.tally.findings)

-- Where the book answered no fault, the turns of the rows grew by as many as `turns`, less the growth of `busy` and `badskip`.
abbrev pub RowsHaveTurns : Type 0
RowsHaveTurns = OfWork (λ dids before after. NoFault dids → turns_in after.tally.rows + after.tally.numbers.busy + after.tally.numbers.badskip + before.tally.numbers.turns ≡ turns_in before.tally.rows + before.tally.numbers.busy + before.tally.numbers.badskip + after.tally.numbers.turns)

-- Where it answered one, they may have grown by 1 less.
abbrev pub RowsMissOne : Type 0
RowsMissOne = OfWork (λ dids before after. (fault : BookFault) → MetFault dids fault →
    (turns_in after.tally.rows + after.tally.numbers.busy + after.tally.numbers.badskip + before.tally.numbers.turns ≤ turns_in before.tally.rows + before.tally.numbers.busy + before.tally.numbers.badskip + after.tally.numbers.turns)
    × (turns_in before.tally.rows + before.tally.numbers.busy + before.tally.numbers.badskip + after.tally.numbers.turns ≤ turns_in after.tally.rows + after.tally.numbers.busy + after.tally.numbers.badskip + before.tally.numbers.turns + 1))

-- The arm's good writes rose by the growth of the seat's list of ended writes, or by more; not by more where the book answered no fault.
abbrev pub WritesAreGood : Type 0
WritesAreGood = OfWork (λ dids before after. (many : ℕ) × Counted many before.arm.good_writes after.arm.good_writes × (length after.view.wrote ≤ length before.view.wrote + many) × (NoFault dids → length after.view.wrote ≡ length before.view.wrote + many))

-- `faults` grew by at most the rise of the arm's count of faults, which is held at the greatest u64, and by 0 only where that didn't rise.
abbrev pub FaultsAreCounted : Type 0
FaultsAreCounted = OfWork (λ dids before after. (many : ℕ) × (after.tally.numbers.faults ≡ before.tally.numbers.faults + many) × (min (before.arm.faults + many) (2 ^ 64 - 1) ≤ after.arm.faults) × (many ≡ 0 → after.arm.faults ≡ before.arm.faults))

-- The rows go on having together the reads, writes and bytes of the numbers.
abbrev pub RowsAddUp : Type 0
RowsAddUp = OfWork (λ dids before after. AddsUp before.tally → AddsUp after.tally)

-- the same of what the rules and the store have a part in
abbrev pub OfWorkBy : (Rules → StoreId → List Did → Standing → Standing → Type 0) → Type 0
OfWorkBy Holds =
    (rules : Rules) (store : StoreId) (dids : List Did) (looks : ℕ) (before after : Standing)
    → Each (IsTurn rules store) dids
    → Worked rules.intervals store.geometry.block_size dids looks before after
    → Holds rules store dids before after

-- the blocks of a turn that had them all, so often
abbrev pub times_had : (Did → ℕ) → Did → ℕ
times_had count did = where_none did.refusal (did.done.many * count did)

-- 1 for a read turn, and for one whose read failed
abbrev pub read_turn : Did → ℕ
read_turn did = cond did.done.read 1 0

abbrev pub read_failed : Did → ℕ
read_failed did = cond did.done.read (fault did.done.first) 0

-- `reads` grew by the blocks of the read turns that had them all, less those of the turns whose read failed.
abbrev pub ReadsOfTurns : Type 0
ReadsOfTurns = OfWorkBy (λ rules store dids before after. after.tally.numbers.reads + total (times_had read_failed) dids ≡ before.tally.numbers.reads + total (times_had read_turn) dids)

-- 1 for a write turn that had some used block, where the plan has prereads, and for one whose preread failed
abbrev pub preread_turn : Rules → Did → ℕ
preread_turn rules did = cond did.done.read 0 (cond rules.preread (cond (some_used did.had) 1 0) 0)

abbrev pub preread_failed : Did → ℕ
preread_failed did = cond did.done.read 0 (fault did.done.first)

-- `prereads` grew by the blocks of those turns, less those of the turns whose preread failed.
abbrev pub PrereadsOfTurns : Type 0
PrereadsOfTurns = OfWorkBy (λ rules store dids before after. after.tally.numbers.prereads + total (times_had preread_failed) dids ≡ before.tally.numbers.prereads + total (times_had (preread_turn rules)) dids)

-- 1 for a turn that ended its write, where the plan has rereads; for one that ended it by a call that failed; and for one whose reread failed
abbrev pub reread_turn : Rules → Did → ℕ
reread_turn rules did = cond rules.reread (ended_put did.done.put) 0

abbrev pub reread_unended : Rules → Did → ℕ
reread_unended rules did = cond rules.reread (unended_put did.done.put) 0

abbrev pub reread_failed : Did → ℕ
reread_failed did = fault did.done.again

-- `rereads` grew by the blocks whose write was ended, less those that a failed call ended, and less those whose reread failed.
abbrev pub RereadsOfTurns : Type 0
RereadsOfTurns = OfWorkBy (λ rules store dids before after. after.tally.numbers.rereads + total (times_had reread_failed) dids + total (times_had (reread_unended rules)) dids ≡ before.tally.numbers.rereads + total (times_had (reread_turn rules)) dids)

abbrev pub busy_in : Option Refusal → ℕ
busy_in None = 0
busy_in (Some Busy) = 1
busy_in (Some Bad) = 0

abbrev pub bad_in : Option Refusal → ℕ
bad_in None = 0
bad_in (Some Busy) = 0
bad_in (Some Bad) = 1

-- `busy` and `badskip` grew by the turns that met a busy block, and a bad one.
abbrev pub RefusalsAreMet : Type 0
RefusalsAreMet = OfWorkBy (λ rules store dids before after. (after.tally.numbers.busy ≡ before.tally.numbers.busy + total (λ did. busy_in did.refusal) dids) × (after.tally.numbers.badskip ≡ before.tally.numbers.badskip + total (λ did. bad_in did.refusal) dids))

-- `bytes` grew by the size of a block as often as the arm's good reads and good writes rose.
abbrev pub BytesAreMoved : Type 0
BytesAreMoved = OfWorkBy (λ rules store dids before after. (reads : ℕ) × (writes : ℕ) × Counted reads before.arm.good_reads after.arm.good_reads × Counted writes before.arm.good_writes after.arm.good_writes × (after.tally.numbers.bytes ≡ before.tally.numbers.bytes + store.geometry.block_size * (reads + writes)))
