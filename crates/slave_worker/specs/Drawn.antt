-- What a worker's numbers have to do with the turns of its draw, and those of all workers of a store with the blocks that were drawn.
use Rattle.std.specs.Prelude.{◌≡◌, ◌≢◌, ℕ, ◌*◌, ◌+◌, ◌^◌, ◌<◌, ◌≤◌, ◌==◌, cond, IsTrue, All, AllPairs, List, length, map}
use Rattle.vd_arm.specs.Arm.{PassSeen}
use Rattle.key_state.specs.declared.fault.BookFault.{BookFault}
use Rattle.key_state.specs.declared.seen.BookSeen.{BookSeen}
use Rattle.claim_table.specs.Closings.{Returned}
use Rattle.claim_table.specs.Sums.{Each, total}
use Rattle.claim_table.specs.Views.{bad, blocks_of, fresh}
use Rattle.claim_table.specs.declared.view.Made.{Made}
use Rattle.worker_tally.specs.Tallies.{no_numbers}
use Rattle.worker_tally.specs.declared.tally.Numbers.{Numbers}
use Rattle.workload_gen.specs.Turns.{turns_of}
use Rattle.workload_gen.specs.declared.task.StoreShare.{StoreShare}
use Rattle.workload_gen.specs.declared.task.Task.{Task}
use Rattle.workload_gen.specs.declared.turn.Turn.{Turn}
use Rattle.slave_worker.specs.Standings.{Standing}
use Rattle.slave_worker.specs.Works.{HasWorked}
use Rattle.slave_worker.specs.declared.did.Rules.{Rules}
use Rattle.slave_worker.specs.declared.did.WorkEnd.{WorkEnd}
use Rattle.slave_worker.specs.declared.did.WorkEnd.TheVariants as work_end

-- A worker's work in a run of so many turns, from a new seat of a table that was made so and a tally of no turns: it drew so many.
pub record Drew : Type 0 where
  pub rules : Rules
  pub made : Made
  pub task : Task
  pub turns : ℕ
  pub many : ℕ
  pub before : Standing
  pub after : Standing
  pub answers : List ℕ
  pub end : WorkEnd
  pub new_seat : before.view ≡ fresh made (2 ^ 32)
  pub no_turns : before.tally.numbers ≡ no_numbers
  pub worked : HasWorked rules made.store turns (turns_of task many) before after answers end

-- its numbers, and the turns that it drew, the newest first
abbrev pub numbers : Drew → Numbers
numbers work = work.after.tally.numbers

abbrev pub drawn_by : Drew → List Turn
drawn_by work = turns_of work.task work.many

-- what holds of every worker's work
abbrev pub OfDraws : (Drew → Type 0) → Type 0
OfDraws Holds = (work : Drew) → Holds work

-- Nothing went wrong in it: no call of the device failed, no corrupt block was found, and it didn't end by its book.
pub record WentWell (work : Drew) : Type 0 where
  pub faults : (numbers work).faults ≡ 0
  pub corrupt : (numbers work).corrupt ≡ 0
  pub book : (fault : BookFault) → work.end ≢ work_end.Book fault

-- the blocks of a read turn, and those of a write turn
abbrev pub blocks_read : Turn → ℕ
blocks_read turn = cond turn.read turn.many 0

abbrev pub blocks_written : Turn → ℕ
blocks_written turn = cond turn.read 0 turn.many

-- Each transfer is of one block.
abbrev pub AreOneBlock : List StoreShare → Type 0
AreOneBlock shares = All (λ share. share.many ≡ 1) shares

-- Its turns are those that it drew, and not more than the run's.
abbrev pub TurnsAreDrawn : Type 0
TurnsAreDrawn = OfDraws (λ work. (numbers work).turns ≡ work.many)

abbrev pub TurnsAreFew : Type 0
TurnsAreFew = OfDraws (λ work. (numbers work).turns ≤ work.turns)

-- Where nothing went wrong, over a clock that stands still before the run's end, it makes all turns of the run.
abbrev pub StillRunsMakeAllTurns : Type 0
StillRunsMakeAllTurns = OfDraws (λ work. WentWell work → IsTrue work.before.clock.still → work.before.clock.last < work.rules.end → (numbers work).turns ≡ work.turns)

-- Where workers' turns add up to as many as all turns of the run come to, each made all of them.
abbrev pub AllTurnsAddUp : Type 0
AllTurnsAddUp = (turns : ℕ) (works : List Drew) → Each (λ work. work.turns ≡ turns) works
    → total (λ work. (numbers work).turns) works ≡ length works * turns → Each (λ work. (numbers work).turns ≡ turns) works

-- Where nothing went wrong, its rereads are its writes where the run rereads, and else 0.
abbrev pub RereadsAreWrites : Type 0
RereadsAreWrites = OfDraws (λ work. WentWell work → (numbers work).rereads ≡ cond work.rules.reread (numbers work).writes 0)

-- Then, where each transfer is of one block, each turn is a read, a write, busy or a bad skip.
abbrev pub OneBlockTurnsAddUp : Type 0
OneBlockTurnsAddUp = OfDraws (λ work. WentWell work → AreOneBlock work.task.shares
    → (numbers work).reads + (numbers work).writes + (numbers work).busy + (numbers work).badskip ≡ (numbers work).turns)

-- It reads at most the blocks of the read turns that it drew, and writes at most those of the write turns.
abbrev pub NoMoreThanDrawn : Type 0
NoMoreThanDrawn = OfDraws (λ work. ((numbers work).reads ≤ total blocks_read (drawn_by work)) × ((numbers work).writes ≤ total blocks_written (drawn_by work)))

-- Where the table has one seat it is never busy. Where besides nothing went wrong, and it met no bad block, it reads and writes all of them.
abbrev pub OneWorkerIsNeverBusy : Type 0
OneWorkerIsNeverBusy = OfDraws (λ work. work.made.seats ≡ 1 → (numbers work).busy ≡ 0)

abbrev pub OneWorkerDoesItsDraw : Type 0
OneWorkerDoesItsDraw = OfDraws (λ work. work.made.seats ≡ 1 → WentWell work → (numbers work).badskip ≡ 0
    → ((numbers work).reads ≡ total blocks_read (drawn_by work)) × ((numbers work).writes ≡ total blocks_written (drawn_by work)))

-- All workers of a store in a run, and the passes and the book that their table gave back, whose book had an entry for each block.
pub record DrewAll : Type 0 where
  pub made : Made
  pub works : List Drew
  pub passes : List PassSeen
  pub book : BookSeen
  pub sized : length made.book.now ≡ blocks_of made
  pub same : Each (λ (work : Drew). work.made ≡ made) works
  pub returned : Returned made (map (λ (work : Drew). work.after.view) works) passes book

-- what holds of all workers of every store
abbrev pub OfStores : (DrewAll → Type 0) → Type 0
OfStores Holds = (all : DrewAll) → Holds all

-- Where no block was bad as the table was made, and nothing went wrong, none of them met a bad block.
abbrev pub BadSkipsAreNone : Type 0
BadSkipsAreNone = OfStores (λ all. total bad all.made.book.now ≡ 0 → Each WentWell all.works → Each (λ work. (numbers work).badskip ≡ 0) all.works)

-- 1 for a turn that begins at the block
abbrev pub begins_at : ℕ → Turn → ℕ
begins_at block turn = cond (turn.block.0 == block) 1 0

-- Some of them drew the block.
abbrev pub IsDrawnBy : List Drew → ℕ → Type 0
IsDrawnBy works block = 0 < total (λ work. total (begins_at block) (drawn_by work)) works

-- Where each transfer is of one block, their turns that weren't busy are at least as many as different blocks were drawn.
abbrev pub BlocksAreUsed : Type 0
BlocksAreUsed = OfStores (λ all. Each (λ work. AreOneBlock work.task.shares) all.works
    → (blocks : List ℕ) → AllPairs (λ one other. one ≢ other) blocks → All (IsDrawnBy all.works) blocks
    → length blocks + total (λ work. (numbers work).busy) all.works ≤ total (λ work. (numbers work).turns) all.works)
