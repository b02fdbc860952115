-- The turns of a worker.
use Rattle.std.specs.Prelude.{◌≡◌, ℕ, zero, suc, ◌+◌, ◌*◌, ◌/◌, ◌%◌, ◌==◌, Bool, List, [], ◌∷◌, IsSomeAnd, if◌then◌else◌, find, length, nat_le, nat_lt, slice_get, take, unwrap_or}
use Rattle.std.specs.List.{range_with_len}
use Rattle.vd_base.specs.Geometry.{Shape}
use Rattle.plan_types.specs.declared.run.RunPlan.{RunPlan}
use Rattle.plan_types.specs.declared.run.WorkerPlan.{WorkerPlan}
use Rattle.workload_gen.specs.declared.task.StoreShare.{StoreShare}
use Rattle.workload_gen.specs.declared.task.Task.{Task}
use Rattle.workload_gen.specs.declared.turn.Turn.{Turn}
use Rattle.workload_gen.specs.Task.{weight_of}
use Rattle.workload_gen.specs.Words.{generator_of, word_at}

-- what contracts see of a draw: the task, and how many turns were drawn
pub record Drawing : Type 0 where
  pub task : Task
  pub turns : ℕ

-- the place among shares of the first one with which their weights, added from the first on, are above a number
abbrev pub chosen_place : List StoreShare → ℕ → ℕ
chosen_place shares n = unwrap_or (find (λ place. nat_lt n (weight_of (take (place + 1) shares))) (range_with_len 0 (length shares))) 0

-- no share
abbrev pub no_share : StoreShare
no_share = record { place = 0; weight = 0; rdpct = 0; seekpct = 0; many = 0 }

abbrev pub chosen : List StoreShare → ℕ → StoreShare
chosen shares n = unwrap_or (slice_get shares (chosen_place shares n)) no_share

-- a word of a turn, each of which takes four
abbrev pub word_of : Task → ℕ → ℕ → ℕ
word_of task t j = word_at (generator_of task.run task.worker) (4 * t + j)

-- the share of turn t
abbrev pub share_at : Task → ℕ → StoreShare
share_at task t = chosen task.shares (word_of task t 0 % weight_of task.shares)

abbrev pub is_read_at : Task → ℕ → Bool
is_read_at task t = nat_lt (word_of task t 1 % 100) (share_at task t).rdpct

abbrev pub is_random_at : Task → ℕ → Bool
is_random_at task t = nat_lt (word_of task t 2 % 100) (share_at task t).seekpct

-- The block that a word names, where transfers of so many blocks stand side by side from block 0 on.
abbrev pub random_block : ℕ → ℕ → ℕ → ℕ
random_block blocks many word = word % (blocks / many) * many

-- where a transfer in order begins: at the position, or at block 0 where it would reach past the end
abbrev pub next_block : ℕ → ℕ → ℕ → ℕ
next_block blocks many position = if nat_le (position + many) blocks then position else 0

-- the position behind a transfer, which after the last block is 0
abbrev pub position_behind : ℕ → ℕ → ℕ → ℕ
position_behind blocks many block = if block + many == blocks then 0 else block + many

-- a worker's position before turn t, which random turns don't move
unfoldable pub position_at : Task → ℕ → ℕ
position_at task zero = task.start
position_at task (suc t) =
    let many = (share_at task t).many in
    let position = position_at task t in
    if is_random_at task t then position else position_behind task.blocks many (next_block task.blocks many position)

abbrev pub block_at : Task → ℕ → ℕ
block_at task t =
    let many = (share_at task t).many in
    if is_random_at task t then random_block task.blocks many (word_of task t 3) else next_block task.blocks many (position_at task t)

-- when turn t is due, in microseconds from the run's start: the turns of all workers, dealt in turn, come at the run's rate
abbrev pub due_at : Task → ℕ → ℕ
due_at task t = if task.rate == 0 then 0 else (t * task.workers + task.worker) * 1000000 / task.rate

-- turn t of a worker, from 0
abbrev pub turn_at : Task → ℕ → Turn
turn_at task t = record {
  block = record { 0 = block_at task t };
  many = (share_at task t).many;
  read = is_read_at task t;
  due = due_at task t;
  share = (share_at task t).place;
}

-- the first so many turns of a worker, newest first
unfoldable pub turns_of : Task → ℕ → List Turn
turns_of task zero = []
turns_of task (suc t) = turn_at task t ∷ turns_of task t

-- the turns that were drawn, newest first
abbrev pub drawn : Drawing → List Turn
drawn drawing = turns_of drawing.task drawing.turns

-- A turn has a share of the worker's store in the run, and moves its transfer.
abbrev pub IsOfShare : RunPlan → WorkerPlan → Shape → Turn → Type 0
IsOfShare run worker shape turn = IsSomeAnd (slice_get run.shares turn.share) (λ share. (share.store ≡ worker.store) × (turn.many ≡ share.xfersize / shape.block_size))
