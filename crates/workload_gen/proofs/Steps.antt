-- One turn more.
use Rattle.std.proofs.Common.{◌≡◌, ℕ, ◌+◌, ◌∷◌, refl, ap, add-one}
use Rattle.std.specs.Prelude.{if◌then◌else◌}
use Rattle.workload_gen.specs.declared.task.Task.{Task}
use Rattle.workload_gen.specs.Turns.{is_random_at, next_block, position_at, position_behind, share_at, turn_at, turns_of}

pub position_first : (task : Task) → position_at task 0 ≡ task.start
unfolding position_at
position_first task = refl

pub position_more : (task : Task) (t : ℕ)
    → position_at task (t + 1) ≡ (if is_random_at task t then position_at task t else position_behind task.blocks (share_at task t).many (next_block task.blocks (share_at task t).many (position_at task t)))
unfolding position_at
position_more task t = rw add-one refl

pub turns_more : (task : Task) (t : ℕ) → turns_of task (t + 1) ≡ turn_at task t ∷ turns_of task t
unfolding turns_of
turns_more task t = ap (turns_of task) (add-one t)
