-- What a draw keeps.
use Rattle.std.specs.Prelude.{◌≡◌, ℕ, ◌*◌, ◌<◌, ◌≤◌}
use Rattle.rand_pcg.specs.Lcg.{Lcg}
use Rattle.workload_gen.specs.declared.task.Task.{Task}
use Rattle.workload_gen.specs.Task.{CanDraw, weight_of}
use Rattle.workload_gen.specs.Turns.{position_at}
use Rattle.workload_gen.specs.Words.{behind_words, generator_of}

-- Turns of the task can be drawn; the generator and the position are those behind so many turns.
pub record Keeps (task : Task) (total : ℕ) (generator : Lcg) (here turns : ℕ) : Type 0 where
  pub can_draw : CanDraw task
  pub few_blocks : task.blocks ≤ 16777216
  pub weight : total ≡ weight_of task.shares
  pub words : generator ≡ behind_words (generator_of task.run task.worker) (4 * turns)
  pub position : here ≡ position_at task turns
  pub inside : here < task.blocks
