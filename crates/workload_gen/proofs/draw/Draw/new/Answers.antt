-- The answers of `Draw::new`.
use Rattle.std.proofs.Common.{sym, ap, subst, ◌∙◌}
use Rattle.workload_gen.specs.declared.task.Task.{Task}
use Rattle.workload_gen.specs.Task.{CanDraw, weight_of}
use Rattle.workload_gen.specs.Words.{generator_of}
use Rattle.workload_gen.proofs.Generators.{behind_none}
use Rattle.workload_gen.proofs.Steps.{position_first}
use Rattle.workload_gen.proofs.draw.Draw.new.Goals as goal

pub invariant_of-result : goal.invariant_of-result
invariant_of-result c =
    let task = c.in_ok-task.task in
    let can : CanDraw task = subst (λ (t : Task). CanDraw t) (sym c.in_ok-task.ensures.value) c.requires.task in
    record {
      can_draw = can;
      few_blocks = c.in_ok-task.ensures.few_blocks;
      weight = c.weight_of-weight.ensures.value ∙ ap weight_of c.as_slice.ensures;
      words = c.generator_of-generator.ensures ∙ sym (behind_none (generator_of task.run task.worker));
      position = sym (position_first task);
      inside = can.start;
    }
