-- The answers of `Draw::next`.
use Rattle.std.proofs.Common.{◌≡◌, ◌+◌, ◌∷◌, ◌%◌, ℕ, List, Contains, refl, sym, ap, subst, ◌∙◌}
use Rattle.std.proofs.lemmas.List.Elements.{All-contains}
use Rattle.workload_gen.specs.declared.draw.Draw.TheInside.{Inside}
use Rattle.workload_gen.specs.declared.task.StoreShare.{StoreShare}
use Rattle.workload_gen.specs.declared.task.Task.{Task}
use Rattle.workload_gen.specs.declared.turn.Turn.{Turn}
use Rattle.workload_gen.specs.Task.{shares_of}
use Rattle.workload_gen.specs.Turns.{Drawing, chosen, drawn, due_at, share_at, turn_at, turns_of}
use Rattle.workload_gen.specs.Keeps.{Keeps}
use Rattle.workload_gen.proofs.Draws.{Chose, Leaves, keeps_more, ordered_leaves, random_leaves, share_is, turn_is, word_is}
use Rattle.workload_gen.proofs.Placed.{IsPlaced, shares_are_placed}
use Rattle.workload_gen.proofs.Steps.{turns_more}
use Rattle.workload_gen.proofs.draw.Draw.next.Goals as goal
use Rattle.workload_gen.proofs.draw.Draw.next.Goals.{then-words-share, else-words-share}

pub invariant_of-self : goal.invariant_of-self
invariant_of-self c =
    let was = c.self.inside in
    let keeps : Keeps was.task was.weight was.generator was.position was.turns = c.self.invariant in
    let given : c.chosen-share.result ≡ chosen was.task.shares (c.next_words-words.result.share % was.weight) = cc in
    let share : c.chosen-share.result ≡ share_at was.task was.turns = given ∙ share_is was.task was.weight was.generator was.position was.turns c.next_words-words.result.share keeps c.next_words-words.ensures.share in
    let Choice : ℕ → Inside → Type 0 = λ block now. Chose was.task was.weight c.next_words-words.new.generator was.turns block now in
    let chose : Choice c.if-words-share.block c.if-words-share.self-inside = elim c.if-words-share.branch [
      | then-words-share w ↦
          let leaves = random_leaves was.task was.weight was.generator was.position was.turns c.next_words-words.result.random c.next_words-words.result.block c.chosen-share.result keeps share c.next_words-words.ensures.random c.next_words-words.ensures.block w.if-words-share.true in
          let first : c.if-words-share.block ≡ _ = w.block-is ∙ w.random_block-block.ensures.value in
          subst (λ (now : Inside). Choice c.if-words-share.block now) (sym w.self-inside-is)
          (record { task_is = refl; total_is = refl; rest_is = refl; turns_is = refl; leaves = subst (λ (b : ℕ). Leaves was.task was.turns b was.position) (sym first) leaves })
      | else-words-share w ↦
          let leaves = ordered_leaves was.task was.weight was.generator was.position was.turns c.next_words-words.result.random w.next_block-block.result w.position_behind-self-inside.result c.chosen-share.result keeps share
          c.next_words-words.ensures.random w.if-words-share.false w.next_block-block.ensures.value w.position_behind-self-inside.ensures.value w.position_behind-self-inside.ensures.inside in
          subst (λ (now : Inside). Choice c.if-words-share.block now) (sym w.self-inside-is)
          (record { task_is = refl; total_is = refl; rest_is = refl; turns_is = refl; leaves = subst (λ (b : ℕ). Leaves was.task was.turns b w.position_behind-self-inside.result) (sym w.block-is) leaves })
    ] in
    keeps_more was.task was.weight was.generator c.next_words-words.new.generator was.position was.turns c.if-words-share.block c.if-words-share.self-inside keeps c.next_words-words.ensures.rest chose

pub returns-clause-turn : goal.returns-clause-turn
returns-clause-turn c =
    let was = c.self.inside in
    let keeps : Keeps was.task was.weight was.generator was.position was.turns = c.self.invariant in
    let given : c.chosen-share.result ≡ chosen was.task.shares (c.next_words-words.result.share % was.weight) = cc in
    let share : c.chosen-share.result ≡ share_at was.task was.turns = given ∙ share_is was.task was.weight was.generator was.position was.turns c.next_words-words.result.share keeps c.next_words-words.ensures.share in
    let Choice : ℕ → Inside → Type 0 = λ block now. Chose was.task was.weight c.next_words-words.new.generator was.turns block now in
    let chose : Choice c.if-words-share.block c.if-words-share.self-inside = elim c.if-words-share.branch [
      | then-words-share w ↦
          let leaves = random_leaves was.task was.weight was.generator was.position was.turns c.next_words-words.result.random c.next_words-words.result.block c.chosen-share.result keeps share c.next_words-words.ensures.random c.next_words-words.ensures.block w.if-words-share.true in
          let first : c.if-words-share.block ≡ _ = w.block-is ∙ w.random_block-block.ensures.value in
          subst (λ (now : Inside). Choice c.if-words-share.block now) (sym w.self-inside-is)
          (record { task_is = refl; total_is = refl; rest_is = refl; turns_is = refl; leaves = subst (λ (b : ℕ). Leaves was.task was.turns b was.position) (sym first) leaves })
      | else-words-share w ↦
          let leaves = ordered_leaves was.task was.weight was.generator was.position was.turns c.next_words-words.result.random w.next_block-block.result w.position_behind-self-inside.result c.chosen-share.result keeps share
          c.next_words-words.ensures.random w.if-words-share.false w.next_block-block.ensures.value w.position_behind-self-inside.ensures.value w.position_behind-self-inside.ensures.inside in
          subst (λ (now : Inside). Choice c.if-words-share.block now) (sym w.self-inside-is)
          (record { task_is = refl; total_is = refl; rest_is = refl; turns_is = refl; leaves = subst (λ (b : ℕ). Leaves was.task was.turns b w.position_behind-self-inside.result) (sym w.block-is) leaves })
    ] in
    let read = word_is was.task was.weight was.generator was.position was.turns 1 c.next_words-words.result.read keeps c.next_words-words.ensures.read in
    let due : c.due_at-due.result ≡ due_at was.task was.turns =
    c.due_at-due.ensures.value ∙ ap (λ (t : Task). due_at t c.if-words-share.self-inside.turns) chose.task_is ∙ ap (due_at was.task) chose.turns_is in
    turn_is was.task was.turns c.if-words-share.block c.next_words-words.result.read c.due_at-due.result c.chosen-share.result share chose.leaves.first read due
    ∙ ap (λ (d : Drawing). turn_at d.task d.turns) c.self.view_is

pub returns-clause-drawn : goal.returns-clause-drawn
returns-clause-drawn c =
    let was = c.self.inside in
    let Same : Inside → Type 0 = λ now. (now.task ≡ was.task) × (now.turns ≡ was.turns) in
    let same : Same c.if-words-share.self-inside = elim c.if-words-share.branch [
      | then-words-share w ↦ subst Same (sym w.self-inside-is) (refl, refl)
      | else-words-share w ↦ subst Same (sym w.self-inside-is) (refl, refl)
    ] in
    ap (λ (t : Task). turns_of t (c.if-words-share.self-inside.turns + 1)) same.0
    ∙ ap (λ (n : ℕ). turns_of was.task (n + 1)) same.1
    ∙ ap (λ (d : Drawing). turns_of d.task (d.turns + 1)) c.self.view_is
    ∙ turns_more c.args.self.now.task c.args.self.now.turns
    ∙ ap (λ (turn : Turn). turn ∷ drawn c.args.self.now) (sym (returns-clause-turn c))

pub returns-clause-share : goal.returns-clause-share
returns-clause-share c = λ run worker shape is.
    let shares : c.as_slice.result.now ≡ shares_of shape.block_size worker.store run.shares = c.as_slice.ensures ∙ ap (λ (d : Drawing). d.task.shares) c.self.view_is ∙ ap (λ (t : Task). t.shares) is in
    let among : Contains (shares_of shape.block_size worker.store run.shares) c.chosen-share.result = subst (λ (l : List StoreShare). Contains l c.chosen-share.result) shares c.chosen-share.ensures.among in
    All-contains (IsPlaced shape.block_size worker.store run.shares) (shares_of shape.block_size worker.store run.shares) c.chosen-share.result (shares_are_placed shape.block_size worker.store run.shares) among
