-- What one turn leaves of a draw.
use Rattle.std.proofs.Common.{◌≡◌, ℕ, ◌+◌, ◌*◌, ◌%◌, ◌<◌, ◌≤◌, Bool, true, false, sym, ap, subst, ◌∙◌, arith}
use Rattle.std.specs.Prelude.{if◌then◌else◌, nat_lt}
use Rattle.std.proofs.lemmas.Bool.{lt-ltb}
use Rattle.rand_pcg.specs.Lcg.{Lcg}
use Rattle.workload_gen.specs.declared.task.StoreShare.{StoreShare}
use Rattle.workload_gen.specs.declared.task.Task.{Task}
use Rattle.workload_gen.specs.declared.turn.Turn.{Turn}
use Rattle.workload_gen.specs.declared.draw.Draw.TheInside.{Inside}
use Rattle.workload_gen.specs.Keeps.{Keeps}
use Rattle.workload_gen.specs.Turns.{block_at, chosen, due_at, is_random_at, next_block, position_at, position_behind, random_block, share_at, turn_at, word_of}
use Rattle.workload_gen.specs.Words.{behind_words, generator_of, word_at}
use Rattle.workload_gen.proofs.Generators.{behind_more, word_more}
use Rattle.workload_gen.proofs.Steps.{position_more}

-- a word of the generator is one of the turn
pub word_is : (task : Task) (total : ℕ) (generator : Lcg) (here turns k x : ℕ) → Keeps task total generator here turns → x ≡ word_at generator k → x ≡ word_of task turns k
word_is task total generator here turns k x keeps is =
    is ∙ ap (λ (g : Lcg). word_at g k) keeps.words ∙ word_more (generator_of task.run task.worker) (4 * turns) k

-- the generator behind a turn's words
pub words_more : (task : Task) (total : ℕ) (generator rest : Lcg) (here turns : ℕ) → Keeps task total generator here turns → rest ≡ behind_words generator 4
    → rest ≡ behind_words (generator_of task.run task.worker) (4 * (turns + 1))
words_more task total generator rest here turns keeps is =
    let same : 4 * turns + 4 ≡ 4 * (turns + 1) = omega arith in
    is ∙ ap (λ (g : Lcg). behind_words g 4) keeps.words ∙ behind_more (generator_of task.run task.worker) (4 * turns) 4 ∙ ap (behind_words (generator_of task.run task.worker)) same

-- the share that the first word chooses
pub share_is : (task : Task) (total : ℕ) (generator : Lcg) (here turns x : ℕ) → Keeps task total generator here turns → x ≡ word_at generator 0 → chosen task.shares (x % total) ≡ share_at task turns
share_is task total generator here turns x keeps is =
    ap (λ (n : ℕ). chosen task.shares (n % total)) (word_is task total generator here turns 0 x keeps is)
    ∙ ap (λ (n : ℕ). chosen task.shares (word_of task turns 0 % n)) keeps.weight

-- a turn's block, and the position that it leaves
pub record Leaves (task : Task) (turns block here : ℕ) : Type 0 where
  pub first : block ≡ block_at task turns
  pub position : here ≡ position_at task (turns + 1)
  pub inside : here < task.blocks

-- a random turn
pub random_leaves : (task : Task) (total : ℕ) (generator : Lcg) (here turns x y : ℕ) (share : StoreShare) → Keeps task total generator here turns → share ≡ share_at task turns
    → x ≡ word_at generator 2 → y ≡ word_at generator 3 → x % 100 < share.seekpct
    → Leaves task turns (random_block task.blocks share.many y) here
random_leaves task total generator here turns x y share keeps is is_x is_y below =
    let third : x ≡ word_of task turns 2 = word_is task total generator here turns 2 x keeps is_x in
    let fourth : y ≡ word_of task turns 3 = word_is task total generator here turns 3 y keeps is_y in
    let random : is_random_at task turns ≡ true =
    ap (λ (n : ℕ). nat_lt (n % 100) (share_at task turns).seekpct) (sym third)
    ∙ ap (λ (s : StoreShare). nat_lt (x % 100) s.seekpct) (sym is) ∙ lt-ltb (x % 100) share.seekpct below in
    record {
      first =
          ap (λ (s : StoreShare). random_block task.blocks s.many y) is ∙ ap (random_block task.blocks (share_at task turns).many) fourth
          ∙ sym (ap (λ (b : Bool). if b then random_block task.blocks (share_at task turns).many (word_of task turns 3) else next_block task.blocks (share_at task turns).many (position_at task turns)) random);
      position = keeps.position
          ∙ sym (ap (λ (b : Bool). if b then position_at task turns else position_behind task.blocks (share_at task turns).many (next_block task.blocks (share_at task turns).many (position_at task turns))) random)
          ∙ sym (position_more task turns);
      inside = keeps.inside;
    }

not_below : (n m : ℕ) → m ≤ n → nat_lt n m ≡ false
not_below n m h = grind arith

-- a turn in order
pub ordered_leaves : (task : Task) (total : ℕ) (generator : Lcg) (here turns x block behind : ℕ) (share : StoreShare) → Keeps task total generator here turns → share ≡ share_at task turns
    → x ≡ word_at generator 2 → share.seekpct ≤ x % 100 → block ≡ next_block task.blocks share.many here → behind ≡ position_behind task.blocks share.many block → behind < task.blocks
    → Leaves task turns block behind
ordered_leaves task total generator here turns x block behind share keeps is is_x above is_block is_behind inside =
    let third : x ≡ word_of task turns 2 = word_is task total generator here turns 2 x keeps is_x in
    let not_random : is_random_at task turns ≡ false =
    ap (λ (n : ℕ). nat_lt (n % 100) (share_at task turns).seekpct) (sym third)
    ∙ ap (λ (s : StoreShare). nat_lt (x % 100) s.seekpct) (sym is) ∙ not_below (x % 100) share.seekpct above in
    let first : block ≡ next_block task.blocks (share_at task turns).many (position_at task turns) =
    is_block ∙ ap (λ (s : StoreShare). next_block task.blocks s.many here) is ∙ ap (next_block task.blocks (share_at task turns).many) keeps.position in
    record {
      first = first
          ∙ sym (ap (λ (b : Bool). if b then random_block task.blocks (share_at task turns).many (word_of task turns 3) else next_block task.blocks (share_at task turns).many (position_at task turns)) not_random);
      position = is_behind ∙ ap (λ (s : StoreShare). position_behind task.blocks s.many block) is
          ∙ ap (position_behind task.blocks (share_at task turns).many) first
          ∙ sym (ap (λ (b : Bool). if b then position_at task turns else position_behind task.blocks (share_at task turns).many (next_block task.blocks (share_at task turns).many (position_at task turns))) not_random)
          ∙ sym (position_more task turns);
      inside = inside;
    }

-- the parts of a draw behind the choice of a turn's block
pub record Chose (task : Task) (total : ℕ) (rest : Lcg) (turns block : ℕ) (now : Inside) : Type 0 where
  pub task_is : now.task ≡ task
  pub total_is : now.weight ≡ total
  pub rest_is : now.generator ≡ rest
  pub turns_is : now.turns ≡ turns
  pub leaves : Leaves task turns block now.position

-- what a draw keeps behind a turn
pub keeps_more : (task : Task) (total : ℕ) (generator rest : Lcg) (here turns block : ℕ) (now : Inside) → Keeps task total generator here turns → rest ≡ behind_words generator 4 → Chose task total rest turns block now
    → Keeps now.task now.weight now.generator now.position (now.turns + 1)
keeps_more task total generator rest here turns block now keeps behind chose =
    let kept : Keeps task total rest now.position (turns + 1) = record {
      can_draw = keeps.can_draw;
      few_blocks = keeps.few_blocks;
      weight = keeps.weight;
      words = words_more task total generator rest here turns keeps behind;
      position = chose.leaves.position;
      inside = chose.leaves.inside;
    } in
    let with_task : Keeps now.task total rest now.position (turns + 1) = subst (λ (t : Task). Keeps t total rest now.position (turns + 1)) (sym chose.task_is) kept in
    let with_total : Keeps now.task now.weight rest now.position (turns + 1) = subst (λ (n : ℕ). Keeps now.task n rest now.position (turns + 1)) (sym chose.total_is) with_task in
    let with_rest : Keeps now.task now.weight now.generator now.position (turns + 1) = subst (λ (g : Lcg). Keeps now.task now.weight g now.position (turns + 1)) (sym chose.rest_is) with_total in
    subst (λ (n : ℕ). Keeps now.task now.weight now.generator now.position (n + 1)) (sym chose.turns_is) with_rest

abbrev pub made : ℕ → ℕ → ℕ → StoreShare → Turn
made first x due share = record { block = record { 0 = first }; many = share.many; read = nat_lt (x % 100) share.rdpct; due = due; share = share.place }

-- a turn that is put together is the next one
pub turn_is : (task : Task) (turns first x due : ℕ) (share : StoreShare) → share ≡ share_at task turns → first ≡ block_at task turns → x ≡ word_of task turns 1 → due ≡ due_at task turns
    → made first x due share ≡ turn_at task turns
turn_is task turns first x due share is_share is_first is_x is_due =
    ap (λ (s : StoreShare). made first x due s) is_share
    ∙ ap (λ (n : ℕ). made n x due (share_at task turns)) is_first
    ∙ ap (λ (n : ℕ). made (block_at task turns) n due (share_at task turns)) is_x
    ∙ ap (λ (n : ℕ). made (block_at task turns) (word_of task turns 1) n (share_at task turns)) is_due
