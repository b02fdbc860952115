-- From the labors of a store's workers to what they drew.
use Rattle.std.proofs.Common.{◌≡◌, ◌≢◌, ℕ, zero, suc, ◌*◌, ◌+◌, ◌^◌, ◌<◌, ◌≤◌, Bool, true, false, cond, All, List, [], ◌∷◌, ◌++◌, length, length-append, map, slice_index_or, refl, sym, ap, subst, ◌∙◌, arith}
use Rattle.std.specs.Prelude.{AllPairs, IsTrue}
use Rattle.std.specs.List.{flat_map}
use Rattle.vd_outside.specs.Clocks.{ClockSeen}
use Rattle.vd_arm.specs.Arm.{PassSeen}
use Rattle.plan_types.specs.declared.plan.Plan.{Plan}
use Rattle.plan_types.specs.declared.run.RunPlan.{RunPlan}
use Rattle.plan_types.specs.declared.run.WorkerPlan.{WorkerPlan}
use Rattle.key_state.specs.declared.fault.BookFault.{BookFault}
use Rattle.key_state.specs.declared.seen.BookSeen.{BookSeen}
use Rattle.claim_table.specs.Closings.{Returned}
use Rattle.claim_table.specs.Sums.{Each, total}
use Rattle.claim_table.specs.Views.{bad, fresh}
use Rattle.claim_table.specs.declared.view.Made.{Made}
use Rattle.claim_table.specs.declared.view.View.{View}
use Rattle.worker_tally.specs.declared.tally.Numbers.{Numbers}
use Rattle.workload_gen.specs.Task.{task_of}
use Rattle.workload_gen.specs.Turns.{turns_of}
use Rattle.workload_gen.specs.declared.task.Task.{Task}
use Rattle.workload_gen.specs.declared.turn.Turn.{Turn}
use Rattle.slave_worker.specs.Drawn.{AllTurnsAddUp, AreOneBlock, BadSkipsAreNone, BlocksAreUsed, Drew, DrewAll, IsDrawnBy, NoMoreThanDrawn, OneBlockTurnsAddUp, OneWorkerDoesItsDraw, OneWorkerIsNeverBusy, RereadsAreWrites, StillRunsMakeAllTurns, TurnsAreDrawn, TurnsAreFew, WentWell, begins_at, blocks_read, blocks_written, drawn_by, numbers}
use Rattle.slave_worker.specs.Ends.{rules_of}
use Rattle.slave_worker.specs.Standings.{standing}
use Rattle.slave_worker.specs.declared.did.WorkEnd.{WorkEnd}
use Rattle.slave_worker.specs.declared.did.WorkEnd.TheVariants as work_end
use Rattle.master_run.specs.Labors.{DidWork, Labor}
use Rattle.master_run.specs.Yards.{fresh_arm}
use Rattle.run_report.specs.declared.run_sums.Totals.{Totals}
use Rattle.run_totals.specs.Drawn.{IsDrawn, IsIn, IsWholeDraw, first_turns, its_shares}
use Rattle.run_totals.specs.Whole.{is_by_book}
use Rattle.run_totals.proofs.Lists.{each_both, total_none, total_plus, total_same}
use Rattle.run_totals.proofs.Totals.{AreTotals, told}

-- what is known of draws
pub record DrawLaws : Type 0 where
  pub drawn : TurnsAreDrawn
  pub few : TurnsAreFew
  pub still : StillRunsMakeAllTurns
  pub all_turns : AllTurnsAddUp
  pub rereads : RereadsAreWrites
  pub one_block : OneBlockTurnsAddUp
  pub no_more : NoMoreThanDrawn
  pub never_busy : OneWorkerIsNeverBusy
  pub whole_draw : OneWorkerDoesItsDraw
  pub no_badskips : BadSkipsAreNone
  pub used : BlocksAreUsed

-- Lists of turns.
turns_long : (task : Task) (many : ℕ) → length (turns_of task many) ≡ many
unfolding turns_of
turns_long task zero = refl
turns_long task (suc many) = ap suc (turns_long task many)

total_append : {A : Type 0} (f : A → ℕ) (xs ys : List A) → total f (xs ++ ys) ≡ total f xs + total f ys
total_append f [] ys = omega arith
total_append f (x ∷ xs) ys = omega (arith, total_append f xs ys)

total_flat : {A B : Type 0} (f : B → ℕ) (g : A → List B) (xs : List A) → total f (flat_map g xs) ≡ total (λ x. total f (g x)) xs
total_flat f g [] = refl
total_flat f g (x ∷ xs) = omega (arith, total_append f (g x) (flat_map g xs), total_flat f g xs)

long_flat : {A B : Type 0} (g : A → List B) (xs : List A) → length (flat_map g xs) ≡ total (λ x. length (g x)) xs
long_flat g [] = refl
long_flat g (x ∷ xs) = omega (arith, length-append (g x) (flat_map g xs), long_flat g xs)

total_most : {A : Type 0} (f g : A → ℕ) (xs : List A) → Each (λ x. f x ≤ g x) xs → total f xs ≤ total g xs
total_most f g [] each = omega arith
total_most f g (x ∷ xs) each = omega (arith, each.0, total_most f g xs each.1)

each_of : {A : Type 0} (Q : A → Type 0) (xs : List A) → ((x : A) → Q x) → Each Q xs
each_of Q [] gives = tt
each_of Q (x ∷ xs) gives = (gives x, each_of Q xs gives)

none_so : (reread : Bool) (n : ℕ) → n ≡ 0 → cond reread n 0 ≡ n
none_so true n is = refl
none_so false n is = sym is

plus_so : (reread : Bool) (m n : ℕ) → cond reread m 0 + cond reread n 0 ≡ cond reread (m + n) 0
plus_so true m n = refl
plus_so false m n = refl

total_cond : {A : Type 0} (reread : Bool) (f g : A → ℕ) (xs : List A) → Each (λ x. f x ≡ cond reread (g x) 0) xs → total f xs ≡ cond reread (total g xs) 0
total_cond reread f g [] each = sym (none_so reread 0 refl)
total_cond reread f g (x ∷ xs) each = omega (arith, each.0, total_cond reread f g xs each.1, plus_so reread (g x) (total g xs))

not_book : (end : WorkEnd) → is_by_book end ≡ false → (fault : BookFault) → end ≢ work_end.Book fault
not_book end by fault is = let so : true ≡ false = sym (ap is_by_book is) ∙ by in cc

-- what a worker drew over a table that was made so
module _ (plan : Plan) (run : RunPlan) (start : ℕ) (clock : ClockSeen) (made : Made) (sure : Bool) where
  abbrev pub Did : Labor → Type 0
  Did labor = DidWork plan run made.store start clock made sure labor

  abbrev pub drew : (labor : Labor) → Did labor → Drew
  drew labor did = record {
    rules = rules_of plan run labor.worker start;
    made = made;
    task = task_of run labor.worker made.store.geometry;
    turns = run.turns;
    many = did.many;
    before = standing (fresh made (2 ^ 32)) did.empty (fresh_arm sure) 0 clock;
    after = standing labor.view labor.tally labor.arm labor.notes labor.clock;
    answers = labor.answers;
    end = labor.end;
    new_seat = refl;
    no_turns = did.is_empty.numbers;
    worked = did.worked;
  }

  abbrev pub works : (labors : List Labor) → Each Did labors → List Drew
  works [] each = []
  works (labor ∷ labors) each = drew labor each.0 ∷ works labors each.1

  works_views : (labors : List Labor) (each : Each Did labors) → map (λ (work : Drew). work.after.view) (works labors each) ≡ map (λ (labor : Labor). labor.view) labors
  works_views [] each = refl
  works_views (labor ∷ labors) each = ap (λ l. labor.view ∷ l) (works_views labors each.1)

  works_sum : (number : Numbers → ℕ) (labors : List Labor) (each : Each Did labors) → total (λ work. number (numbers work)) (works labors each) ≡ total (λ (labor : Labor). number labor.tally.numbers) labors
  works_sum number [] each = refl
  works_sum number (labor ∷ labors) each = ap (λ n. number labor.tally.numbers + n) (works_sum number labors each.1)

  works_long : (labors : List Labor) (each : Each Did labors) → length (works labors each) ≡ length labors
  works_long [] each = refl
  works_long (labor ∷ labors) each = ap suc (works_long labors each.1)

  works_made : (labors : List Labor) (each : Each Did labors) → Each (λ (work : Drew). work.made ≡ made) (works labors each)
  works_made [] each = tt
  works_made (labor ∷ labors) each = (refl, works_made labors each.1)

  works_turns : (labors : List Labor) (each : Each Did labors) → Each (λ (work : Drew). work.turns ≡ run.turns) (works labors each)
  works_turns [] each = tt
  works_turns (labor ∷ labors) each = (refl, works_turns labors each.1)

  works_rereads : (labors : List Labor) (each : Each Did labors) → Each (λ (work : Drew). work.rules.reread ≡ plan.reread) (works labors each)
  works_rereads [] each = tt
  works_rereads (labor ∷ labors) each = (refl, works_rereads labors each.1)

  works_ones : (place : ℕ) (labors : List Labor) (each : Each Did labors) → Each (λ labor. labor.worker.store ≡ place) labors → AreOneBlock (its_shares run made.store.geometry place) → Each (λ (work : Drew). AreOneBlock work.task.shares) (works labors each)
  works_ones place [] each theirs ones = tt
  works_ones place (labor ∷ labors) each theirs ones =
      (subst (λ (n : ℕ). AreOneBlock (its_shares run made.store.geometry n)) (sym theirs.0) ones, works_ones place labors each.1 theirs.1 ones)

  works_well : (labors : List Labor) (each : Each Did labors) → Each (λ (labor : Labor). is_by_book labor.end ≡ false) labors → total (λ (labor : Labor). labor.tally.numbers.faults) labors ≡ 0 → total (λ (labor : Labor). labor.tally.numbers.corrupt) labors ≡ 0 → Each WentWell (works labors each)
  works_well [] each by faults corrupt = tt
  works_well (labor ∷ labors) each by faults corrupt =
      (record { faults = omega (arith, faults); corrupt = omega (arith, corrupt); book = not_book labor.end by.0 }, works_well labors each.1 by.1 (omega (arith, faults)) (omega (arith, corrupt)))

  -- the turns that they made, as their tallies have them
  abbrev pub made_by : List Labor → List Turn
  made_by labors = flat_map (λ one. first_turns run made.store.geometry one.0 one.1.numbers.turns) (map told labors)

  module _ (laws : DrawLaws) where
    works_drawn : (f : Turn → ℕ) (labors : List Labor) (each : Each Did labors) → total (λ work. total f (drawn_by work)) (works labors each) ≡ total f (made_by labors)
    works_drawn f [] each = refl
    works_drawn f (labor ∷ labors) each =
        let many = ap (λ (n : ℕ). total f (turns_of (task_of run labor.worker made.store.geometry) n)) (laws.drawn (drew labor each.0)) in
        omega (arith, many, works_drawn f labors each.1, total_append f (first_turns run made.store.geometry labor.worker labor.tally.numbers.turns) (made_by labors))

    made_long : (labors : List Labor) → length (made_by labors) ≡ total (λ (labor : Labor). labor.tally.numbers.turns) labors
    made_long [] = refl
    made_long (labor ∷ labors) =
        omega (arith, length-append (first_turns run made.store.geometry labor.worker labor.tally.numbers.turns) (made_by labors), turns_long (task_of run labor.worker made.store.geometry) labor.tally.numbers.turns, made_long labors)

    module _ (place : ℕ) (labors : List Labor) (each : Each Did labors) (theirs : Each (λ labor. labor.worker.store ≡ place) labors) (totals : Totals) (are : AreTotals labors totals)
        (by : Each (λ (labor : Labor). is_by_book labor.end ≡ false) labors) (faults : totals.faults ≡ 0) (corrupt : totals.corrupt ≡ 0)
      where
        abbrev all_works : List Drew
        all_works = works labors each

        all_well : Each WentWell all_works
        all_well = works_well labors each by (sym are.faults ∙ faults) (sym are.corrupt ∙ corrupt)

        -- Over a clock that stands still all turns are made.
        all_still : IsTrue clock.still → clock.last ≡ start → start < 2 ^ 63 → 1 ≤ run.elapsed → (labors : List Labor) (each : Each Did labors) → Each WentWell (works labors each) → total (λ (labor : Labor). labor.tally.numbers.turns) labors ≡ length labors * run.turns
        all_still still began early some [] each well = omega arith
        all_still still began early some (labor ∷ labors) each well =
            let one = laws.still (drew labor each.0) well.0 still (omega (arith, began, early, some)) in
            omega (arith, one, all_still still began early some labors each.1 well.1)

        pub still_turns : IsTrue clock.still → clock.last ≡ start → start < 2 ^ 63 → 1 ≤ run.elapsed → totals.turns ≡ totals.workers * run.turns
        still_turns still began early some = are.turns ∙ all_still still began early some labors each all_well ∙ ap (λ (n : ℕ). n * run.turns) (sym are.workers)

        pub reread_all : totals.rereads ≡ cond plan.reread totals.writes 0
        reread_all =
            let one = each_both WentWell (λ (work : Drew). work.rules.reread ≡ plan.reread) (λ (work : Drew). (numbers work).rereads ≡ cond plan.reread (numbers work).writes 0) all_works
            (λ work well is. laws.rereads work well ∙ ap (λ (b : Bool). cond b (numbers work).writes 0) is) all_well (works_rereads labors each) in
            are.rereads ∙ sym (works_sum (λ n. n.rereads) labors each) ∙ total_cond plan.reread (λ (work : Drew). (numbers work).rereads) (λ (work : Drew). (numbers work).writes) all_works one
            ∙ ap (λ (n : ℕ). cond plan.reread n 0) (works_sum (λ n. n.writes) labors each ∙ sym are.writes)

        few_reads : totals.reads ≤ total blocks_read (made_by labors)
        few_reads =
            let most = total_most (λ (work : Drew). (numbers work).reads) (λ (work : Drew). total blocks_read (drawn_by work)) all_works (each_of (λ (work : Drew). (numbers work).reads ≤ total blocks_read (drawn_by work)) all_works (λ work. (laws.no_more work).0)) in
            omega (arith, are.reads, works_sum (λ n. n.reads) labors each, most, works_drawn blocks_read labors each)

        few_writes : totals.writes ≤ total blocks_written (made_by labors)
        few_writes =
            let most = total_most (λ (work : Drew). (numbers work).writes) (λ (work : Drew). total blocks_written (drawn_by work)) all_works (each_of (λ (work : Drew). (numbers work).writes ≤ total blocks_written (drawn_by work)) all_works (λ work. (laws.no_more work).1)) in
            omega (arith, are.writes, works_sum (λ n. n.writes) labors each, most, works_drawn blocks_written labors each)

        parts_add : AreOneBlock (its_shares run made.store.geometry place) → totals.reads + totals.writes + totals.busy + totals.badskip ≡ totals.turns
        parts_add ones =
            let same = total_same (λ (work : Drew). (numbers work).reads + (numbers work).writes + (numbers work).busy + (numbers work).badskip) (λ (work : Drew). (numbers work).turns) all_works
            (each_both WentWell (λ (work : Drew). AreOneBlock work.task.shares) (λ (work : Drew). (numbers work).reads + (numbers work).writes + (numbers work).busy + (numbers work).badskip ≡ (numbers work).turns) all_works laws.one_block all_well (works_ones place labors each theirs ones)) in
            let two = total_plus (λ (work : Drew). (numbers work).reads) (λ (work : Drew). (numbers work).writes) all_works in
            let three = total_plus (λ (work : Drew). (numbers work).reads + (numbers work).writes) (λ (work : Drew). (numbers work).busy) all_works in
            let four = total_plus (λ (work : Drew). (numbers work).reads + (numbers work).writes + (numbers work).busy) (λ (work : Drew). (numbers work).badskip) all_works in
            omega (arith, same, two, three, four, are.reads, are.writes, are.busy, are.badskip, are.turns, works_sum (λ n. n.reads) labors each, works_sum (λ n. n.writes) labors each, works_sum (λ n. n.busy) labors each, works_sum (λ n. n.badskip) labors each, works_sum (λ n. n.turns) labors each)

        module _ (passes : List PassSeen) (book : BookSeen) (returned : Returned made (map (λ (labor : Labor). labor.view) labors) passes book) (sized : length made.book.now ≡ made.store.geometry.blocks) where
          abbrev all_drew : DrewAll
          all_drew = record {
            made = made;
            works = all_works;
            passes = passes;
            book = book;
            sized = sized;
            same = works_made labors each;
            returned = subst (λ (l : List View). Returned made l passes book) (sym (works_views labors each)) returned;
          }

          pub none_skipped : total bad made.book.now ≡ 0 → totals.badskip ≡ 0
          none_skipped none = are.badskip ∙ sym (works_sum (λ n. n.badskip) labors each) ∙ total_none (λ (work : Drew). (numbers work).badskip) all_works (laws.no_badskips all_drew none all_well)

          blocks_used : AreOneBlock (its_shares run made.store.geometry place) → (blocks : List ℕ) → AllPairs (λ one other. one ≢ other) blocks → All (IsIn (made_by labors)) blocks → length blocks + totals.busy ≤ totals.turns
          blocks_used ones blocks different drawn =
              let by_works : All (IsDrawnBy all_works) blocks = λ k d within. let so = drawn k d within in omega (arith, so, works_drawn (begins_at (slice_index_or blocks k d)) labors each) in
              let few = laws.used all_drew (works_ones place labors each theirs ones) blocks different by_works in
              omega (arith, few, are.busy, are.turns, works_sum (λ n. n.busy) labors each, works_sum (λ n. n.turns) labors each)

          pub is_drawn : total bad made.book.now ≡ 0 → IsDrawn plan.reread (its_shares run made.store.geometry place) (made_by labors) totals
          is_drawn none = record {
            many = are.turns ∙ sym (made_long labors);
            badskip = none_skipped none;
            rereads = reread_all;
            reads = few_reads;
            writes = few_writes;
            add_up = λ ones. omega (arith, parts_add ones, none_skipped none);
            used = blocks_used;
          }

    -- one worker
    pub whole_of : (labors : List Labor) (each : Each Did labors) (totals : Totals) → AreTotals labors totals → Each (λ (labor : Labor). is_by_book labor.end ≡ false) labors → totals.faults ≡ 0 → totals.corrupt ≡ 0 → totals.badskip ≡ 0
        → made.seats ≡ 1 → (worker : WorkerPlan) → map (λ (labor : Labor). labor.worker) labors ≡ worker ∷ [] → IsWholeDraw (first_turns run made.store.geometry worker totals.turns) totals
    whole_of [] each totals are by faults corrupt none seats worker is = absurd (let so : 0 ≡ 1 = ap length is in omega (arith, so))
    whole_of (labor ∷ other ∷ labors) each totals are by faults corrupt none seats worker is = absurd (let so : suc (suc (length (map (λ (l : Labor). l.worker) labors))) ≡ 1 = ap length is in omega (arith, so))
    whole_of (labor ∷ []) each totals are by faults corrupt none seats worker is =
        let work : Drew = drew labor each.0 in
        let well : WentWell work = record { faults = omega (arith, are.faults, faults); corrupt = omega (arith, are.corrupt, corrupt); book = not_book labor.end by.0 } in
        let busy = laws.never_busy work seats in
        let all = laws.whole_draw work seats well (omega (arith, are.badskip, none)) in
        let many : each.0.many ≡ totals.turns = omega (arith, laws.drawn work, are.turns) in
        let same : labor.worker ≡ worker = same_head labor.worker worker is in
        let turns : turns_of (task_of run labor.worker made.store.geometry) each.0.many ≡ first_turns run made.store.geometry worker totals.turns =
        ap (λ (n : ℕ). turns_of (task_of run labor.worker made.store.geometry) n) many ∙ ap (λ (w : WorkerPlan). turns_of (task_of run w made.store.geometry) totals.turns) same
        in
        record {
          busy = omega (arith, are.busy, busy);
          reads = omega (arith, are.reads, all.0, ap (total blocks_read) turns);
          writes = omega (arith, are.writes, all.1, ap (total blocks_written) turns);
        }
      where
        same_head : (x y : WorkerPlan) → x ∷ [] ≡ y ∷ [] → x ≡ y
        same_head x y is = cc
