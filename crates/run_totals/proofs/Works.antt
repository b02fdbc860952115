-- What a worker's labor adds up to, and why it ended.
use Rattle.std.proofs.Common.{◌≡◌, ℕ, ◌+◌, ◌-◌, ◌%◌, ◌^◌, ◌<◌, ◌≤◌, min, Bool, true, false, List, [], ◌∷◌, ◌++◌, length, Option, Some, None, refl, ap, ◌∙◌, arith}
use Rattle.std.specs.Prelude.{IsTrue}
use Rattle.vd_base.specs.declared.geometry.StoreId.{StoreId}
use Rattle.vd_arm.specs.Arm.{PassSeen}
use Rattle.vd_outside.specs.Clocks.{ClockSeen}
use Rattle.plan_types.specs.declared.plan.Plan.{Plan}
use Rattle.plan_types.specs.declared.run.RunPlan.{RunPlan}
use Rattle.block_verdict.specs.declared.finding.Finding.{Finding}
use Rattle.key_state.specs.declared.seen.BookSeen.{BookSeen}
use Rattle.claim_table.specs.Passes.{Fitted}
use Rattle.claim_table.specs.Sums.{Each, total}
use Rattle.claim_table.specs.Views.{fresh}
use Rattle.claim_table.specs.declared.view.Made.{Made}
use Rattle.claim_table.specs.declared.view.View.{View}
use Rattle.worker_tally.specs.Tallies.{Tallied}
use Rattle.worker_tally.specs.declared.done.Refusal.{Refusal}
use Rattle.worker_tally.specs.declared.done.Refusal.TheVariants as refusal
use Rattle.worker_tally.specs.declared.row.Intervals.{Intervals}
use Rattle.worker_tally.specs.declared.tally.Numbers.{Numbers}
use Rattle.error_limit.specs.Rule.{newest}
use Rattle.slave_worker.specs.Dids.{IsTurn}
use Rattle.slave_worker.specs.Ends.{Finished, NoFault, last_look, rules_of}
use Rattle.slave_worker.specs.Sentences.{FaultsAreCounted, FaultsAreFound, NoMoreCorrupt, NotedOnce, ReadsAreGood, WritesAreEnded, WritesAreGood, all_reads, corrupt_block_in, fault_in}
use Rattle.slave_worker.specs.Standings.{Standing, standing, tallied, turn_tallied}
use Rattle.slave_worker.specs.declared.did.Did.{Did}
use Rattle.slave_worker.specs.declared.did.Rules.{Rules}
use Rattle.slave_worker.specs.declared.did.WorkEnd.{WorkEnd}
use Rattle.slave_worker.specs.declared.did.WorkEnd.TheVariants as work_end
use Rattle.master_run.specs.Labors.{DidWork, Labor}
use Rattle.master_run.specs.Yards.{fresh_arm}
use Rattle.run_totals.specs.Sentences.{EndsBy, FindingsAreCounted}
use Rattle.run_totals.specs.Whole.{is_by_book}

-- what turns add up to
pub record Laws : Type 0 where
  pub writes : WritesAreEnded
  pub no_more : NoMoreCorrupt
  pub reads : ReadsAreGood
  pub good_writes : WritesAreGood
  pub faults : FaultsAreCounted
  pub findings : FaultsAreFound
  pub notes : NotedOnce

-- how a worker's tally, view, arm and notes go together
pub record AddUp (labor : Labor) : Type 0 where
  pub writes : labor.tally.numbers.writes ≡ length labor.view.wrote
  pub reads : labor.arm.good_reads % 2 ^ 64 ≡ all_reads labor.tally.numbers % 2 ^ 64
  pub faults : min labor.tally.numbers.faults (2 ^ 64 - 1) ≤ labor.arm.faults
  pub no_fault : labor.tally.numbers.faults ≡ 0 → labor.arm.faults ≡ 0
  pub notes : labor.notes ≡ length labor.tally.findings
  pub found : FindingsAreCounted labor.tally
  pub good_writes : is_by_book labor.end ≡ false → labor.arm.good_writes % 2 ^ 64 ≡ labor.tally.numbers.writes % 2 ^ 64
  pub corrupt : is_by_book labor.end ≡ false → labor.tally.numbers.corrupt ≡ length labor.view.spoilt

-- Work that didn't end by the book met no fault of it.
quiet : (rules : Rules) (turns : ℕ) (dids : List Did) (view : View) (last : ℕ) (clock : ClockSeen) (end : WorkEnd) → Finished rules turns dids view last clock end → is_by_book end ≡ false → NoFault dids
quiet rules turns dids view last clock work_end.TurnsMade finished by = finished.1
quiet rules turns dids view last clock (work_end.TimeUp time) finished by = finished.1
quiet rules turns dids view last clock (work_end.ErrorLimit seen) finished by = finished.1
quiet rules turns dids view last clock (work_end.Book fault) finished by = absurd (let so : true ≡ false = by in cc)

-- Corrupt blocks and failed calls that were found.
found_from : (old new : Tallied) → old.numbers.faults ≡ 0 → old.numbers.corrupt ≡ 0 → old.findings ≡ [] → (more : List Finding) → new.findings ≡ old.findings ++ more → new.numbers.faults ≡ old.numbers.faults + total fault_in more → new.numbers.corrupt ≡ old.numbers.corrupt + total corrupt_block_in more → FindingsAreCounted new
found_from old new no_faults no_corrupt none more are faults corrupt =
    let all : new.findings ≡ more = are ∙ ap (λ l. l ++ more) none in
    record {
      faults = omega (arith, no_faults, faults, ap (total fault_in) all);
      corrupt = omega (arith, no_corrupt, corrupt, ap (total corrupt_block_in) all);
    }

module _ (plan : Plan) (run : RunPlan) (store : StoreId) (start : ℕ) (clock : ClockSeen) (made : Made) (sure : Bool) where
  pub adds_up : Laws → (labor : Labor) → DidWork plan run store start clock made sure labor → AddUp labor
  adds_up laws labor did =
      let rules : Rules = rules_of plan run labor.worker start in
      let before : Standing = standing (fresh made (2 ^ 32)) did.empty (fresh_arm sure) 0 clock in
      let after : Standing = standing labor.view labor.tally labor.arm labor.notes labor.clock in
      let dids : List Did = did.worked.0 in
      let looks : ℕ = length dids + last_look labor.end in
      let each = did.worked.1 in
      let worked = did.worked.3 in
      let calm = quiet rules run.turns dids labor.view (newest labor.answers) labor.clock labor.end did.worked.4 in
      let writes = laws.writes rules store dids looks before after each worked in
      let reads = laws.reads rules store dids looks before after each worked in
      let good_writes = laws.good_writes rules store dids looks before after each worked in
      let faults = laws.faults rules store dids looks before after each worked in
      let found = laws.findings rules store dids looks before after each worked in
      let no_writes : did.empty.numbers.writes ≡ 0 = ap (λ (n : Numbers). n.writes) did.is_empty.numbers in
      let no_reads : all_reads did.empty.numbers ≡ 0 = ap all_reads did.is_empty.numbers in
      let no_faults : did.empty.numbers.faults ≡ 0 = ap (λ (n : Numbers). n.faults) did.is_empty.numbers in
      let no_corrupt : did.empty.numbers.corrupt ≡ 0 = ap (λ (n : Numbers). n.corrupt) did.is_empty.numbers in
      record {
        writes = omega (arith, writes, no_writes);
        reads = omega (arith, reads.1, reads.2, no_reads);
        faults = omega (arith, faults.1, faults.2, no_faults);
        no_fault = λ none. faults.3 (omega (arith, none, faults.1, no_faults));
        notes = omega (arith, laws.notes rules store dids looks before after each worked, ap length did.is_empty.findings);
        found = found_from did.empty labor.tally no_faults no_corrupt did.is_empty.findings found.0 found.1 found.2 found.3;
        good_writes = λ by. omega (arith, good_writes.1, good_writes.3 (calm by), writes, no_writes);
        corrupt = λ by. omega (arith, laws.no_more rules store dids looks before after each worked (calm by), no_corrupt);
      }

-- How many turns were made, and corrupt blocks where no turn found one.
turns_one : (why : Option Refusal) (intervals : Intervals) (size : ℕ) (did : Did) (old : Tallied) → (turn_tallied why intervals size did old).numbers.turns ≡ old.numbers.turns + 1
turns_one None intervals size did old = refl
turns_one (Some refusal.Busy) intervals size did old = refl
turns_one (Some refusal.Bad) intervals size did old = refl

turns_all : (intervals : Intervals) (size : ℕ) (dids : List Did) (old : Tallied) → (tallied intervals size dids old).numbers.turns ≡ old.numbers.turns + length dids
turns_all intervals size [] old = omega arith
turns_all intervals size (did ∷ dids) old = omega (arith, turns_one did.refusal intervals size did (tallied intervals size dids old), turns_all intervals size dids old)

corrupt_one : (rules : Rules) (store : StoreId) (why : Option Refusal) (did : Did) → did.refusal ≡ why → IsTurn rules store did → did.corrupt ≡ [] → (intervals : Intervals) (size : ℕ) (old : Tallied) → (turn_tallied why intervals size did old).numbers.corrupt ≡ old.numbers.corrupt
corrupt_one rules store None did why is none intervals size old = omega (arith, (is.had why).as_many, ap length none)
corrupt_one rules store (Some refusal.Busy) did why is none intervals size old = refl
corrupt_one rules store (Some refusal.Bad) did why is none intervals size old = refl

corrupt_all : (rules : Rules) (store : StoreId) (intervals : Intervals) (size : ℕ) (dids : List Did) (old : Tallied) → Each (IsTurn rules store) dids → Each (λ did. did.corrupt ≡ []) dids → (tallied intervals size dids old).numbers.corrupt ≡ old.numbers.corrupt
corrupt_all rules store intervals size [] old each none = refl
corrupt_all rules store intervals size (did ∷ dids) old each none =
    corrupt_one rules store did.refusal did refl each.0 none.0 intervals size (tallied intervals size dids old) ∙ corrupt_all rules store intervals size dids old each.1 none.1

ended : {P B : Type 0} (pass_seen : P → PassSeen) (book_seen : B → BookSeen) (plan : Plan) (run : RunPlan) (rules : Rules) (dids : List Did) (view : View) (last : ℕ) (clock : ClockSeen) (tally : Tallied) (errors : ℕ) (book : BookSeen) (end : WorkEnd) → Finished rules run.turns dids view last clock end → tally.numbers.turns ≡ length dids → rules.limit ≡ plan.data_errors → last ≤ errors → (view.shut ≡ true → book.shut ≡ true) → EndsBy pass_seen book_seen plan run errors tally book end
ended pass_seen book_seen plan run rules dids view last clock tally errors book work_end.TurnsMade finished turns limit under shuts = turns ∙ finished.0
ended pass_seen book_seen plan run rules dids view last clock tally errors book (work_end.TimeUp time) finished turns limit under shuts = omega (arith, turns, finished.0)
ended pass_seen book_seen plan run rules dids view last clock tally errors book (work_end.ErrorLimit seen) finished turns limit under shuts = (omega (arith, limit, finished.4), omega (arith, finished.3, under))
ended pass_seen book_seen plan run rules dids view last clock tally errors book (work_end.Book fault) finished turns limit under shuts = shuts finished.2.1

finished_few : (rules : Rules) (turns : ℕ) (dids : List Did) (view : View) (last : ℕ) (clock : ClockSeen) (end : WorkEnd) → Finished rules turns dids view last clock end → length dids ≤ turns
finished_few rules turns dids view last clock work_end.TurnsMade finished = omega (arith, finished.0)
finished_few rules turns dids view last clock (work_end.TimeUp time) finished = omega (arith, finished.0)
finished_few rules turns dids view last clock (work_end.ErrorLimit seen) finished = omega (arith, finished.0)
finished_few rules turns dids view last clock (work_end.Book fault) finished = finished.0

-- Work didn't end by the time where the clock's last reading is before the end.
not_timed : (rules : Rules) (turns : ℕ) (dids : List Did) (view : View) (last : ℕ) (clock : ClockSeen) (end : WorkEnd) → Finished rules turns dids view last clock end → clock.last < rules.end → (time : ℕ) → end ≡ work_end.TimeUp time → ⊥
not_timed rules turns dids view last clock work_end.TurnsMade finished early time is = absurd (let so : work_end.TurnsMade ≡ work_end.TimeUp time = is in cc)
not_timed rules turns dids view last clock (work_end.TimeUp other) finished early time is = absurd (omega (arith, early, finished.2, finished.3))
not_timed rules turns dids view last clock (work_end.ErrorLimit seen) finished early time is = absurd (let so : work_end.ErrorLimit seen ≡ work_end.TimeUp time = is in cc)
not_timed rules turns dids view last clock (work_end.Book fault) finished early time is = absurd (let so : work_end.Book fault ≡ work_end.TimeUp time = is in cc)

module _ (plan : Plan) (run : RunPlan) (store : StoreId) (start : ℕ) (clock : ClockSeen) (made : Made) (sure : Bool) (labor : Labor) (did : DidWork plan run store start clock made sure labor) where
  turns_are : labor.tally.numbers.turns ≡ length did.worked.0
  turns_are =
      let none : did.empty.numbers.turns ≡ 0 = ap (λ (n : Numbers). n.turns) did.is_empty.numbers in
      let all = turns_all (rules_of plan run labor.worker start).intervals store.geometry.block_size did.worked.0 did.empty in
      omega (arith, ap (λ (t : Tallied). t.numbers.turns) did.worked.3.tally, none, all)

  -- No worker makes more turns than the run has.
  pub few_turns : labor.tally.numbers.turns ≤ run.turns
  few_turns = omega (arith, turns_are, finished_few (rules_of plan run labor.worker start) run.turns did.worked.0 labor.view (newest labor.answers) labor.clock labor.end did.worked.4)

  pub fits_none : Fitted made → labor.tally.numbers.corrupt ≡ 0
  fits_none fitted =
      let rules : Rules = rules_of plan run labor.worker start in
      let none : did.empty.numbers.corrupt ≡ 0 = ap (λ (n : Numbers). n.corrupt) did.is_empty.numbers in
      ap (λ (t : Tallied). t.numbers.corrupt) did.worked.3.tally
      ∙ corrupt_all rules store rules.intervals store.geometry.block_size did.worked.0 did.empty did.worked.1 (did.worked.5 fitted) ∙ none

  -- a sure arm met no failed call
  pub none_failed : IsTrue sure → labor.arm.faults ≡ 0
  none_failed is = did.worked.3.arm.still is

  pub ends_by : {P B : Type 0} (pass_seen : P → PassSeen) (book_seen : B → BookSeen) (errors : ℕ) (book : BookSeen) → newest labor.answers ≤ errors → (labor.view.shut ≡ true → book.shut ≡ true) → EndsBy pass_seen book_seen plan run errors labor.tally book labor.end
  ends_by pass_seen book_seen errors book under shuts = ended pass_seen book_seen plan run (rules_of plan run labor.worker start) did.worked.0 labor.view (newest labor.answers) labor.clock labor.tally errors book labor.end did.worked.4 turns_are refl under shuts

  pub not_by_time : IsTrue clock.still → clock.last ≡ start → start < 2 ^ 63 → 1 ≤ run.elapsed → (time : ℕ) → labor.end ≡ work_end.TimeUp time → ⊥
  not_by_time still began early some time is =
      let rules : Rules = rules_of plan run labor.worker start in
      let stays : labor.clock.last ≡ clock.last = did.worked.3.clock.last still in
      not_timed rules run.turns did.worked.0 labor.view (newest labor.answers) labor.clock labor.end did.worked.4 (omega (arith, stays, began, early, some)) time is
