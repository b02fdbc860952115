-- Which runs of a plan were made, and that the text is theirs.
use Rattle.std.proofs.Common.{◌≡◌, ◌∙◌, refl, sym, ap, subst, arith, inl, inr, ℕ, ◌<◌, ◌≤◌, All, Bool, true, false, List, [], ◌∷◌, ◌++◌, append-nil, length, map, take, Option, Some, slice_get}
use Rattle.std.specs.Prelude.{◌≢◌, ◌||◌, if◌then◌else◌, nat_lt}
use Rattle.std.specs.List.{list_any}
use Rattle.std.proofs.lemmas.List.Folds.{list_any-append}
use Rattle.std.proofs.lemmas.List.{append_assoc}
use Rattle.std.proofs.lemmas.List.Elements.{All-head, All-tail}
use Rattle.std.proofs.lemmas.Option.{slice_get_cases}
use Rattle.vd_arm.specs.Arm.{PassSeen}
use Rattle.plan_types.specs.declared.plan.Plan.{Plan}
use Rattle.plan_types.specs.declared.run.RunPlan.{RunPlan}
use Rattle.plan_types.specs.declared.store.StorePlan.{StorePlan}
use Rattle.key_state.specs.declared.seen.BookSeen.{BookSeen}
use Rattle.worker_tally.specs.Tallies.{Tallied}
use Rattle.slave_worker.specs.Hands.{IsRunOf, hand_seen, works_in}
use Rattle.slave_worker.specs.declared.hand.RunAnswer.{RunAnswer}
use Rattle.slave_worker.specs.declared.hand.RunFault.TheVariants as refusal
use Rattle.run_report.specs.Lines.{cannot_open_text}
use Rattle.run_report.specs.declared.status.Status.{Status}
use Rattle.run_report.specs.declared.status.Status.TheVariants as status
use Rattle.plan_hands.specs.Openings.{data_path}
use Rattle.plan_runs.specs.Books.{books_status}
use Rattle.plan_runs.specs.Stages.{OneRun, RunsMade, Stage, is_last, made, made_status, made_text, not_opened, not_started, said_in_part}
use Rattle.plan_runs.specs.Statuses.{tallies_status, worse}
use Rattle.plan_runs.proofs.Devices.{fault_has, of_one_run}
use Rattle.plan_runs.proofs.Ended.{GoesOn, OfBooks, books_has, goes_on, of_books, tallies_has, worse_either, worse_has}
use Rattle.plan_runs.proofs.Going.{works_there}
use Rattle.plan_runs.proofs.Runs.{memory_shows, rest_yard, yard_shows}
use Rattle.plan_totals.specs.Made.{MadeRun, all_made, made_in, made_run, texts_of}
use Rattle.plan_totals.proofs.Books.{last_worse}

abbrev not_yard : Status → Bool
not_yard status.Yard = false
not_yard _ = true

abbrev run_of : MadeRun → RunPlan
run_of one = one.run

abbrev not_corrupt : Status → Bool
not_corrupt status.Corrupt = false
not_corrupt _ = true

abbrev pub corrupt_tally : Tallied → Bool
corrupt_tally tally = nat_lt 0 tally.numbers.corrupt

abbrev pub some_corrupt : MadeRun → Bool
some_corrupt one = list_any corrupt_tally one.tallies

or_true : (b : Bool) → (b || true) ≡ true
or_true true = refl
or_true false = refl

-- Tallies say that a block is corrupt only where one of them found it, and books never do.
corrupt_told : (tallies : List Tallied) (b c : Bool) → list_any (λ (tally : Tallied). nat_lt 0 tally.numbers.faults) tallies ≡ b → list_any corrupt_tally tallies ≡ c → tallies_status tallies ≡ status.Corrupt → c ≡ true
corrupt_told tallies true c is found corrupt =
    absurd (let so : status.Device ≡ status.Corrupt = sym (ap (λ (b : Bool). if b then status.Device else if list_any corrupt_tally tallies then status.Corrupt else status.Good) is) ∙ corrupt in cc)
corrupt_told tallies false true is found corrupt = refl
corrupt_told tallies false false is found corrupt =
    absurd (let so : status.Good ≡ status.Corrupt =
    sym (ap (λ (b : Bool). if b then status.Device else if list_any corrupt_tally tallies then status.Corrupt else status.Good) is ∙ ap (λ (b : Bool). if b then status.Corrupt else status.Good) found) ∙ corrupt in cc)

corrupt_by_tallies : (books tallies : Status) → OfBooks books → worse books tallies ≡ status.Corrupt → tallies ≡ status.Corrupt
corrupt_by_tallies books tallies of corrupt = elim (worse_either books tallies) [
  | inl same ↦ absurd (let so : false ≡ true = sym (ap not_corrupt (sym same ∙ corrupt)) ∙ books_has not_corrupt books of refl refl refl in cc)
  | inr same ↦ sym same ∙ corrupt
]

-- The line of a store that is there.
abbrev TellsStore : Plan → List ℕ → List ℕ → Type 0
TellsStore plan text front = (place : ℕ) × (store : StorePlan) × (slice_get plan.stores place ≡ Some store) × (text ≡ front ++ cannot_open_text store.path)

told_store : (plan : Plan) (place : ℕ) (text : List ℕ) → place < length plan.stores → text ≡ cannot_open_text (data_path (slice_get plan.stores place)) → TellsStore plan text []
told_store plan place text below is = elim ((slice_get_cases plan.stores place).1) [
  | inl found ↦ (place, found.0, found.2, is ∙ ap (λ (o : Option StorePlan). cannot_open_text (data_path o)) found.2)
  | inr past ↦ absurd (omega (arith, below, past.0))
]

module _ {P B : Type 0} (pass_seen : P → PassSeen) (book_seen : B → BookSeen) (plan : Plan) where
  -- A run that others follow was made.
  pub went_on : (run : RunPlan) (before after : Stage) (text : List ℕ) (result : Status) (one : OneRun pass_seen book_seen plan run before after text result) → is_last result ≡ false
      → (answer : RunAnswer P B) × (text ≡ made_text pass_seen book_seen plan run answer) × (made_in pass_seen book_seen plan run before after text result one ≡ made_run pass_seen book_seen run answer ∷ [])
  went_on run before after text result (made answer m is_text is) never = (answer, is_text, refl)
  went_on run before after text result (said_in_part n answer m is_text is) never = absurd (let so : true ≡ false = sym (ap is_last is) ∙ never in cc)
  went_on run before after text result (not_started ready why is_ready none told) never = absurd (let so : true ≡ false = sym (fault_has is_last plan why text result refl refl told) ∙ never in cc)
  went_on run before after text result (not_opened why none told) never = absurd (let so : true ≡ false = sym (fault_has is_last plan why text result refl refl told) ∙ never in cc)

  on_it_goes : (run : RunPlan) (before after : Stage) (text : List ℕ) (result : Status) → OneRun pass_seen book_seen plan run before after text result → is_last result ≡ false → GoesOn result
  on_it_goes run before after text result one never = goes_on result never (of_one_run pass_seen book_seen plan run before after text result one)

  -- The first of the plan's runs.
  one_first : (runs : List RunPlan) (run : RunPlan) (before after : Stage) (text : List ℕ) (result : Status) (one : OneRun pass_seen book_seen plan run before after text result)
      → map run_of (made_in pass_seen book_seen plan run before after text result one) ≡ take (length (made_in pass_seen book_seen plan run before after text result one)) (run ∷ runs)
  one_first runs run before after text result (made answer m is_text is) = refl
  one_first runs run before after text result (said_in_part n answer m is_text is) = refl
  one_first runs run before after text result (not_started ready why is_ready none told) = refl
  one_first runs run before after text result (not_opened why none told) = refl

  pub first_made : (runs : List RunPlan) (before after : Stage) (text : List ℕ) (result : Status) (them : RunsMade pass_seen book_seen plan runs before after text result)
      → map run_of (all_made pass_seen book_seen plan runs before after text result them) ≡ take (length (all_made pass_seen book_seen plan runs before after text result them)) runs
  first_made [] before after text result them = refl
  first_made (run ∷ runs) before after text result (inl limit) = refl
  first_made (run ∷ runs) before after text result (inr (inl (few, says, last))) = one_first runs run before after text result says.one
  first_made (run ∷ runs) before after text result (inr (inr (few, between, first, rest, one, others, says, last, later_runs, is_text, is))) =
      let went = went_on run before between first one says.one last in
      let later = all_made pass_seen book_seen plan runs between after rest others later_runs in
      subst (λ (l : List MadeRun). map run_of (l ++ later) ≡ take (length (l ++ later)) (run ∷ runs)) (sym went.2) (ap (λ (l : List RunPlan). run ∷ l) (first_made runs between after rest others later_runs))

  -- The text.
  one_text : (run : RunPlan) (before after : Stage) (text : List ℕ) (result : Status) (one : OneRun pass_seen book_seen plan run before after text result) → result ≢ status.NoMemory → result ≢ status.Yard → text ≡ texts_of plan.stores (made_in pass_seen book_seen plan run before after text result one)
  one_text run before after text result (made answer m is_text is) memory yard = is_text ∙ sym (append-nil (made_text pass_seen book_seen plan run answer))
  one_text run before after text result (said_in_part n answer m is_text is) memory yard = absurd (memory is)
  one_text run before after text result (not_started ready (refusal.Yard store) is_ready none (inl t)) memory yard = absurd (yard t.0)
  one_text run before after text result (not_started ready refusal.NoMemory is_ready none (inl t)) memory yard = absurd (memory t.0)
  one_text run before after text result (not_started ready why is_ready none (inr t)) memory yard = absurd (memory t.0)
  one_text run before after text result (not_opened (refusal.Yard store) none (inl t)) memory yard = absurd (yard t.0)
  one_text run before after text result (not_opened refusal.NoMemory none (inl t)) memory yard = absurd (memory t.0)
  one_text run before after text result (not_opened why none (inr t)) memory yard = absurd (memory t.0)

  pub text_is : (runs : List RunPlan) (before after : Stage) (text : List ℕ) (result : Status) (them : RunsMade pass_seen book_seen plan runs before after text result) → result ≢ status.NoMemory → result ≢ status.Yard → text ≡ texts_of plan.stores (all_made pass_seen book_seen plan runs before after text result them)
  text_is [] before after text result (same, is_text, is) memory yard = is_text
  text_is (run ∷ runs) before after text result (inl (limit, same, is_text, is)) memory yard = is_text
  text_is (run ∷ runs) before after text result (inr (inl (few, says, last))) memory yard = one_text run before after text result says.one memory yard
  text_is (run ∷ runs) before after text result (inr (inr (few, between, first, rest, one, others, says, last, later_runs, is_text, is))) memory yard =
      let went = went_on run before between first one says.one last in
      let on = on_it_goes run before between first one says.one last in
      let later = all_made pass_seen book_seen plan runs between after rest others later_runs in
      is_text ∙ ap (λ (l : List ℕ). l ++ rest) went.1
      ∙ ap (λ (l : List ℕ). made_text pass_seen book_seen plan run went.0 ++ l) (text_is runs between after rest others later_runs (memory_shows one others result is on memory) (yard_shows one others result is on yard))
      ∙ sym (ap (λ (l : List MadeRun). texts_of plan.stores (l ++ later)) went.2)

  made_not_yard : (run : RunPlan) (answer : RunAnswer P B) → not_yard (made_status pass_seen book_seen run answer) ≡ true
  made_not_yard run answer =
      let hands = map (hand_seen pass_seen book_seen) answer.hands.items in
      worse_has not_yard (books_status run answer.ends.items hands) (tallies_status answer.tallies.items)
      (books_has not_yard (books_status run answer.ends.items hands) (of_books run answer.ends.items hands) refl refl refl) (tallies_has not_yard answer.tallies.items refl refl refl)

  -- The line of a store whose file couldn't be opened.
  one_refused : (run : RunPlan) → IsRunOf plan run → (before after : Stage) (text : List ℕ) (result : Status) (one : OneRun pass_seen book_seen plan run before after text result) → result ≡ status.Yard
      → TellsStore plan text (texts_of plan.stores (made_in pass_seen book_seen plan run before after text result one))
  one_refused run is_run before after text result (made answer m is_text is) yard = absurd (let so : false ≡ true = sym (ap not_yard yard) ∙ ap not_yard is ∙ made_not_yard run answer in cc)
  one_refused run is_run before after text result (said_in_part n answer m is_text is) yard = absurd (let so : status.NoMemory ≡ status.Yard = sym is ∙ yard in cc)
  one_refused run is_run before after text result (not_started ready (refusal.Yard store) is_ready none (inl t)) yard = told_store plan store text (works_there plan run is_run store (none.named store refl)) t.1
  one_refused run is_run before after text result (not_started ready refusal.NoMemory is_ready none (inl t)) yard = absurd (let so : status.NoMemory ≡ status.Yard = sym t.0 ∙ yard in cc)
  one_refused run is_run before after text result (not_started ready why is_ready none (inr t)) yard = absurd (let so : status.NoMemory ≡ status.Yard = sym t.0 ∙ yard in cc)
  one_refused run is_run before after text result (not_opened (refusal.Yard store) none (inl t)) yard =
      let refused = none.stops.refused in
      told_store plan store text (works_there plan run is_run store (ap (works_in run) (refused.named store refl) ∙ refused.needed)) t.1
  one_refused run is_run before after text result (not_opened refusal.NoMemory none (inl t)) yard = absurd (let so : status.NoMemory ≡ status.Yard = sym t.0 ∙ yard in cc)
  one_refused run is_run before after text result (not_opened why none (inr t)) yard = absurd (let so : status.NoMemory ≡ status.Yard = sym t.0 ∙ yard in cc)

  pub refused_is : (runs : List RunPlan) → All (IsRunOf plan) runs → (before after : Stage) (text : List ℕ) (result : Status) (them : RunsMade pass_seen book_seen plan runs before after text result) → result ≡ status.Yard
      → TellsStore plan text (texts_of plan.stores (all_made pass_seen book_seen plan runs before after text result them))
  refused_is [] are before after text result (same, is_text, is) yard = absurd (let so : status.Good ≡ status.Yard = sym is ∙ yard in cc)
  refused_is (run ∷ runs) are before after text result (inl (limit, same, is_text, is)) yard = absurd (let so : status.Good ≡ status.Yard = sym is ∙ yard in cc)
  refused_is (run ∷ runs) are before after text result (inr (inl (few, says, last))) yard = one_refused run (All-head (IsRunOf plan) run runs are) before after text result says.one yard
  refused_is (run ∷ runs) are before after text result (inr (inr (few, between, first, rest, one, others, says, last, later_runs, is_text, is))) yard =
      let went = went_on run before between first one says.one last in
      let on = on_it_goes run before between first one says.one last in
      let later = all_made pass_seen book_seen plan runs between after rest others later_runs in
      let told = refused_is runs (All-tail (IsRunOf plan) run runs are) between after rest others later_runs (rest_yard one others result is on yard) in
      let line = cannot_open_text told.1.path in (
        told.0,
        told.1,
        told.2,
        is_text ∙ ap (λ (l : List ℕ). l ++ rest) went.1
            ∙ ap (λ (l : List ℕ). made_text pass_seen book_seen plan run went.0 ++ l) told.3
            ∙ sym (append_assoc (made_text pass_seen book_seen plan run went.0) (texts_of plan.stores later) line)
            ∙ sym (ap (λ (l : List MadeRun). texts_of plan.stores (l ++ later) ++ line) went.2),
      )

  -- None is left out.
  pub left_out : (runs : List RunPlan) (before after : Stage) (text : List ℕ) (result : Status) (them : RunsMade pass_seen book_seen plan runs before after text result) → is_last result ≡ false
      → length (all_made pass_seen book_seen plan runs before after text result them) < length runs → plan.data_errors ≤ after.errors
  left_out [] before after text result them never less = absurd (omega (arith, less))
  left_out (run ∷ runs) before after text result (inl (limit, same, is_text, is)) never less = omega (arith, limit, ap (λ (s : Stage). s.errors) same)
  left_out (run ∷ runs) before after text result (inr (inl (few, says, last))) never less = absurd (let so : true ≡ false = sym last ∙ never in cc)
  left_out (run ∷ runs) before after text result (inr (inr (few, between, first, rest, one, others, says, last, later_runs, is_text, is))) never less =
      let went = went_on run before between first one says.one last in
      let later = all_made pass_seen book_seen plan runs between after rest others later_runs in
      left_out runs between after rest others later_runs (last_worse one others (sym (ap is_last is) ∙ never)).1 (omega (arith, less, ap (λ (l : List MadeRun). length (l ++ later)) went.2))

  pub at_most_one : (run : RunPlan) (before after : Stage) (text : List ℕ) (result : Status) (one : OneRun pass_seen book_seen plan run before after text result) → length (made_in pass_seen book_seen plan run before after text result one) ≤ 1
  at_most_one run before after text result (made answer m is_text is) = omega arith
  at_most_one run before after text result (said_in_part n answer m is_text is) = omega arith
  at_most_one run before after text result (not_started ready why is_ready none told) = omega arith
  at_most_one run before after text result (not_opened why none told) = omega arith

  -- What says that a block is corrupt.
  one_corrupt : (run : RunPlan) (before after : Stage) (text : List ℕ) (result : Status) (one : OneRun pass_seen book_seen plan run before after text result) → result ≡ status.Corrupt
      → list_any some_corrupt (made_in pass_seen book_seen plan run before after text result one) ≡ true
  one_corrupt run before after text result (made answer m is_text is) corrupt =
      let hands = map (hand_seen pass_seen book_seen) answer.hands.items in
      let tallies = corrupt_by_tallies (books_status run answer.ends.items hands) (tallies_status answer.tallies.items) (of_books run answer.ends.items hands) (sym is ∙ corrupt) in
      let any = corrupt_told answer.tallies.items (list_any (λ (tally : Tallied). nat_lt 0 tally.numbers.faults) answer.tallies.items) (list_any corrupt_tally answer.tallies.items) refl refl tallies in
      ap (λ (b : Bool). b || false) any
  one_corrupt run before after text result (said_in_part n answer m is_text is) corrupt = absurd (let so : status.NoMemory ≡ status.Corrupt = sym is ∙ corrupt in cc)
  one_corrupt run before after text result (not_started ready why is_ready none told) corrupt =
      absurd (let so : false ≡ true = sym (ap not_corrupt corrupt) ∙ fault_has not_corrupt plan why text result refl refl told in cc)
  one_corrupt run before after text result (not_opened why none told) corrupt =
      absurd (let so : false ≡ true = sym (ap not_corrupt corrupt) ∙ fault_has not_corrupt plan why text result refl refl told in cc)

  pub corrupt_is : (runs : List RunPlan) (before after : Stage) (text : List ℕ) (result : Status) (them : RunsMade pass_seen book_seen plan runs before after text result) → result ≡ status.Corrupt
      → list_any some_corrupt (all_made pass_seen book_seen plan runs before after text result them) ≡ true
  corrupt_is [] before after text result (same, is_text, is) corrupt = absurd (let so : status.Good ≡ status.Corrupt = sym is ∙ corrupt in cc)
  corrupt_is (run ∷ runs) before after text result (inl (limit, same, is_text, is)) corrupt = absurd (let so : status.Good ≡ status.Corrupt = sym is ∙ corrupt in cc)
  corrupt_is (run ∷ runs) before after text result (inr (inl (few, says, last))) corrupt = one_corrupt run before after text result says.one corrupt
  corrupt_is (run ∷ runs) before after text result (inr (inr (few, between, first, rest, one, others, says, last, later_runs, is_text, is))) corrupt =
      let now = made_in pass_seen book_seen plan run before between first one says.one in
      let later = all_made pass_seen book_seen plan runs between after rest others later_runs in
      list_any-append some_corrupt now later ∙ elim (worse_either one others) [
        | inl same ↦ ap (λ (b : Bool). b || list_any some_corrupt later) (one_corrupt run before between first one says.one (sym same ∙ sym is ∙ corrupt))
        | inr same ↦ ap (λ (b : Bool). list_any some_corrupt now || b) (corrupt_is runs between after rest others later_runs (sym same ∙ sym is ∙ corrupt)) ∙ or_true (list_any some_corrupt now)
      ]
