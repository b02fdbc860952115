-- One run, put together of what its parts did.
use Rattle.std.proofs.Common.{◌≡◌, ◌∙◌, refl, sym, ap, subst, arith, inl, inr, ℕ, Bool, true, false, IsTrue, List, [], length, map, take, Result, Ok, Err, OnOk, OnErr, IfErr}
use Rattle.std.proofs.lemmas.List.Elements.{All-nil}
use Rattle.vd_outside.specs.Causes.{Rose}
use Rattle.vd_outside.specs.Clocks.{ClockSeen}
use Rattle.vd_arm.specs.Arm.{PassSeen}
use Rattle.vd_yard.specs.Yard.{YardSeen}
use Rattle.plan_types.specs.declared.plan.Plan.{Plan}
use Rattle.plan_types.specs.declared.run.RunPlan.{RunPlan}
use Rattle.plan_types.specs.declared.store.StorePlan.{StorePlan}
use Rattle.key_state.specs.declared.seen.BookSeen.{BookSeen}
use Rattle.worker_tally.specs.Tallies.{Tallied}
use Rattle.slave_worker.specs.Hands.{HandSeen, hand_seen, works_in}
use Rattle.slave_worker.specs.declared.did.WorkEnd.{WorkEnd}
use Rattle.slave_worker.specs.declared.hand.RunAnswer.{RunAnswer}
use Rattle.slave_worker.specs.declared.hand.RunFault.{RunFault}
use Rattle.slave_worker.specs.declared.hand.RunFault.TheVariants as refusal
use Rattle.slave_worker.specs.declared.hand.StoreHand.{StoreHand}
use Rattle.master_run.specs.Crews.{DidNotRun, DidRun}
use Rattle.master_run.specs.Yards.{HasYardCause, IsSameYard, IsUnused, TookArms}
use Rattle.run_report.specs.Says.{Printing, Says, says_front, says_none}
use Rattle.run_report.specs.declared.status.Status.{Status}
use Rattle.run_report.specs.declared.status.Status.TheVariants as status
use Rattle.still_plan.specs.Lines.{SaysOr}
use Rattle.plan_hands.specs.Openings.{OpensData}
use Rattle.plan_hands.specs.Stores.{Joins, not_of_run, of_run, place_of}
use Rattle.plan_runs.specs.Books.{SaysAll, ran_status, ran_text}
use Rattle.plan_runs.specs.Ready.{HasRunCause, RunsOpen}
use Rattle.plan_runs.specs.Stages.{IsReadyFor, RunMade, RunNotOpened, SaysOneRun, Stage, TellsFault, fault_status, fault_text, made, made_status, made_text, not_opened, not_started, said_in_part}
use Rattle.plan_runs.specs.Statuses.{tallies_status}
use Rattle.plan_runs.specs.Books.{books_status}
use Rattle.plan_runs.proofs.Ended.{books_has, of_books, tallies_has, worse_has}
use Rattle.plan_runs.proofs.Returned.{joined_same}

-- The yard as it was, and two changes of it in turn.
pub same_yard : (yard : YardSeen) → IsSameYard yard yard
same_yard yard = record { later = omega arith; tells = refl; willing = λ w. w; files = λ kind path there. there; disks = refl; contents = refl }

pub same_then : (a b c : YardSeen) → IsSameYard a b → IsSameYard b c → IsSameYard a c
same_then a b c p q = record {
  later = omega (arith, p.later, q.later);
  tells = q.tells ∙ p.tells;
  willing = λ w. q.willing (p.willing w);
  files = λ kind path there. q.files kind path (p.files kind path there);
  disks = q.disks ∙ p.disks;
  contents = q.contents ∙ p.contents;
}

pub same_opened : (a b : YardSeen) → OpensData a b → IsSameYard a b
same_opened a b opens = record { later = opens.later; tells = opens.tells; willing = opens.willing; files = opens.files; disks = opens.disks; contents = opens.contents }

took_none : (yard : YardSeen) → TookArms [] yard yard
took_none yard = record { same = same_yard yard; out = refl; unused = []; are_unused = All-nil IsUnused; counts = refl }

pub memory_cause : (yard : YardSeen) → HasRunCause yard yard status.NoMemory
memory_cause yard = record { fault = λ is. absurd cc; kept = λ a b. refl; willing = λ w is. cc }

-- A fault that was said, with its status.
abbrev not_yard : Status → Bool
not_yard status.Yard = false
not_yard _ = true

module _ (plan : Plan) where
  pub tells : (why : RunFault) (result : Status) (a b : Printing) → SaysOr (fault_text plan why) (fault_status why) result a b → (text : List ℕ) × TellsFault plan why text result × Says a b text
  tells why result a b (inl p) = (fault_text plan why, inl (p.0, refl), p.1)
  tells why result a b (inr p) = ([], inr (p.0, refl), p.1)

  pub refused_cause : (old new : YardSeen) (why : RunFault) (result : Status) (a b : Printing) → SaysOr (fault_text plan why) (fault_status why) result a b
      → ((store : ℕ) → why ≡ refusal.Yard store → Rose old.faults new.faults) → ((store : ℕ) → IsTrue old.willing → why ≡ refusal.Yard store → ⊥) → HasRunCause old new result
  refused_cause old new (refusal.Yard store) result a b (inl p) rose willing = record {
    fault = λ is. rose store refl;
    kept = λ yard memory. absurd (yard p.0);
    willing = λ w is. willing store w refl;
  }
  refused_cause old new (refusal.Yard store) result a b (inr p) rose willing = record {
    fault = λ is. rose store refl;
    kept = λ yard memory. absurd (memory p.0);
    willing = λ w is. willing store w refl;
  }
  refused_cause old new refusal.NoMemory result a b (inl p) rose willing = record {
    fault = λ is. absurd (let so : status.NoMemory ≡ status.Yard = sym p.0 ∙ is in cc);
    kept = λ yard memory. absurd (memory p.0);
    willing = λ w is. let so : status.NoMemory ≡ status.Yard = sym p.0 ∙ is in cc;
  }
  refused_cause old new refusal.NoMemory result a b (inr p) rose willing = record {
    fault = λ is. absurd (let so : status.NoMemory ≡ status.Yard = sym p.0 ∙ is in cc);
    kept = λ yard memory. absurd (memory p.0);
    willing = λ w is. let so : status.NoMemory ≡ status.Yard = sym p.0 ∙ is in cc;
  }

never_yard : (run : RunPlan) (tallies : List Tallied) (ends : List WorkEnd) (hands : List HandSeen) → not_yard (ran_status run tallies ends hands) ≡ true
never_yard run tallies ends hands =
    worse_has not_yard (books_status run ends hands) (tallies_status tallies) (books_has not_yard (books_status run ends hands) (of_books run ends hands) refl refl refl) (tallies_has not_yard tallies refl refl refl)

said_cause : (old new : YardSeen) (text : List ℕ) (with result : Status) (a b : Printing) → not_yard with ≡ true → SaysAll text with result a b → new.faults ≡ old.faults → HasRunCause old new result
said_cause old new text with result a b never (inl p) kept =
    let no : result ≡ status.Yard → ⊥ = λ is. let so : true ≡ false = sym never ∙ ap not_yard (sym p.0 ∙ is) in cc in
    record { fault = λ is. absurd (no is); kept = λ yard memory. kept; willing = λ w is. no is }
said_cause old new text with result a b never (inr p) kept =
    let no : result ≡ status.Yard → ⊥ = λ is. let so : status.NoMemory ≡ status.Yard = sym p.0 ∙ is in cc in
    record { fault = λ is. absurd (no is); kept = λ yard memory. kept; willing = λ w is. no is }

module _ {P B : Type 0} (pass_seen : P → PassSeen) (book_seen : B → BookSeen) (plan : Plan) (run : RunPlan) where
  pub answer_cause : (old new : YardSeen) (answer : RunAnswer P B) (why : Result (Unit {0}) RunFault) (result : Status) (a b : Printing) → HasYardCause old new why
      → OnOk why (SaysAll (made_text pass_seen book_seen plan run answer) (made_status pass_seen book_seen run answer) result a b) → IfErr why (λ w. SaysOr (fault_text plan w) (fault_status w) result a b) → HasRunCause old new result
  answer_cause old new answer (Ok u) result a b cause all or =
      said_cause old new (made_text pass_seen book_seen plan run answer) (made_status pass_seen book_seen run answer) result a b
      (never_yard run answer.tallies.items answer.ends.items (map (hand_seen pass_seen book_seen) answer.hands.items)) all (cause.kept (λ store is. cc))
  answer_cause old new answer (Err why) result a b cause all or =
      refused_cause plan old new why result a b or (λ store is. cause.failed store (ap (λ (w : RunFault). Err w) is)) (λ store w is. cause.willing store w (ap (λ (f : RunFault). Err f) is))

  -- Nothing was done for want of memory.
  pub no_room : (ready : Stage) → (text : List ℕ) × RunsOpen pass_seen book_seen plan run ready ready text status.NoMemory
  no_room ready = (
    [],
    λ before is_ready. record {
      one = not_started ready refusal.NoMemory is_ready (record {
        hands = refl;
        clock = refl;
        errors = refl;
        yard = took_none ready.yard;
        named = λ store is. absurd cc;
        cause = record { failed = λ store is. absurd cc; kept = λ no. refl; willing = λ store w is. cc };
      }) (inl (refl, refl));
      says = subst (λ (p : Printing). Says p ready.printing []) is_ready.printing (says_none ready.printing);
    },
  )

  module _ (ready after : Stage) (hands : List (StoreHand P B)) (answer : RunAnswer P B) (its : map (hand_seen pass_seen book_seen) hands ≡ of_run run ready.hands) (same : map place_of after.hands ≡ map place_of ready.hands)
      (joins : Joins run (length plan.stores) (map (hand_seen pass_seen book_seen) answer.hands.items) (not_of_run run ready.hands) after.hands) (errors : after.errors ≡ answer.errors)
    where
      run_made : DidRun pass_seen book_seen plan run ready.errors ready.yard after.yard ready.clock after.clock hands answer → (before : Stage) → IsReadyFor plan run before ready → RunMade pass_seen book_seen plan run before after answer
      run_made did before is_ready = record {
        ready = ready;
        is_ready = is_ready;
        hands = hands;
        its = its;
        did =
            subst (λ (c : ClockSeen). DidRun pass_seen book_seen plan run before.errors ready.yard after.yard c after.clock hands answer) is_ready.clock
            (subst (λ (n : ℕ). DidRun pass_seen book_seen plan run n ready.yard after.yard ready.clock after.clock hands answer) is_ready.errors did);
        joins = joins;
        errors = errors;
      }

      made_one : DidRun pass_seen book_seen plan run ready.errors ready.yard after.yard ready.clock after.clock hands answer → (result : Status) → SaysAll (made_text pass_seen book_seen plan run answer) (made_status pass_seen book_seen run answer) result ready.printing after.printing
          → (text : List ℕ) × RunsOpen pass_seen book_seen plan run ready after text result
      made_one did result (inl p) = (
        made_text pass_seen book_seen plan run answer,
        λ before is_ready. record {
          one = made answer (run_made did before is_ready) refl p.0;
          says = subst (λ (x : Printing). Says x after.printing (made_text pass_seen book_seen plan run answer)) is_ready.printing p.1;
        },
      )
      made_one did result (inr (is, says_front n says)) = (
        take n (made_text pass_seen book_seen plan run answer),
        λ before is_ready. record {
          one = said_in_part n answer (run_made did before is_ready) refl is;
          says = subst (λ (x : Printing). Says x after.printing (take n (made_text pass_seen book_seen plan run answer))) is_ready.printing says;
        },
      )

      not_made : DidNotRun pass_seen book_seen ready.errors ready.yard after.yard ready.clock after.clock hands answer → (why : RunFault) → HasYardCause ready.yard after.yard (Err why) → ((store : ℕ) → why ≡ refusal.Yard store → works_in run store ≡ true)
          → (result : Status) → SaysOr (fault_text plan why) (fault_status why) result ready.printing after.printing → (text : List ℕ) × RunsOpen pass_seen book_seen plan run ready after text result
      not_made did why cause named result says =
          let told = tells plan why result ready.printing after.printing says in (
            told.0,
            λ before is_ready. record {
              one = not_started ready why is_ready (record {
                hands = joined_same plan run (length plan.stores) (map (hand_seen pass_seen book_seen) hands) (map (hand_seen pass_seen book_seen) answer.hands.items) ready.hands after.hands its same joins did.same;
                clock = did.clock;
                errors = errors ∙ did.errors;
                yard = did.yard;
                named = named;
                cause = cause;
              }) told.1;
              says = subst (λ (x : Printing). Says x after.printing told.0) is_ready.printing told.2;
            },
          )

      pub answered : (why : Result (Unit {0}) RunFault) (result : Status) → OnOk why (DidRun pass_seen book_seen plan run ready.errors ready.yard after.yard ready.clock after.clock hands answer) → OnErr why (DidNotRun pass_seen book_seen ready.errors ready.yard after.yard ready.clock after.clock hands answer)
          → HasYardCause ready.yard after.yard why → ((store : ℕ) → why ≡ Err (refusal.Yard store) → works_in run store ≡ true)
          → OnOk why (SaysAll (made_text pass_seen book_seen plan run answer) (made_status pass_seen book_seen run answer) result ready.printing after.printing) → IfErr why (λ w. SaysOr (fault_text plan w) (fault_status w) result ready.printing after.printing)
          → (text : List ℕ) × RunsOpen pass_seen book_seen plan run ready after text result
      answered (Ok u) result did not_did cause named all or = made_one did result all
      answered (Err why) result did not_did cause named all or = not_made not_did why cause (λ store is. named store (ap (λ (w : RunFault). Err w) is)) result or

  -- The passes couldn't be opened.
  pub unopened : (before after : Stage) (why : RunFault) (result : Status) → RunNotOpened plan run before after why → SaysOr (fault_text plan why) (fault_status why) result before.printing after.printing → (text : List ℕ) × SaysOneRun pass_seen book_seen plan run before after text result
  unopened before after why result stops says =
      let told = tells plan why result before.printing after.printing says in
      (told.0, record { one = not_opened why stops told.1; says = told.2 })

pub ok_here : {T E : Type 0} (r : Result T E) (A : Type 0) → A → OnOk r A
ok_here (Ok x) A is = is
ok_here (Err e) A is = tt

-- The same said of the same lists.
pub said_along : (run : RunPlan) (stores as_stores : List StorePlan) (tallies as_tallies : List Tallied) (ends as_ends : List WorkEnd) (hands as_hands : List HandSeen) (result : Status) (a b : Printing) → as_stores ≡ stores → as_tallies ≡ tallies → as_ends ≡ ends → as_hands ≡ hands
    → SaysAll (ran_text as_stores run as_tallies as_ends as_hands) (ran_status run as_tallies as_ends as_hands) result a b → SaysAll (ran_text stores run tallies ends hands) (ran_status run tallies ends hands) result a b
said_along run stores as_stores tallies as_tallies ends as_ends hands as_hands result a b of_stores of_tallies of_ends of_hands says =
    subst (λ (l : List StorePlan). SaysAll (ran_text l run tallies ends hands) (ran_status run tallies ends hands) result a b) of_stores
    (subst (λ (l : List Tallied). SaysAll (ran_text as_stores run l ends hands) (ran_status run l ends hands) result a b) of_tallies
    (subst (λ (l : List WorkEnd). SaysAll (ran_text as_stores run as_tallies l hands) (ran_status run as_tallies l hands) result a b) of_ends
    (subst (λ (l : List HandSeen). SaysAll (ran_text as_stores run as_tallies as_ends l) (ran_status run as_tallies as_ends l) result a b) of_hands says)))
