-- The runs of a plan, one after the other: what each of them does, and what is seen between them.
use Rattle.std.specs.Prelude.{◌≡◌, ◌⊎◌, ℕ, ◌≤◌, ◌<◌, ◌++◌, Bool, true, false, nat_lt, List, [], ◌∷◌, take, length, map, Err, slice_get}
use Rattle.std.specs.List.{AllZip}
use Rattle.vd_outside.specs.Clocks.{ClockSeen}
use Rattle.vd_arm.specs.Arm.{PassSeen}
use Rattle.plan_types.specs.declared.plan.Plan.{Plan}
use Rattle.plan_types.specs.declared.run.RunPlan.{RunPlan}
use Rattle.vd_yard.specs.Yard.{YardSeen}
use Rattle.key_state.specs.declared.seen.BookSeen.{BookSeen}
use Rattle.slave_worker.specs.Hands.{HandSeen, hand_seen, works_in}
use Rattle.slave_worker.specs.declared.hand.RunAnswer.{RunAnswer}
use Rattle.slave_worker.specs.declared.hand.RunFault.{RunFault}
use Rattle.slave_worker.specs.declared.hand.RunFault.TheVariants as refusal
use Rattle.slave_worker.specs.declared.hand.StoreHand.{StoreHand}
use Rattle.master_run.specs.Crews.{DidRun}
use Rattle.master_run.specs.Yards.{HasYardCause, TookArms}
use Rattle.run_report.specs.Lines.{cannot_open_text}
use Rattle.run_report.specs.Says.{Printing, Says}
use Rattle.run_report.specs.declared.status.Status.{Status}
use Rattle.run_report.specs.declared.status.Status.TheVariants as status
use Rattle.plan_hands.specs.Openings.{HasOpenCause, Opened, OpensData, StopsOpening, data_path}
use Rattle.plan_hands.specs.Stores.{Joins, not_of_run, of_run}
use Rattle.plan_runs.specs.Books.{ran_status, ran_text}
use Rattle.plan_runs.specs.Statuses.{weight_of, worse}

-- what is seen between two runs: the hands of the plan's stores, the yard, the clock, the errors so far, and what was printed
pub record Stage : Type 0 where
  pub hands : List HandSeen
  pub yard : YardSeen
  pub clock : ClockSeen
  pub errors : ℕ
  pub printing : Printing

abbrev pub stage : List HandSeen → YardSeen → ClockSeen → ℕ → Printing → Stage
stage hands yard clock errors printing = record { hands = hands; yard = yard; clock = clock; errors = errors; printing = printing }

-- The passes that a run needs are open, and nothing else changed.
pub record IsReadyFor (plan : Plan) (run : RunPlan) (before ready : Stage) : Type 0 where
  pub opened : AllZip (Opened plan run before.yard) before.hands ready.hands
  pub opens : OpensData before.yard ready.yard
  pub faults : ready.yard.faults ≡ before.yard.faults
  pub clock : ready.clock ≡ before.clock
  pub errors : ready.errors ≡ before.errors
  pub printing : ready.printing ≡ before.printing

-- The workers of a run worked: the hands of its stores went in and came back, beside those of the other stores.
pub record RunMade {P B : Type 0} (pass_seen : P → PassSeen) (book_seen : B → BookSeen) (plan : Plan) (run : RunPlan) (before after : Stage) (answer : RunAnswer P B) : Type 0 where
  pub ready : Stage
  pub is_ready : IsReadyFor plan run before ready
  pub hands : List (StoreHand P B)
  pub its : map (hand_seen pass_seen book_seen) hands ≡ of_run run ready.hands
  pub did : DidRun pass_seen book_seen plan run before.errors ready.yard after.yard before.clock after.clock hands answer
  pub joins : Joins run (length plan.stores) (map (hand_seen pass_seen book_seen) answer.hands.items) (not_of_run run ready.hands) after.hands
  pub errors : after.errors ≡ answer.errors

-- They didn't start: hands, clock and errors are as they were, arms may have been opened and given back unused, and where the yard refused
-- one the fault names a store of the run.
pub record RunNotStarted (run : RunPlan) (ready after : Stage) (why : RunFault) : Type 0 where
  pub hands : after.hands ≡ ready.hands
  pub clock : after.clock ≡ ready.clock
  pub errors : after.errors ≡ ready.errors
  pub yard : TookArms [] ready.yard after.yard
  pub named : (store : ℕ) → why ≡ refusal.Yard store → works_in run store ≡ true
  pub cause : HasYardCause ready.yard after.yard (Err why)

-- The passes that it needs couldn't all be opened; those before the first that couldn't are open. That a fault of the yard is named has its
-- cause.
pub record RunNotOpened (plan : Plan) (run : RunPlan) (before after : Stage) (why : RunFault) : Type 0 where
  pub stops : StopsOpening plan run before.yard before.hands after.hands why
  pub opens : OpensData before.yard after.yard
  pub clock : after.clock ≡ before.clock
  pub errors : after.errors ≡ before.errors
  pub cause : HasOpenCause before.yard after.yard (Err why)

-- the line of a run that couldn't be begun, and its status; want of memory has no line here
abbrev pub fault_text : Plan → RunFault → List ℕ
fault_text plan (refusal.Yard store) = cannot_open_text (data_path (slice_get plan.stores store))
fault_text plan refusal.NoMemory = []

abbrev pub fault_status : RunFault → Status
fault_status (refusal.Yard store) = status.Yard
fault_status refusal.NoMemory = status.NoMemory

-- the text and the status of that fault, or of want of memory as its line was made
abbrev pub TellsFault : Plan → RunFault → List ℕ → Status → Type 0
TellsFault plan why text result = ((result ≡ fault_status why) × (text ≡ fault_text plan why)) ⊎ ((result ≡ status.NoMemory) × (text ≡ []))

-- what a run prints whose workers worked, and the status that goes with it
abbrev pub made_text : {P B : Type 0} → (P → PassSeen) → (B → BookSeen) → Plan → RunPlan → RunAnswer P B → List ℕ
made_text pass_seen book_seen plan run answer =
    ran_text plan.stores run answer.tallies.items answer.ends.items (map (hand_seen pass_seen book_seen) answer.hands.items)

abbrev pub made_status : {P B : Type 0} → (P → PassSeen) → (B → BookSeen) → RunPlan → RunAnswer P B → Status
made_status pass_seen book_seen run answer =
    ran_status run answer.tallies.items answer.ends.items (map (hand_seen pass_seen book_seen) answer.hands.items)

-- What one run does, its text, and its status.
pub data OneRun {P B : Type 0} (pass_seen : P → PassSeen) (book_seen : B → BookSeen) (plan : Plan) (run : RunPlan) (before after : Stage) (text : List ℕ) (result : Status) : Type 0 where
  -- its workers worked
  made : (answer : RunAnswer P B) → RunMade pass_seen book_seen plan run before after answer
      → text ≡ made_text pass_seen book_seen plan run answer → result ≡ made_status pass_seen book_seen run answer
      → OneRun pass_seen book_seen plan run before after text result
  -- they did, and memory ran out as that was said, after so many bytes
  said_in_part : (n : ℕ) (answer : RunAnswer P B) → RunMade pass_seen book_seen plan run before after answer
      → text ≡ take n (made_text pass_seen book_seen plan run answer) → result ≡ status.NoMemory
      → OneRun pass_seen book_seen plan run before after text result
  -- they didn't start
  not_started : (ready : Stage) (why : RunFault) → IsReadyFor plan run before ready → RunNotStarted run ready after why
      → TellsFault plan why text result → OneRun pass_seen book_seen plan run before after text result
  -- its stores' data couldn't be opened
  not_opened : (why : RunFault) → RunNotOpened plan run before after why
      → TellsFault plan why text result → OneRun pass_seen book_seen plan run before after text result

-- One run, with its text said.
pub record SaysOneRun {P B : Type 0} (pass_seen : P → PassSeen) (book_seen : B → BookSeen) (plan : Plan) (run : RunPlan) (before after : Stage) (text : List ℕ) (result : Status) : Type 0 where
  pub one : OneRun pass_seen book_seen plan run before after text result
  pub says : Says before.printing after.printing text

-- whether no run follows one that ended so: a journal failed or is at its end, data couldn't be opened, or memory ran out
abbrev pub is_last : Status → Bool
is_last result = nat_lt 2 (weight_of result)

module _ {P B : Type 0} (pass_seen : P → PassSeen) (book_seen : B → BookSeen) (plan : Plan) where
  -- The runs, one after the other, their text, and the status that they come to. One starts only while the errors are below the plan's limit.
  abbrev pub RunsMade : List RunPlan → Stage → Stage → List ℕ → Status → Type 0
  RunsMade [] before after text result = (after ≡ before) × (text ≡ []) × (result ≡ status.Good)
  RunsMade (run ∷ runs) before after text result =
      ((plan.data_errors ≤ before.errors) × (after ≡ before) × (text ≡ []) × (result ≡ status.Good))
      ⊎ ((before.errors < plan.data_errors) × SaysOneRun pass_seen book_seen plan run before after text result × (is_last result ≡ true))
      ⊎ ((before.errors < plan.data_errors)
      × (between : Stage) × (first : List ℕ) × (rest : List ℕ) × (one : Status) × (others : Status)
      × SaysOneRun pass_seen book_seen plan run before between first one × (is_last one ≡ false)
      × RunsMade runs between after rest others × (text ≡ first ++ rest) × (result ≡ worse one others))
