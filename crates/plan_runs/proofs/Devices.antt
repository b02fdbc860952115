-- What one run leaves in the counts of paths, and which statuses it ends with.
use Rattle.std.proofs.Common.{◌≡◌, ◌∙◌, refl, sym, ap, subst, inl, inr, ℕ, Bool, true, false, List, [], ◌∷◌, ◌++◌, map}
use Rattle.std.specs.Prelude.{◌≢◌}
use Rattle.std.specs.List.{list_any}
use Rattle.vd_outside.specs.Causes.{Rose}
use Rattle.vd_arm.specs.Arm.{ArmSeen, PassSeen}
use Rattle.vd_yard.specs.Counts.{Counts, arm_faults}
use Rattle.plan_types.specs.declared.plan.Plan.{Plan}
use Rattle.plan_types.specs.declared.run.RunPlan.{RunPlan}
use Rattle.key_state.specs.declared.seen.BookSeen.{BookSeen}
use Rattle.slave_worker.specs.Hands.{hand_seen}
use Rattle.slave_worker.specs.declared.hand.RunAnswer.{RunAnswer}
use Rattle.slave_worker.specs.declared.hand.RunFault.{RunFault}
use Rattle.slave_worker.specs.declared.hand.RunFault.TheVariants as refusal
use Rattle.master_run.specs.Crews.{all_labors, arms_of}
use Rattle.master_run.specs.Yards.{counts_with}
use Rattle.run_report.specs.declared.status.Status.{Status}
use Rattle.run_report.specs.declared.status.Status.TheVariants as status
use Rattle.run_totals.proofs.Works.{Laws}
use Rattle.plan_runs.specs.Books.{books_status}
use Rattle.plan_runs.specs.Stages.{OneRun, RunMade, Stage, TellsFault, made, made_status, not_opened, not_started, said_in_part}
use Rattle.plan_runs.specs.Statuses.{tallies_status}
use Rattle.plan_runs.proofs.Faults.{faults_kept, faults_rose, some_fault}
use Rattle.plan_runs.proofs.Ended.{books_has, device_by_tallies, device_failed, device_told, no_device, of_books, of_runs, tallies_has, worse_has}

-- A fault's status is one of two.
pub fault_has : (p : Status → Bool) (plan : Plan) (why : RunFault) (text : List ℕ) (result : Status) → p status.Yard ≡ true → p status.NoMemory ≡ true → TellsFault plan why text result → p result ≡ true
fault_has p plan (refusal.Yard store) text result yard memory (inl t) = ap p t.0 ∙ yard
fault_has p plan refusal.NoMemory text result yard memory (inl t) = ap p t.0 ∙ memory
fault_has p plan why text result yard memory (inr t) = ap p t.0 ∙ memory

abbrev not_device : Status → Bool
not_device status.Device = false
not_device _ = true

-- the counts of a path, of which the arms of each run are added up
pub counts_append : (arms others : List (List ℕ × ArmSeen)) (counts : Counts) → counts_with (arms ++ others) counts ≡ counts_with others (counts_with arms counts)
counts_append [] others counts = refl
counts_append ((path, arm) ∷ arms) others counts = counts_append arms others _

module _ {P B : Type 0} (pass_seen : P → PassSeen) (book_seen : B → BookSeen) (plan : Plan) (run : RunPlan) where
  pub one_counts : (before after : Stage) (text : List ℕ) (result : Status) → OneRun pass_seen book_seen plan run before after text result → (arms : List (List ℕ × ArmSeen)) × (after.yard.counts ≡ counts_with arms before.yard.counts)
  one_counts before after text result (made answer m is_text is) =
      (arms_of plan (all_labors m.did.crews), m.did.yard.counts ∙ ap (counts_with (arms_of plan (all_labors m.did.crews))) m.is_ready.opens.counts)
  one_counts before after text result (said_in_part n answer m is_text is) =
      (arms_of plan (all_labors m.did.crews), m.did.yard.counts ∙ ap (counts_with (arms_of plan (all_labors m.did.crews))) m.is_ready.opens.counts)
  one_counts before after text result (not_started ready why is_ready none told) = (none.yard.unused, none.yard.counts ∙ ap (counts_with none.yard.unused) is_ready.opens.counts)
  one_counts before after text result (not_opened why stops told) = ([], stops.opens.counts)

  pub one_has : (p : Status → Bool) (before after : Stage) (text : List ℕ) (result : Status) → ((answer : RunAnswer P B) → RunMade pass_seen book_seen plan run before after answer → p (made_status pass_seen book_seen run answer) ≡ true) → p status.Yard ≡ true → p status.NoMemory ≡ true
      → OneRun pass_seen book_seen plan run before after text result → p result ≡ true
  one_has p before after text result by yard memory (made answer m is_text is) = ap p is ∙ by answer m
  one_has p before after text result by yard memory (said_in_part n answer m is_text is) = ap p is ∙ memory
  one_has p before after text result by yard memory (not_started ready why is_ready none told) = fault_has p plan why text result yard memory told
  one_has p before after text result by yard memory (not_opened why stops told) = fault_has p plan why text result yard memory told

  pub of_one_run : (before after : Stage) (text : List ℕ) (result : Status) → OneRun pass_seen book_seen plan run before after text result → of_runs result ≡ true
  of_one_run before after text result one = one_has of_runs before after text result (λ answer m.
      let hands = map (hand_seen pass_seen book_seen) answer.hands.items in
      let books = books_status run answer.ends.items hands in
      worse_has of_runs books (tallies_status answer.tallies.items) (books_has of_runs books (of_books run answer.ends.items hands) refl refl refl) (tallies_has of_runs answer.tallies.items refl refl refl)) refl refl one

  module _ (laws : Laws) where
    made_rose : (before after : Stage) (answer : RunAnswer P B) → RunMade pass_seen book_seen plan run before after answer → made_status pass_seen book_seen run answer ≡ status.Device → (path : List ℕ) × Rose (arm_faults before.yard.counts path) (arm_faults after.yard.counts path)
    made_rose before after answer m device =
        let hands = map (hand_seen pass_seen book_seen) answer.hands.items in
        let books = books_status run answer.ends.items hands in
        let tallies = device_by_tallies books (tallies_status answer.tallies.items) (of_books run answer.ends.items hands) device in
        let rose = faults_rose pass_seen book_seen laws plan run before.errors m.ready.yard after.yard before.clock after.clock m.hands answer m.did (device_failed answer.tallies.items (list_any some_fault answer.tallies.items) refl tallies) in
        (rose.0, subst (λ (c : Counts). Rose (arm_faults c rose.0) (arm_faults after.yard.counts rose.0)) m.is_ready.opens.counts rose.1)

    pub one_rose : (before after : Stage) (text : List ℕ) (result : Status) → OneRun pass_seen book_seen plan run before after text result → result ≡ status.Device → (path : List ℕ) × Rose (arm_faults before.yard.counts path) (arm_faults after.yard.counts path)
    one_rose before after text result (made answer m is_text is) device = made_rose before after answer m (sym is ∙ device)
    one_rose before after text result (said_in_part n answer m is_text is) device = absurd (let so : status.NoMemory ≡ status.Device = sym is ∙ device in cc)
    one_rose before after text result (not_started ready why is_ready none told) device =
        absurd (let so : false ≡ true = sym (ap not_device device) ∙ fault_has not_device plan why text result refl refl told in cc)
    one_rose before after text result (not_opened why stops told) device =
        absurd (let so : false ≡ true = sym (ap not_device device) ∙ fault_has not_device plan why text result refl refl told in cc)

    by_any : (before after : Stage) (answer : RunAnswer P B) → RunMade pass_seen book_seen plan run before after answer → (b : Bool) → list_any some_fault answer.tallies.items ≡ b → tallies_status answer.tallies.items ≢ status.Device → (path : List ℕ) → arm_faults after.yard.counts path ≡ arm_faults before.yard.counts path
    by_any before after answer m true is never path = absurd (never (device_told answer.tallies.items is))
    by_any before after answer m false is never path =
        faults_kept pass_seen book_seen laws plan run before.errors m.ready.yard after.yard before.clock after.clock m.hands answer m.did is path
        ∙ ap (λ (c : Counts). arm_faults c path) m.is_ready.opens.counts

    pub one_kept : (before after : Stage) (text : List ℕ) (result : Status) → OneRun pass_seen book_seen plan run before after text result → result ≢ status.Device → result ≢ status.EpochEnd → result ≢ status.Journal → result ≢ status.Yard → result ≢ status.NoMemory
        → (path : List ℕ) → arm_faults after.yard.counts path ≡ arm_faults before.yard.counts path
    one_kept before after text result (made answer m is_text is) device epoch journal yard memory path =
        let hands = map (hand_seen pass_seen book_seen) answer.hands.items in
        let books = books_status run answer.ends.items hands in
        by_any before after answer m (list_any some_fault answer.tallies.items) refl
        (no_device books (tallies_status answer.tallies.items) (of_books run answer.ends.items hands) (λ so. device (is ∙ so)) (λ so. epoch (is ∙ so)) (λ so. journal (is ∙ so))) path
    one_kept before after text result (said_in_part n answer m is_text is) device epoch journal yard memory path = absurd (memory is)
    one_kept before after text result (not_started ready (refusal.Yard store) is_ready none (inl t)) device epoch journal yard memory path = absurd (yard t.0)
    one_kept before after text result (not_started ready refusal.NoMemory is_ready none (inl t)) device epoch journal yard memory path = absurd (memory t.0)
    one_kept before after text result (not_started ready why is_ready none (inr t)) device epoch journal yard memory path = absurd (memory t.0)
    one_kept before after text result (not_opened (refusal.Yard store) stops (inl t)) device epoch journal yard memory path = absurd (yard t.0)
    one_kept before after text result (not_opened refusal.NoMemory stops (inl t)) device epoch journal yard memory path = absurd (memory t.0)
    one_kept before after text result (not_opened why stops (inr t)) device epoch journal yard memory path = absurd (memory t.0)
