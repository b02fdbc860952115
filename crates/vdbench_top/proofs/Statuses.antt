-- What the runs of a plan say, and which statuses they don't come to.
use Rattle.std.proofs.Common.{◌≡◌, ℕ, ◌++◌, Bool, true, false, cond, List, [], ◌∷◌, sym, ◌∙◌, subst, inl, inr}
use Rattle.std.specs.Prelude.{◌≢◌, map, nat_lt}
use Rattle.std.specs.List.{list_any}
use Rattle.vd_arm.specs.Arm.{PassSeen}
use Rattle.plan_types.specs.declared.plan.Plan.{Plan}
use Rattle.plan_types.specs.declared.run.RunPlan.{RunPlan}
use Rattle.key_state.specs.declared.seen.BookSeen.{BookSeen}
use Rattle.worker_tally.specs.Tallies.{Tallied}
use Rattle.slave_worker.specs.Hands.{HandSeen, hand_seen}
use Rattle.slave_worker.specs.declared.did.WorkEnd.{WorkEnd}
use Rattle.slave_worker.specs.declared.hand.RunFault.{RunFault}
use Rattle.slave_worker.specs.declared.hand.RunFault.TheVariants as refusal
use Rattle.run_report.specs.Says.{Printing, Says, says_along, says_none, says_then}
use Rattle.run_report.specs.declared.status.Status.{Status}
use Rattle.run_report.specs.declared.status.Status.TheVariants as status
use Rattle.plan_runs.specs.Books.{book_end_of, book_status, books_status, ran_status}
use Rattle.plan_runs.specs.Quiet.{RunsQuietly, all_made, none_made}
use Rattle.plan_runs.specs.Stages.{OneRun, RunsMade, Stage, TellsFault, fault_status, made, not_opened, not_started, said_in_part}
use Rattle.plan_runs.specs.Statuses.{tallies_status, weight_of, worse}
use Rattle.plan_runs.specs.declared.books.BookEnd.{BookEnd}
use Rattle.plan_runs.specs.declared.books.BookEnd.TheVariants as book_end

either : (b : Bool) (x y other : Status) → x ≢ other → y ≢ other → cond b x y ≢ other
either true x y other p q = p
either false x y other p q = q

worse_not : (x y other : Status) → x ≢ other → y ≢ other → worse x y ≢ other
worse_not x y other p q = either (nat_lt (weight_of x) (weight_of y)) y x other q p

same_not : (x y other : Status) → x ≡ y → y ≢ other → x ≢ other
same_not x y other e n f = n (sym e ∙ f)

book_no_source : (how : BookEnd) → book_status how ≢ status.Source
book_no_source book_end.Well = λ e. cc
book_no_source (book_end.Failed records) = λ e. cc
book_no_source book_end.EpochOver = λ e. cc

books_no_source : (run : RunPlan) (ends : List WorkEnd) (hands : List HandSeen) → books_status run ends hands ≢ status.Source
books_no_source run ends [] = λ e. cc
books_no_source run ends (hand ∷ hands) =
    worse_not (book_status (book_end_of run ends hand)) (books_status run ends hands) status.Source (book_no_source (book_end_of run ends hand)) (books_no_source run ends hands)

tallies_no_source : (tallies : List Tallied) → tallies_status tallies ≢ status.Source
tallies_no_source tallies =
    either (list_any (λ tally. nat_lt 0 tally.numbers.faults) tallies) status.Device
    (cond (list_any (λ tally. nat_lt 0 tally.numbers.corrupt) tallies) status.Corrupt status.Good) status.Source (λ e. cc)
    (either (list_any (λ tally. nat_lt 0 tally.numbers.corrupt) tallies) status.Corrupt status.Good status.Source (λ e. cc) (λ e. cc))

ran_no_source : (run : RunPlan) (tallies : List Tallied) (ends : List WorkEnd) (hands : List HandSeen) → ran_status run tallies ends hands ≢ status.Source
ran_no_source run tallies ends hands =
    worse_not (books_status run ends hands) (tallies_status tallies) status.Source (books_no_source run ends hands) (tallies_no_source tallies)

fault_no_source : (why : RunFault) → fault_status why ≢ status.Source
fault_no_source (refusal.Yard store) = λ e. cc
fault_no_source refusal.NoMemory = λ e. cc

tells_no_source : (plan : Plan) (why : RunFault) (text : List ℕ) (result : Status) → TellsFault plan why text result → result ≢ status.Source
tells_no_source plan why text result (inl t) = same_not result (fault_status why) status.Source t.0 (fault_no_source why)
tells_no_source plan why text result (inr t) = same_not result status.NoMemory status.Source t.0 (λ e. cc)

module _ {P B : Type 0} (pass_seen : P → PassSeen) (book_seen : B → BookSeen) (plan : Plan) where
  one_no_source : (run : RunPlan) (before after : Stage) (text : List ℕ) (result : Status) → OneRun pass_seen book_seen plan run before after text result → result ≢ status.Source
  one_no_source run before after text result (made answer m t r) =
      let hands : List HandSeen = map (hand_seen pass_seen book_seen) answer.hands.items in
      same_not result (ran_status run answer.tallies.items answer.ends.items hands) status.Source r (ran_no_source run answer.tallies.items answer.ends.items hands)
  one_no_source run before after text result (said_in_part n answer m t r) = same_not result status.NoMemory status.Source r (λ e. cc)
  one_no_source run before after text result (not_started ready why is unstarted t) = tells_no_source plan why text result t
  one_no_source run before after text result (not_opened why unopened t) = tells_no_source plan why text result t

  runs_no_source : (runs : List RunPlan) (before after : Stage) (text : List ℕ) (result : Status) → RunsMade pass_seen book_seen plan runs before after text result → result ≢ status.Source
  runs_no_source [] before after text result r = same_not result status.Good status.Source r.2 (λ e. cc)
  runs_no_source (run ∷ runs) before after text result (inl none) = same_not result status.Good status.Source none.3 (λ e. cc)
  runs_no_source (run ∷ runs) before after text result (inr (inl last)) = one_no_source run before after text result last.1.one
  runs_no_source (run ∷ runs) before after text result (inr (inr (under, between, first, rest, one, others, says, goes_on, more, t, r))) =
      same_not result (worse one others) status.Source r
      (worse_not one others status.Source (one_no_source run before between first one says.one) (runs_no_source runs between after rest others more))

  -- The runs of a plan read no parameter file.
  pub quietly_no_source : (before after : Stage) (text : List ℕ) (result : Status) → RunsQuietly pass_seen book_seen plan before after text result → result ≢ status.Source
  quietly_no_source before after text result (all_made last runs hands back clock printing) = runs_no_source plan.runs before last text result runs
  quietly_no_source before after text result (none_made yard clock printing t r) = same_not result status.NoMemory status.Source r (λ e. cc)

  -- ---- what they say
  says_nothing : (before after : Stage) (text : List ℕ) → after ≡ before → text ≡ [] → Says before.printing after.printing text
  says_nothing before after text e t =
      says_along before.printing after.printing [] text (sym t) (subst (λ (s : Stage). Says before.printing s.printing []) (sym e) (says_none before.printing))

  runs_say : (runs : List RunPlan) (before after : Stage) (text : List ℕ) (result : Status) → RunsMade pass_seen book_seen plan runs before after text result → Says before.printing after.printing text
  runs_say [] before after text result r = says_nothing before after text r.0 r.1
  runs_say (run ∷ runs) before after text result (inl none) = says_nothing before after text none.1 none.2
  runs_say (run ∷ runs) before after text result (inr (inl last)) = last.1.says
  runs_say (run ∷ runs) before after text result (inr (inr (under, between, first, rest, one, others, says, goes_on, more, t, r))) =
      says_along before.printing after.printing (first ++ rest) text (sym t)
      (says_then before.printing between.printing after.printing first rest says.says (runs_say runs between after rest others more))

  pub quietly_says : (before after : Stage) (text : List ℕ) (result : Status) → RunsQuietly pass_seen book_seen plan before after text result → Says before.printing after.printing text
  quietly_says before after text result (all_made last runs hands back clock printing) =
      subst (λ (p : Printing). Says before.printing p text) (sym printing) (runs_say plan.runs before last text result runs)
  quietly_says before after text result (none_made yard clock printing t r) =
      says_along before.printing after.printing [] text (sym t) (subst (λ (p : Printing). Says before.printing p []) (sym printing) (says_none before.printing))
