-- The runs of a plan whose workers started, with what came of each.
use Rattle.std.specs.Prelude.{◌≡◌, ℕ, List, [], ◌∷◌, ◌++◌, length, map, Some, slice_get, sum_by}
use Rattle.std.specs.List.{flat_map, zip}
use Rattle.std.proofs.Common.{inl, inr}
use Rattle.vd_arm.specs.Arm.{PassSeen}
use Rattle.plan_types.specs.Valid.{IsPlan}
use Rattle.plan_types.specs.declared.plan.Plan.{Plan}
use Rattle.plan_types.specs.declared.run.RunPlan.{RunPlan}
use Rattle.plan_types.specs.declared.store.StorePlan.{StorePlan}
use Rattle.key_state.specs.declared.seen.BookSeen.{BookSeen}
use Rattle.claim_table.specs.Sums.{total}
use Rattle.worker_tally.specs.Tallies.{Tallied}
use Rattle.slave_worker.specs.Hands.{HandSeen, hand_seen}
use Rattle.slave_worker.specs.declared.did.WorkEnd.{WorkEnd}
use Rattle.slave_worker.specs.declared.hand.RunAnswer.{RunAnswer}
use Rattle.run_report.specs.Runs.{group_totals}
use Rattle.run_report.specs.declared.run_sums.Group.TheVariants as group
use Rattle.run_report.specs.declared.run_sums.Totals.{Totals}
use Rattle.run_report.specs.declared.status.Status.{Status}
use Rattle.plan_hands.specs.Stores.{AreStores}
use Rattle.plan_runs.specs.Books.{ran_text}
use Rattle.plan_runs.specs.Stages.{OneRun, RunsMade, Stage, made, not_opened, not_started, said_in_part}

-- a run whose workers started: their tallies, why the work of each ended, and the hands of its stores as they came back
pub record MadeRun : Type 0 where
  pub run : RunPlan
  pub tallies : List Tallied
  pub ends : List WorkEnd
  pub hands : List HandSeen

-- the text of such runs, one behind the other
abbrev pub texts_of : List StorePlan → List MadeRun → List ℕ
texts_of stores runs = flat_map (λ (one : MadeRun). ran_text stores one.run one.tallies one.ends one.hands) runs

-- all their tallies
abbrev pub tallies_of : List MadeRun → List Tallied
tallies_of runs = flat_map (λ (one : MadeRun). one.tallies) runs

-- how many errors they found
abbrev pub findings_in : MadeRun → ℕ
findings_in one = sum_by (λ tally. length tally.findings) one.tallies

abbrev pub findings_of : List MadeRun → ℕ
findings_of runs = total findings_in runs

-- the totals of the store at a place, as its total line has them, and one number of them in all such runs
abbrev pub totals_in : ℕ → MadeRun → Totals
totals_in place one = group_totals (group.Store place) (zip one.run.workers one.tallies)

abbrev pub sum_of : (Totals → ℕ) → ℕ → List MadeRun → ℕ
sum_of number place runs = total (λ (one : MadeRun). number (totals_in place one)) runs

module _ {P B : Type 0} (pass_seen : P → PassSeen) (book_seen : B → BookSeen) where
  abbrev pub made_run : RunPlan → RunAnswer P B → MadeRun
  made_run run answer = record { run = run; tallies = answer.tallies.items; ends = answer.ends.items; hands = map (hand_seen pass_seen book_seen) answer.hands.items }

  -- the run, where its workers started
  abbrev pub made_in : (plan : Plan) (run : RunPlan) (before after : Stage) (text : List ℕ) (result : Status) → OneRun pass_seen book_seen plan run before after text result → List MadeRun
  made_in plan run before after text result (made answer did is_text is) = made_run run answer ∷ []
  made_in plan run before after text result (said_in_part n answer did is_text is) = made_run run answer ∷ []
  made_in plan run before after text result (not_started ready why is_ready none told) = []
  made_in plan run before after text result (not_opened why stops told) = []

  -- those of these runs whose workers started
  abbrev pub all_made : (plan : Plan) (runs : List RunPlan) (before after : Stage) (text : List ℕ) (result : Status) → RunsMade pass_seen book_seen plan runs before after text result → List MadeRun
  all_made plan [] before after text result none = []
  all_made plan (run ∷ runs) before after text result (inl limit) = []
  all_made plan (run ∷ runs) before after text result (inr (inl (few, says, last))) = made_in plan run before after text result says.one
  all_made plan (run ∷ runs) before after text result (inr (inr (few, between, first, rest, one, others, says, last, then, is_text, is))) =
      made_in plan run before between first one says.one ++ all_made plan runs between after rest others then

  -- All runs of a valid plan, from the hands of its stores on.
  pub record PlanRuns : Type 0 where
    pub plan : Plan
    pub before : Stage
    pub last : Stage
    pub text : List ℕ
    pub result : Status
    pub valid : IsPlan plan
    pub stores : AreStores plan before.hands
    pub runs : RunsMade pass_seen book_seen plan plan.runs before last text result

  abbrev pub made_of : PlanRuns → List MadeRun
  made_of all = all_made all.plan all.plan.runs all.before all.last all.text all.result all.runs

  -- One of its stores, with its hand before the runs and after them.
  pub record StoreOf (all : PlanRuns) : Type 0 where
    pub place : ℕ
    pub store : StorePlan
    pub hand : HandSeen
    pub back : HandSeen
    pub its_store : slice_get all.plan.stores place ≡ Some store
    pub went_in : slice_get all.before.hands place ≡ Some hand
    pub came_back : slice_get all.last.hands place ≡ Some back
