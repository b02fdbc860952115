-- A run whose passes are open: what it needs, and what it does.
use Rattle.std.specs.Prelude.{◌≡◌, ◌≢◌, ℕ, true, IsTrue, List, [], All}
use Rattle.std.specs.List.{AllZip}
use Rattle.vd_outside.specs.Causes.{Rose}
use Rattle.vd_arm.specs.Arm.{PassSeen}
use Rattle.plan_types.specs.declared.plan.Plan.{Plan}
use Rattle.plan_types.specs.declared.run.RunPlan.{RunPlan}
use Rattle.vd_yard.specs.Out.{Out}
use Rattle.vd_yard.specs.Yard.{YardSeen}
use Rattle.key_state.specs.declared.seen.BookSeen.{BookSeen}
use Rattle.slave_worker.specs.Hands.{HandSeen, works_in}
use Rattle.run_report.specs.declared.status.Status.{Status}
use Rattle.run_report.specs.declared.status.Status.TheVariants as status
use Rattle.plan_hands.specs.Openings.{one_out}
use Rattle.plan_hands.specs.Stores.{AreStores, IsHandAt, passes_of, place_of}
use Rattle.plan_runs.specs.Stages.{IsReadyFor, SaysOneRun, Stage}

-- The passes of the stores that work in the run are open.
pub record AreOpen (plan : Plan) (run : RunPlan) (hands : List HandSeen) : Type 0 where
  pub stores : AreStores plan hands
  pub are_open : All (λ hand. works_in run (place_of hand) ≡ true → passes_of hand ≢ []) hands

-- A hand came back: its store's still, and with open passes where they were open.
pub record OneBack (plan : Plan) (before after : HandSeen) : Type 0 where
  pub place : place_of after ≡ place_of before
  pub hand : IsHandAt plan before → IsHandAt plan after
  pub passes : (path : List ℕ) (out : Out) → one_out path (passes_of after) out ≡ one_out path (passes_of before) out

-- All of them came back, in their order.
abbrev pub CameBack : Plan → List HandSeen → List HandSeen → Type 0
CameBack plan before after = AllZip (OneBack plan) before after

-- Where the passes of a run are open, this is one run, from whatever stage they were opened.
abbrev pub RunsOpen : {P B : Type 0} → (P → PassSeen) → (B → BookSeen) → Plan → RunPlan → Stage → Stage → List ℕ → Status → Type 0
RunsOpen pass_seen book_seen plan run ready after text result =
    (before : Stage) → IsReadyFor plan run before ready → SaysOneRun pass_seen book_seen plan run before after text result

-- The status of a failed yard comes only where its count rose, and from no willing yard; but for it and for want of memory none moves it.
pub record HasRunCause (old new : YardSeen) (result : Status) : Type 0 where
  pub fault : result ≡ status.Yard → Rose old.faults new.faults
  pub kept : result ≢ status.Yard → result ≢ status.NoMemory → new.faults ≡ old.faults
  pub willing : IsTrue old.willing → result ≢ status.Yard
