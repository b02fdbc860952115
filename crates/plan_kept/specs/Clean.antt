-- No corrupt block was found, as far as a command came, whatever its status.
use Rattle.std.specs.Prelude.{◌≡◌, ⊤, ℕ, All, List, [], count_by}
use Rattle.vd_arm.specs.Arm.{PassSeen}
use Rattle.vd_disk.specs.Disk.{DiskSeen}
use Rattle.vd_yard.specs.Yard.{YardSeen}
use Rattle.plan_types.specs.declared.plan.Plan.{Plan}
use Rattle.plan_types.specs.declared.store.StorePlan.{StorePlan}
use Rattle.key_state.specs.declared.seen.BookSeen.{BookSeen}
use Rattle.journal_recover.specs.declared.found.Recovered.{Recovered}
use Rattle.recover_run.specs.Looks.{is_corrupt}
use Rattle.run_report.specs.declared.status.Status.{Status}
use Rattle.still_plan.specs.Still.{IsStill}
use Rattle.still_plan.specs.Still as still
use Rattle.still_plan.specs.Stores.{StoreStop, StoresEnd, all_looks}
use Rattle.still_plan.specs.Stores as stores
use Rattle.plan_journals.specs.Open.{Start}
use Rattle.plan_runs.specs.Quiet.{RunsQuietly}
use Rattle.plan_runs.specs.Quiet as quietly
use Rattle.plan_runs.specs.Stages.{RunsMade, Stage, stage}
use Rattle.plan_journaled.specs.Journaled.{RunsJournaled}
use Rattle.plan_journaled.specs.Journaled as journaled
use Rattle.plan_resumed.specs.Going.{GoesOn}
use Rattle.plan_resumed.specs.Going as going
use Rattle.plan_resumed.specs.Resumed.{RunsResumed}
use Rattle.plan_resumed.specs.Resumed as resumed
use Rattle.plan_resumed.specs.Seating.{with_passes}
use Rattle.plan_hands.specs.Stores.{with_books}
use Rattle.plan_totals.specs.Made.{MadeRun, all_made}
use Rattle.plan_verified.specs.Stores.{StoreSeen}

-- Of the store at which verification stopped no block that was seen is corrupt.
abbrev pub StopFindsNone : (old new : YardSeen) (store : StorePlan) (found : Recovered) (text : List ℕ) (result : Status) → StoreStop old new store found text result → Type 0
StopFindsNone old new store found text result (stores.begun n passes looks theirs are rose texts is) = count_by is_corrupt looks ≡ 0
StopFindsNone old new store found text result other = ⊤

-- Nor is one of the stores before it, or of all stores.
abbrev pub StoresFindNone : (old new : YardSeen) (plan_stores : List StorePlan) (found : List Recovered) (text : List ℕ) (result : Status) → StoresEnd old new plan_stores found text result → Type 0
StoresFindNone old new plan_stores found text result (stores.all_verified seen all texts is) = count_by is_corrupt (all_looks seen) ≡ 0
StoresFindNone old new plan_stores found text result (stores.at_store n seen store here part all there its stop others texts) =
    (count_by is_corrupt (all_looks seen) ≡ 0) × StopFindsNone old new store here part result stop

-- a still command over the stores of a plan
abbrev pub StillFindsNone : (old new : YardSeen) (plan_stores : List StorePlan) (text : List ℕ) (result : Status) → IsStill old new plan_stores text result → Type 0
StillFindsNone old new plan_stores text result (still.stops stop unopened) = ⊤
StillFindsNone old new plan_stores text result (still.ends found part all ends texts) = StoresFindNone old new plan_stores found part result ends

module _ {P B : Type 0} (pass_seen : P → PassSeen) (book_seen : B → BookSeen) where
  -- No worker of the runs that were made found one.
  abbrev pub RunsFindNone : (plan : Plan) (before last : Stage) (text : List ℕ) (result : Status) → RunsMade pass_seen book_seen plan plan.runs before last text result → Type 0
  RunsFindNone plan before last text result made =
      All (λ (one : MadeRun). All (λ tally. tally.numbers.corrupt ≡ 0) one.tallies) (all_made pass_seen book_seen plan plan.runs before last text result made)

  -- runs without journals, and over new ones
  abbrev pub QuietFindsNone : (plan : Plan) (before after : Stage) (text : List ℕ) (result : Status) → RunsQuietly pass_seen book_seen plan before after text result → Type 0
  QuietFindsNone plan before after text result (quietly.all_made last runs hands back clock printing) = RunsFindNone plan before last text result runs
  QuietFindsNone plan before after text result other = ⊤

  abbrev pub NewFindsNone : (plan : Plan) (before after : Stage) (text : List ℕ) (result : Status) → RunsJournaled pass_seen book_seen plan before after text result → Type 0
  NewFindsNone plan before after text result (journaled.ran books opened said all_open rest closed texts) =
      RunsFindNone plan (stage (with_books books) opened before.clock 0 said) closed.last closed.runs_text closed.work closed.made
  NewFindsNone plan before after text result other = ⊤

  -- runs over recovered ones, behind verification
  abbrev pub GoingFindsNone : (plan : Plan) (disks : List DiskSeen) (starts : List Start) (left : List StoreSeen) (before after : Stage) (text : List ℕ) (result : Status) → GoesOn pass_seen book_seen plan disks starts left before after text result → Type 0
  GoingFindsNone plan disks starts left before after text result (going.went_on books said opens on seated rest closed texts) =
      RunsFindNone plan (stage (with_passes left books) before.yard before.clock 0 said) closed.last closed.runs_text closed.work closed.made
  GoingFindsNone plan disks starts left before after text result other = ⊤

  abbrev pub ResumedFindsNone : (plan : Plan) (before after : Stage) (starts : List Start) (text : List ℕ) (result : Status) → RunsResumed pass_seen book_seen plan before after starts text result → Type 0
  ResumedFindsNone plan before after starts text result (resumed.not_recovered stop leaves stay clock none) = ⊤
  ResumedFindsNone plan before after starts text result (resumed.not_verified found recovered said have verified rest ends stop blocks same leaves disks clock none texts) =
      StoresFindNone recovered verified plan.stores found rest result ends
  ResumedFindsNone plan before after starts text result (resumed.resumed found recovered said have unfailed seen left verified told looked from rest after_that goes texts is) =
      (count_by is_corrupt (all_looks seen) ≡ 0) × GoingFindsNone plan have.disks starts left (stage [] verified before.clock 0 told) after rest after_that goes
