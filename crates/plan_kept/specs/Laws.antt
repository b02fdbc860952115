-- What runs leave of the kept data, and that none of it is called corrupt which fitted.
use Rattle.std.specs.Prelude.{◌≡◌, ◌≢◌, ◌⊎◌, ℕ, IsTrue, List, [], map, Some, slice_get}
use Rattle.vd_outside.specs.Clocks.{ClockSeen}
use Rattle.vd_arm.specs.Arm.{PassSeen}
use Rattle.vd_yard.specs.Out.{AtArm}
use Rattle.plan_types.specs.Valid.{IsPlan}
use Rattle.plan_types.specs.declared.plan.Plan.{Plan}
use Rattle.plan_types.specs.declared.store.StorePlan.{StorePlan}
use Rattle.key_state.specs.declared.seen.BookSeen.{BookSeen}
use Rattle.run_report.specs.declared.status.Status.{Status}
use Rattle.run_report.specs.declared.status.Status.TheVariants as status
use Rattle.journal_recover.specs.declared.found.Recovered.{Recovered}
use Rattle.recover_run.specs.declared.look.Look.{Look}
use Rattle.run_report.specs.Says.{Printing}
use Rattle.vd_yard.specs.Yard.{YardSeen}
use Rattle.plan_hands.specs.Stores.{AreStores, with_books}
use Rattle.plan_journals.specs.Closing.{WentWell}
use Rattle.plan_journals.specs.Open.{Start, new_starts}
use Rattle.plan_reopened.specs.Reopening.{AllReopened, next_starts}
use Rattle.plan_verified.specs.Stores.{StoreSeen, settled_of}
use Rattle.plan_runs.specs.Quiet.{RunsQuietly}
use Rattle.plan_runs.specs.Stages.{Stage, stage}
use Rattle.plan_journaled.specs.Journaled.{AreOpen, RunsJournaled}
use Rattle.plan_journaled.specs.Over.{RunsClosed}
use Rattle.plan_resumed.specs.Resumed.{HaveVerified, Resumed}
use Rattle.plan_resumed.specs.Seating.{with_passes}
use Rattle.plan_totals.specs.Made.{StoreOf, all_made, sum_of}
use Rattle.run_totals.specs.Sentences.{ArmsAreSure}
use Rattle.still_plan.specs.Still.{IsStill}
use Rattle.plan_kept.specs.Clean.{NewFindsNone, QuietFindsNone, ResumedFindsNone, StillFindsNone}
use Rattle.plan_kept.specs.Counts.{KeptCounts}
use Rattle.plan_kept.specs.Fits.{FitsItsJournal, HasJournal, IsNoRefusal, IsNoWord, KeptFits}

-- A still command says of no block that it is corrupt, where each store's bytes fit what its journal gives.
abbrev pub StillIsSound : Type 0
StillIsSound = (old new : YardSeen) (stores : List StorePlan) (text : List ℕ) (result : Status) → IsTrue old.tells.keeps_contents
    → ((place : ℕ) (store : StorePlan) → slice_get stores place ≡ Some store → FitsItsJournal old store)
    → (still : IsStill old new stores text result) → StillFindsNone old new stores text result still × (result ≢ status.Corrupt)

module _ {P B : Type 0} (pass_seen : P → PassSeen) (book_seen : B → BookSeen) where
  -- Runs without journals say of no block that it is corrupt, in no line and by no status.
  abbrev pub QuietIsSound : Type 0
  QuietIsSound = (plan : Plan) (before after : Stage) (text : List ℕ) (result : Status) → IsPlan plan → IsTrue before.yard.tells.keeps_contents
      → (runs : RunsQuietly pass_seen book_seen plan before after text result) → QuietFindsNone pass_seen book_seen plan before after text result runs × (result ≢ status.Corrupt)

  -- Nor do those over new journals.
  abbrev pub NewIsSound : Type 0
  NewIsSound = (plan : Plan) (before after : Stage) (text : List ℕ) (result : Status) → IsPlan plan → IsTrue before.yard.tells.keeps_contents
      → (runs : RunsJournaled pass_seen book_seen plan before after text result) → NewFindsNone pass_seen book_seen plan before after text result runs × (result ≢ status.Corrupt)

  -- Nor do verification and the runs over recovered ones, where each store's bytes fit what its journal gives.
  abbrev pub OldIsSound : Type 0
  OldIsSound = (plan : Plan) (before after : Stage) (result : Status) → IsPlan plan → IsTrue before.yard.tells.keeps_contents
      → ((place : ℕ) (store : StorePlan) → slice_get plan.stores place ≡ Some store → FitsItsJournal before.yard store)
      → (went : Resumed pass_seen book_seen plan before after result) → ResumedFindsNone pass_seen book_seen plan before after went.starts went.text result went.does × (result ≢ status.Corrupt)

  -- Over sure arms none of them says that a device failed.
  abbrev pub QuietIsSure : Type 0
  QuietIsSure = (plan : Plan) (before after : Stage) (text : List ℕ) (result : Status) → IsPlan plan → ArmsAreSure before.yard plan.stores
      → RunsQuietly pass_seen book_seen plan before after text result → result ≢ status.Device

  abbrev pub NewIsSure : Type 0
  NewIsSure = (plan : Plan) (before after : Stage) (text : List ℕ) (result : Status) → IsPlan plan → ArmsAreSure before.yard plan.stores
      → RunsJournaled pass_seen book_seen plan before after text result → result ≢ status.Device

  abbrev pub OldIsSure : Type 0
  OldIsSure = (plan : Plan) (before after : Stage) (result : Status) → IsPlan plan → ArmsAreSure before.yard plan.stores
      → Resumed pass_seen book_seen plan before after result → result ≢ status.Device

  -- None of them ends by a status of words, of a parameter file or of a source.
  abbrev pub QuietEnds : Type 0
  QuietEnds = (plan : Plan) (before after : Stage) (text : List ℕ) (result : Status) → RunsQuietly pass_seen book_seen plan before after text result → IsNoWord result

  abbrev pub NewEnds : Type 0
  NewEnds = (plan : Plan) (before after : Stage) (text : List ℕ) (result : Status) → RunsJournaled pass_seen book_seen plan before after text result → IsNoWord result

  abbrev pub OldEnds : Type 0
  OldEnds = (plan : Plan) (before after : Stage) (result : Status) → Resumed pass_seen book_seen plan before after result → IsNoWord result

  -- Where each store's journal is a valid one of the store, none is called missing, damaged or another store's.
  abbrev pub ValidAreRecovered : Type 0
  ValidAreRecovered = (plan : Plan) (before after : Stage) (result : Status)
      → ((place : ℕ) (store : StorePlan) → slice_get plan.stores place ≡ Some store → HasJournal before.yard store)
      → Resumed pass_seen book_seen plan before after result → IsNoRefusal result

  -- What a command over new journals keeps of each store fits its journal.
  abbrev pub NewDataFits : Type 0
  NewDataFits = (plan : Plan) (before after : Stage) (text : List ℕ) (result : Status) → IsPlan plan
      → RunsJournaled pass_seen book_seen plan before after text result → WentWell result
      → IsTrue before.yard.tells.keeps_disks → IsTrue before.yard.tells.keeps_contents
      → (place : ℕ) (store : StorePlan) → slice_get plan.stores place ≡ Some store → KeptFits after.yard store

  -- So does what one over recovered journals keeps of a store whose bytes fitted what its journal gave, or whose arms are sure.
  abbrev pub OldDataFits : Type 0
  OldDataFits = (plan : Plan) (before after : Stage) (result : Status) → IsPlan plan
      → Resumed pass_seen book_seen plan before after result → WentWell result
      → IsTrue before.yard.tells.keeps_disks → IsTrue before.yard.tells.keeps_contents
      → (place : ℕ) (store : StorePlan) → slice_get plan.stores place ≡ Some store
      → FitsItsJournal before.yard store ⊎ IsTrue (before.yard.tells.sure AtArm store.path) → KeptFits after.yard store

  -- Of each store the journal that was opened so, as it is kept behind the runs, has as many ends stored as its total lines have writes, in the
  -- epoch that was opened.
  abbrev pub JournalsCount : (plan : Plan) → IsPlan plan → (before after : Stage) (text : List ℕ) (result : Status) → RunsClosed pass_seen book_seen plan before after text result → AreStores plan before.hands → List Start → Type 0
  JournalsCount plan valid before after text result closed stores starts =
      (its : StoreOf pass_seen book_seen (record { plan = plan; before = before; last = closed.last; text = closed.runs_text; result = closed.work; valid = valid; stores = stores; runs = closed.made }))
      (start : Start) → slice_get starts its.place ≡ Some start
      → KeptCounts after.yard.disks start (sum_of (λ totals. totals.writes) its.place (all_made pass_seen book_seen plan plan.runs before closed.last closed.runs_text closed.work closed.made))

  -- With a status of 0, 1 or 2 that is so of new journals, where the yard tells their disks.
  abbrev pub NewJournalsCount : Type 0
  NewJournalsCount = (plan : Plan) (valid : IsPlan plan) (before after : Stage) (books : List BookSeen) (opened : YardSeen) (said : Printing) → AreOpen plan before books opened said
      → (text : List ℕ) (result : Status) (closed : RunsClosed pass_seen book_seen plan (stage (with_books books) opened before.clock 0 said) after text result) (stores : AreStores plan (with_books books))
      → WentWell result → IsTrue before.yard.tells.keeps_disks
      → JournalsCount plan valid (stage (with_books books) opened before.clock 0 said) after text result closed stores (new_starts plan.journal_sectors plan.stores)

  -- So it is of recovered ones.
  abbrev pub OldJournalsCount : Type 0
  OldJournalsCount = (plan : Plan) (valid : IsPlan plan) (found : List Recovered) (seen : List (List Look)) (left : List StoreSeen) (recovered : YardSeen) (said : Printing) (verified : YardSeen) (told : Printing)
      → HaveVerified plan found seen left recovered said verified told
      → (starts : List Start) → starts ≡ next_starts plan.stores found (map settled_of left)
      → (clock : ClockSeen) (after : Stage) (books : List BookSeen) (printed : Printing) → AllReopened verified verified starts [] books told printed
      → (text : List ℕ) (result : Status) (closed : RunsClosed pass_seen book_seen plan (stage (with_passes left books) verified clock 0 printed) after text result) (stores : AreStores plan (with_passes left books))
      → WentWell result → IsTrue verified.tells.keeps_disks
      → JournalsCount plan valid (stage (with_passes left books) verified clock 0 printed) after text result closed stores starts
