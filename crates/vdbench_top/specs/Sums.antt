-- What the runs of a command add up to, with its text and errors, its stores' books, and the counts of their paths.
use Rattle.std.specs.Prelude.{◌≡◌, ◌≢◌, ⊤, ℕ, ◌+◌, ◌-◌, ◌^◌, ◌<◌, ◌≤◌, min, Bool, true, false, IsTrue, All, List, [], ◌++◌, length, map, take, Option, Some, count_by, slice_get, slice_index_or}
use Rattle.vd_outside.specs.Clocks.{ClockSeen}
use Rattle.vd_arm.specs.Arm.{Counted, PassSeen}
use Rattle.vd_disk.specs.Disk.{DiskSeen}
use Rattle.vd_yard.specs.Counts.{arm_faults, good_reads, good_writes}
use Rattle.vd_yard.specs.Yard.{YardSeen}
use Rattle.plan_types.specs.Valid.{IsPlan}
use Rattle.plan_types.specs.declared.plan.Plan.{Plan}
use Rattle.plan_types.specs.declared.store.StorePlan.{StorePlan}
use Rattle.key_state.specs.Books.{Follows}
use Rattle.key_state.specs.Quiet.{quiet_seen}
use Rattle.key_state.specs.declared.seen.BookSeen.{BookSeen}
use Rattle.claim_table.specs.Sums.{total}
use Rattle.claim_table.specs.Views.{bad}
use Rattle.recover_run.specs.Looks.{is_seen, is_unread}
use Rattle.recover_run.specs.declared.look.Look.{Look}
use Rattle.run_report.specs.Lines.{cannot_open_text}
use Rattle.run_report.specs.Says.{printing}
use Rattle.run_report.specs.declared.status.Status.{Status}
use Rattle.run_report.specs.declared.status.Status.TheVariants as status
use Rattle.plan_hands.specs.Stores.{AreStores, book_of, with_books}
use Rattle.plan_journaled.specs.Journaled.{RunsJournaled}
use Rattle.plan_journaled.specs.Journaled as journaled
use Rattle.plan_runs.specs.Quiet.{RunsQuietly, none_made, unwritten}
use Rattle.plan_runs.specs.Quiet as quietly
use Rattle.plan_runs.specs.Stages.{RunsMade, Stage, is_last, stage}
use Rattle.plan_resumed.specs.Going.{GoesOn, went_on}
use Rattle.plan_resumed.specs.Resumed.{RunsResumed}
use Rattle.plan_resumed.specs.Resumed as resumed
use Rattle.plan_resumed.specs.Seating.{with_passes}
use Rattle.plan_journals.specs.Closing.{WentWell}
use Rattle.plan_journals.specs.Open.{Start, new_starts}
use Rattle.plan_verified.specs.Stores.{StoreSeen}
use Rattle.plan_kept.specs.Laws.{JournalsCount}
use Rattle.plan_totals.specs.Drawn.{AllTurnsMade, LineIsDrawn, TurnsAreTold}
use Rattle.plan_totals.specs.Made.{MadeRun, PlanRuns, StoreOf, findings_of, made_of, sum_of, tallies_of, texts_of}
use Rattle.plan_totals.specs.Sentences.{IsCounted, RoseBy}
use Rattle.run_totals.specs.Sentences.{FindingsAreCounted}
use Rattle.plan_runs.specs.Statuses.{tallies_status}
use Rattle.vdbench_top.specs.Runs.{RunCall, RunsFile, no_plan, ran, ran_journaled, ran_resumed, rereading}
use Rattle.vdbench_top.specs.Words.{Asked}

module _ {P B : Type 0} (pass_seen : P → PassSeen) (book_seen : B → BookSeen) where
  -- One of the stores: its book went on, and has ended as many writes more as its total lines say; the good reads of its path rose by their
  -- reads, prereads and rereads, and the arm faults by their faults at least, and not at all where they have none; and where no book and
  -- nothing outside stopped the runs, the good writes rose by their writes, and the bad blocks by their corrupt ones.
  pub record StoreAddsUp (all : PlanRuns pass_seen book_seen) (its : StoreOf pass_seen book_seen all) : Type 0 where
    pub follows : Follows (book_of its.hand) (book_of its.back)
    pub writes : RoseBy (sum_of (λ totals. totals.writes) its.place (made_of pass_seen book_seen all)) (book_of its.hand).ends (book_of its.back).ends
    pub reads : RoseBy (sum_of (λ totals. totals.reads + totals.prereads + totals.rereads) its.place (made_of pass_seen book_seen all))
        (good_reads all.before.yard.counts its.store.path) (good_reads all.last.yard.counts its.store.path)
    pub faults : min (arm_faults all.before.yard.counts its.store.path + sum_of (λ totals. totals.faults) its.place (made_of pass_seen book_seen all)) (2 ^ 64 - 1)
        ≤ arm_faults all.last.yard.counts its.store.path
    pub no_faults : sum_of (λ totals. totals.faults) its.place (made_of pass_seen book_seen all) ≡ 0
        → arm_faults all.last.yard.counts its.store.path ≡ arm_faults all.before.yard.counts its.store.path
    pub good_writes : is_last all.result ≡ false → RoseBy (sum_of (λ totals. totals.writes) its.place (made_of pass_seen book_seen all))
        (good_writes all.before.yard.counts its.store.path) (good_writes all.last.yard.counts its.store.path)
    pub corrupt : is_last all.result ≡ false → total bad (book_of its.back).now
        ≡ total bad (book_of its.hand).now + sum_of (λ totals. totals.corrupt) its.place (made_of pass_seen book_seen all)

  -- The counts of a store's path from before a command to behind it, where verification read so many of its blocks well, and so many not: the
  -- good reads rose by both these blocks and what its total lines have; the arm faults by the blocks that couldn't be read and the lines'
  -- faults at least, and not at all where there is none of either; and where nothing stopped the runs the good writes rose by the lines' writes.
  pub record CountsAddUp (old new : YardSeen) (looked unread : ℕ) (all : PlanRuns pass_seen book_seen) (its : StoreOf pass_seen book_seen all) : Type 0 where
    pub reads : Counted (looked + sum_of (λ totals. totals.reads + totals.prereads + totals.rereads) its.place (made_of pass_seen book_seen all))
        (good_reads old.counts its.store.path) (good_reads new.counts its.store.path)
    pub faults : min (arm_faults old.counts its.store.path + unread + sum_of (λ totals. totals.faults) its.place (made_of pass_seen book_seen all)) (2 ^ 64 - 1)
        ≤ arm_faults new.counts its.store.path
    pub no_faults : unread + sum_of (λ totals. totals.faults) its.place (made_of pass_seen book_seen all) ≡ 0
        → arm_faults new.counts its.store.path ≡ arm_faults old.counts its.store.path
    pub good_writes : is_last all.result ≡ false → Counted (sum_of (λ totals. totals.writes) its.place (made_of pass_seen book_seen all))
        (good_writes old.counts its.store.path) (good_writes new.counts its.store.path)

  -- The runs that were made are the plan's first ones, each begun below the limit of errors, and where nothing stopped them none is left
  -- out below it; the text is theirs, and behind it the line of a file that couldn't be opened; there are a tally and an end for each worker, each
  -- tally's findings are as its numbers say, and where nothing stopped the runs the status is what all tallies say; the errors are their findings;
  -- each store adds up, and the counts of other paths stay.
  pub record RunsAddUp (all : PlanRuns pass_seen book_seen) : Type 0 where
    pub first : map (λ (one : MadeRun). one.run) (made_of pass_seen book_seen all) ≡ take (length (made_of pass_seen book_seen all)) all.plan.runs
    pub below : (i : ℕ) → i < length (made_of pass_seen book_seen all) → all.before.errors + findings_of (take i (made_of pass_seen book_seen all)) < all.plan.data_errors
    pub left_out : is_last all.result ≡ false → length (made_of pass_seen book_seen all) < length all.plan.runs → all.plan.data_errors ≤ all.last.errors
    pub text : all.result ≢ status.NoMemory → all.result ≢ status.Yard → all.text ≡ texts_of all.plan.stores (made_of pass_seen book_seen all)
    pub refused : all.result ≡ status.Yard → (place : ℕ) × (store : StorePlan) × (slice_get all.plan.stores place ≡ Some store)
        × (all.text ≡ texts_of all.plan.stores (made_of pass_seen book_seen all) ++ cannot_open_text store.path)
    pub each : All IsCounted (made_of pass_seen book_seen all)
    pub findings : All (λ (one : MadeRun). All FindingsAreCounted one.tallies) (made_of pass_seen book_seen all)
    pub status : is_last all.result ≡ false → all.result ≡ tallies_status (tallies_of (made_of pass_seen book_seen all))
    pub errors : all.last.errors ≡ all.before.errors + findings_of (made_of pass_seen book_seen all)
    pub elsewhere : (path : List ℕ) → ((place : ℕ) (store : StorePlan) → slice_get all.plan.stores place ≡ Some store → store.path ≡ path → ⊥)
        → (arm_faults all.last.yard.counts path ≡ arm_faults all.before.yard.counts path)
        × RoseBy 0 (good_reads all.before.yard.counts path) (good_reads all.last.yard.counts path)
        × RoseBy 0 (good_writes all.before.yard.counts path) (good_writes all.last.yard.counts path)
    pub stores : (its : StoreOf pass_seen book_seen all) → StoreAddsUp all its

  -- The turns of each run's workers are as its slave lines say. Where the command ended well, each total line of a store of which no block was bad
  -- as the runs began, as none is in new data, is that of the turns that its workers drew; and over a clock that stands still, and early, all turns
  -- of each run were made.
  pub record RunsAreDrawn (anew : Bool) (ended : Status) (all : PlanRuns pass_seen book_seen) : Type 0 where
    pub turns : All TurnsAreTold (made_of pass_seen book_seen all)
    pub lines : ended ≡ status.Good → (its : StoreOf pass_seen book_seen all) → (anew ≡ false → total bad (book_of its.hand).now ≡ 0)
        → All (LineIsDrawn all.plan.reread its.store.id.geometry its.place) (made_of pass_seen book_seen all)
    pub still : ended ≡ status.Good → IsTrue all.before.clock.still → all.before.clock.last < 2 ^ 63 → All AllTurnsMade (made_of pass_seen book_seen all)

  -- Those of all stores, whose blocks were looked at so.
  abbrev pub AllCountsAddUp : YardSeen → YardSeen → List (List Look) → PlanRuns pass_seen book_seen → Type 0
  AllCountsAddUp old new seen all = (its : StoreOf pass_seen book_seen all)
      → CountsAddUp old new (count_by is_seen (slice_index_or seen its.place [])) (count_by is_unread (slice_index_or seen its.place [])) all its

  -- Runs of a valid plan begin with a hand for each of its stores, add up, and are drawn, over new data or not, by a command that ended so; and
  -- the counts add up by what was looked at before them.
  abbrev pub AddUp : (anew : Bool) (ended : Status) (old new : YardSeen) (seen : List (List Look)) (plan : Plan) (before last : Stage) (text : List ℕ) (result : Status) → RunsMade pass_seen book_seen plan plan.runs before last text result → Type 0
  AddUp anew ended old new seen plan before last text result runs =
      (valid : IsPlan plan) → (stores : AreStores plan before.hands)
      × RunsAddUp (record { plan = plan; before = before; last = last; text = text; result = result; valid = valid; stores = stores; runs = runs })
      × RunsAreDrawn anew ended (record { plan = plan; before = before; last = last; text = text; result = result; valid = valid; stores = stores; runs = runs })
      × AllCountsAddUp old new seen (record { plan = plan; before = before; last = last; text = text; result = result; valid = valid; stores = stores; runs = runs })

-- What was made adds up: of runs without journals, of runs over new ones, and of runs over those that are there. Of each store the journal, as
-- it is kept then, has as many ends stored as the total lines have writes, in the epoch in which it was made or opened, with a status of 0,
-- 1 or 2, and where the yard tells the disks that it keeps.
abbrev pub QuietlyAddUp : {P B : Type 0} (pass_seen : P → PassSeen) (book_seen : B → BookSeen) (old : YardSeen) (plan : Plan) (before after : Stage) (text : List ℕ) (result : Status)
    → RunsQuietly pass_seen book_seen plan before after text result → Type 0
QuietlyAddUp pass_seen book_seen old plan before after text result (quietly.all_made last runs hands back clock printing) = AddUp pass_seen book_seen true result old after.yard [] plan before last text result runs
QuietlyAddUp pass_seen book_seen old plan before after text result (none_made yard clock printing none memory) = ⊤

abbrev pub JournaledAddUp : {P B : Type 0} (pass_seen : P → PassSeen) (book_seen : B → BookSeen) (old : YardSeen) (plan : Plan) (before after : Stage) (text : List ℕ) (result : Status)
    → RunsJournaled pass_seen book_seen plan before after text result → Type 0
JournaledAddUp pass_seen book_seen old plan before after text result (journaled.ran books opened said all_open rest closed texts) =
    AddUp pass_seen book_seen true result old after.yard [] plan (stage (with_books books) opened before.clock 0 said) closed.last closed.runs_text closed.work closed.made
    × ((valid : IsPlan plan) (stores : AreStores plan (with_books books)) → WentWell result → IsTrue before.yard.tells.keeps_disks
    → JournalsCount pass_seen book_seen plan valid (stage (with_books books) opened before.clock 0 said) after rest result closed stores (new_starts plan.journal_sectors plan.stores))
JournaledAddUp pass_seen book_seen old plan before after text result other = ⊤

abbrev pub GoingAddsUp : {P B : Type 0} (pass_seen : P → PassSeen) (book_seen : B → BookSeen) (ended : Status) (old : YardSeen) (seen : List (List Look)) (plan : Plan) (disks : List DiskSeen) (starts : List Start) (left : List StoreSeen) (before after : Stage) (text : List ℕ) (result : Status)
    → GoesOn pass_seen book_seen plan disks starts left before after text result → Type 0
GoingAddsUp pass_seen book_seen ended old seen plan disks starts left before after text result (went_on books said opened on seated rest closed texts) =
    AddUp pass_seen book_seen false ended old after.yard seen plan (stage (with_passes left books) before.yard before.clock 0 said) closed.last closed.runs_text closed.work closed.made
    × ((valid : IsPlan plan) (stores : AreStores plan (with_passes left books)) → WentWell result → IsTrue before.yard.tells.keeps_disks
    → JournalsCount pass_seen book_seen plan valid (stage (with_passes left books) before.yard before.clock 0 said) after rest result closed stores starts)
GoingAddsUp pass_seen book_seen ended old seen plan disks starts left before after text result other = ⊤

abbrev pub ResumedAddUp : {P B : Type 0} (pass_seen : P → PassSeen) (book_seen : B → BookSeen) (old : YardSeen) (plan : Plan) (before after : Stage) (starts : List Start) (text : List ℕ) (result : Status)
    → RunsResumed pass_seen book_seen plan before after starts text result → Type 0
ResumedAddUp pass_seen book_seen old plan before after starts text result (resumed.resumed found recovered said have unfailed seen left verified told looked from rest after_that goes texts is) =
    GoingAddsUp pass_seen book_seen result old seen plan have.disks starts left (stage [] verified before.clock 0 told) after rest after_that goes
ResumedAddUp pass_seen book_seen old plan before after starts text result other = ⊤

-- All runs of a command add up.
abbrev pub FileAddsUp : {P B : Type 0} (pass_seen : P → PassSeen) (book_seen : B → BookSeen) (before after : Stage) (asks : Asked) (text : List ℕ) (result : Status)
    → RunsFile pass_seen book_seen before after asks text result → Type 0
FileAddsUp pass_seen book_seen before after asks text result (no_plan reads none clock says) = ⊤
FileAddsUp pass_seen book_seen before after asks text result (ran plan kept is valid read reads runs) =
    QuietlyAddUp pass_seen quiet_seen before.yard (rereading asks.again plan) (stage (with_books (map unwritten plan.stores)) read before.clock 0 before.printing) after text result runs
FileAddsUp pass_seen book_seen before after asks text result (ran_journaled plan kept is valid read reads runs says keeps) =
    JournaledAddUp pass_seen book_seen before.yard (rereading asks.again plan) (stage [] read before.clock 0 before.printing) after text result runs
FileAddsUp pass_seen book_seen before after asks text result (ran_resumed plan kept is valid read reads went texts uses) =
    ResumedAddUp pass_seen book_seen before.yard (rereading asks.again plan) (stage [] read before.clock 0 before.printing) after went.starts went.text result went.does

abbrev pub CallAddsUp : {P B : Type 0} {pass_seen : P → PassSeen} {book_seen : B → BookSeen} {old new : YardSeen} {clock_before clock_after : ClockSeen} {taken_before taken_after : Option (List ℕ)} {faults_before faults_after : ℕ} {asks : Asked} {result : Status}
    → RunCall pass_seen book_seen old new clock_before clock_after taken_before taken_after faults_before faults_after asks result → Type 0
CallAddsUp {P} {B} {pass_seen} {book_seen} {old} {new} {clock_before} {clock_after} {taken_before} {taken_after} {faults_before} {faults_after} {asks} {result} call =
    FileAddsUp pass_seen book_seen (stage [] old clock_before 0 (printing false taken_before faults_before)) (stage [] new clock_after 0 call.last) asks call.text call.said call.runs
