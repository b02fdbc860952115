-- A plan's runs over journals that are recovered.
use Rattle.std.specs.Prelude.{◌≡◌, ◌≢◌, ◌⊎◌, ℕ, ◌++◌, Bool, true, false, IsTrue, List, [], map, Some, slice_get}
use Rattle.vd_arm.specs.Arm.{PassSeen}
use Rattle.vd_disk.specs.Disk.{DiskSeen}
use Rattle.vd_yard.specs.Counts.{source_faults}
use Rattle.vd_yard.specs.Kept.{Kept}
use Rattle.vd_yard.specs.Out.{AtDisk}
use Rattle.vd_yard.specs.Yard.{YardSeen, is_there}
use Rattle.plan_types.specs.declared.plan.Plan.{Plan}
use Rattle.plan_types.specs.declared.store.StorePlan.{StorePlan}
use Rattle.key_state.specs.declared.seen.BookSeen.{BookSeen}
use Rattle.journal_recover.specs.declared.found.Recovered.{Recovered}
use Rattle.recover_run.specs.declared.look.Look.{Look}
use Rattle.run_report.specs.Says.{Printing, Says}
use Rattle.run_report.specs.declared.status.Status.{Status}
use Rattle.run_report.specs.declared.status.Status.TheVariants as status
use Rattle.still_store.specs.Frame.{JournalsStay, Stays}
use Rattle.still_plan.specs.Frame.{CountsStay, IsPathOf, StoresStay}
use Rattle.still_plan.specs.Journals.{JournalsStop, journals_text}
use Rattle.still_plan.specs.Stores.{StoresEnd, all_looks, looks_status, stores_text}
use Rattle.plan_verified.specs.Stores.{LeaveStores, StoreSeen, is_stop, settled_of, stores_out}
use Rattle.plan_journals.specs.Closing.{WentWell}
use Rattle.plan_journals.specs.Growth.{ChangesOnlyJournals, LeavesRest}
use Rattle.plan_journals.specs.Open.{Start, out_besides}
use Rattle.plan_reopened.specs.Recovering.{AreRecovered}
use Rattle.plan_reopened.specs.Reopening.{KeepsEach, next_starts}
use Rattle.plan_runs.specs.Stages.{Stage, stage}
use Rattle.plan_runs.specs.Statuses.{worse}
use Rattle.plan_resumed.specs.Going.{GoesOn, StandClosedFrom}

-- The journals of all stores were recovered and only read, their lines were said, and their disks are out.
pub record HaveRecovered (plan : Plan) (before : Stage) (found : List Recovered) (recovered : YardSeen) (said : Printing) : Type 0 where
  pub disks : List DiskSeen
  pub each : AreRecovered before.yard plan.stores disks found
  pub says : Says before.printing said (journals_text plan.stores found)
  pub leaves : LeavesRest before.yard recovered
  pub out : recovered.out ≡ out_besides before.yard.out plan.stores
  pub same : recovered.disks ≡ before.yard.disks
  pub faults : recovered.faults ≡ before.yard.faults

-- All stores were verified by what their journals gave, by these looks, and their lines were said. Their passes are out. What is counted of
-- sources stays, and so does what is counted of paths that are of no store.
pub record HaveVerified (plan : Plan) (found : List Recovered) (seen : List (List Look)) (left : List StoreSeen) (recovered : YardSeen) (had : Printing) (verified : YardSeen) (said : Printing) : Type 0 where
  pub each : LeaveStores recovered verified plan.stores found seen left
  pub says : Says had said (stores_text plan.stores found seen)
  pub stays : Stays recovered verified
  pub out : verified.out ≡ stores_out plan.stores recovered.out
  pub sources : (path : List ℕ) → source_faults verified.counts path ≡ source_faults recovered.counts path
  pub elsewhere : (path : List ℕ) → (IsPathOf plan.stores path → ⊥) → CountsStay recovered verified path
  pub disks : verified.disks ≡ recovered.disks
  pub contents : verified.contents ≡ recovered.contents

-- What a command does that runs its plan over recovered journals, the starts of the journals that it opens, its text and its status.
pub data RunsResumed {P B : Type 0} (pass_seen : P → PassSeen) (book_seen : B → BookSeen) (plan : Plan) (before after : Stage) (starts : List Start) (text : List ℕ) (result : Status) : Type 0 where
  -- a journal isn't recovered, and no data was opened
  not_recovered : JournalsStop before.yard after.yard plan.stores text result → LeavesRest before.yard after.yard
      → JournalsStay before.yard.disks after.yard.disks → after.clock ≡ before.clock → starts ≡ []
      → RunsResumed pass_seen book_seen plan before after starts text result
  -- verification stops at a store, nothing was written, and no block's bytes changed
  not_verified : (found : List Recovered) (recovered : YardSeen) (said : Printing) → HaveRecovered plan before found recovered said
      → (verified : YardSeen) (rest : List ℕ) → StoresEnd recovered verified plan.stores found rest result → IsTrue (is_stop result)
      → StoresStay plan.stores recovered.contents verified.contents → Stays recovered verified → LeavesRest verified after.yard
      → KeepsEach before.yard.disks after.yard.disks → after.clock ≡ before.clock → starts ≡ []
      → text ≡ journals_text plan.stores found ++ rest → RunsResumed pass_seen book_seen plan before after starts text result
  -- No write of the output had failed as all were recovered. All stores were verified, and each journal begins its next epoch with the
  -- entries that its store's looks left, on the very disk from which it was recovered.
  resumed : (found : List Recovered) (recovered : YardSeen) (said : Printing) → (have : HaveRecovered plan before found recovered said) → said.failed ≡ false
      → (seen : List (List Look)) (left : List StoreSeen) (verified : YardSeen) (told : Printing)
      → HaveVerified plan found seen left recovered said verified told → starts ≡ next_starts plan.stores found (map settled_of left)
      → (rest : List ℕ) (after_that : Status) → GoesOn pass_seen book_seen plan have.disks starts left (stage [] verified before.clock 0 told) after rest after_that
      → text ≡ journals_text plan.stores found ++ (stores_text plan.stores found seen ++ rest)
      → result ≡ worse (looks_status (all_looks seen)) after_that → RunsResumed pass_seen book_seen plan before after starts text result

-- Each kept disk was only read; or at each path is what was there, a disk that was only read, or what is left of one of these journals.
abbrev pub OnlyJournalsChange : List Start → Kept DiskSeen → Kept DiskSeen → Type 0
OnlyJournalsChange starts old new = JournalsStay old new ⊎ ChangesOnlyJournals starts old new

-- What such a command does, says and leaves of the disks. With a status of 0, 1 or 2 each journal stands closed in its next epoch.
pub record Resumed {P B : Type 0} (pass_seen : P → PassSeen) (book_seen : B → BookSeen) (plan : Plan) (before after : Stage) (result : Status) : Type 0 where
  pub text : List ℕ
  pub starts : List Start
  pub does : RunsResumed pass_seen book_seen plan before after starts text result
  pub says : Says before.printing after.printing text
  pub grows : OnlyJournalsChange starts before.yard.disks after.yard.disks
  pub whole : WentWell result → IsTrue before.yard.tells.keeps_disks → StandClosedFrom plan starts before.yard after.yard

-- The files of all these stores' journals are there.
abbrev pub AreThere : YardSeen → List StorePlan → Type 0
AreThere yard stores = (place : ℕ) (store : StorePlan) → slice_get stores place ≡ Some store → IsTrue (is_there yard.files AtDisk store.journal)

-- How such a command may end: by no status of words, of a parameter file or of a source, and by that of an output only where one failed.
pub record CanEndResumed (result : Status) (failed : Bool) : Type 0 where
  pub no_usage : result ≢ status.Usage
  pub no_parameter : result ≢ status.Parameter
  pub no_source : result ≢ status.Source
  pub output : result ≡ status.Sink → failed ≡ true
