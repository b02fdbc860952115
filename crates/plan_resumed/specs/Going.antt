-- What a command does behind the verification of its stores: journals are opened in their next epoch, and runs follow.
use Rattle.std.specs.Prelude.{◌≡◌, ◌≢◌, ℕ, ◌-◌, ◌^◌, ◌≤◌, ◌++◌, min, IsTrue, List, [], length, map, take}
use Rattle.vd_outside.specs.Causes.{Rose}
use Rattle.vd_arm.specs.Arm.{PassSeen}
use Rattle.vd_disk.specs.Disk.{DiskSeen}
use Rattle.vd_yard.specs.Counts.{arm_faults, source_faults}
use Rattle.vd_yard.specs.Out.{Out}
use Rattle.vd_yard.specs.Yard.{StaysThere, YardSeen}
use Rattle.plan_types.specs.declared.plan.Plan.{Plan}
use Rattle.key_state.specs.declared.seen.BookSeen.{BookSeen}
use Rattle.run_report.specs.Says.{Printing, Says}
use Rattle.run_report.specs.declared.status.Status.{Status}
use Rattle.run_report.specs.declared.status.Status.TheVariants as status
use Rattle.plan_verified.specs.Back.{StoresBack}
use Rattle.plan_verified.specs.Stores.{StoreSeen, stores_out}
use Rattle.plan_journals.specs.Closing.{AllEnded, IsClosingStatus, WentWell, after_refusal, ends_text}
use Rattle.plan_journals.specs.Growth.{AreKeptClosed, ChangesOnlyJournals, LeavesRest, SomeRose}
use Rattle.plan_journals.specs.Open.{Held, Start, out_besides, seen_held}
use Rattle.plan_reopened.specs.Reopening.{AllReopened, AreOpenedOn, KeepsEach, ReopeningEnds, starts_text}
use Rattle.plan_hands.specs.Stores.{AreStores}
use Rattle.plan_runs.specs.Stages.{Stage, stage}
use Rattle.plan_journaled.specs.Over.{CanEndOver, RunsClosed}
use Rattle.plan_resumed.specs.Seating.{with_passes}

-- The passes of verified stores, and the disks of all journals, are out besides what was.
abbrev pub VerifiedAreOut : Plan → Out → Out → Type 0
VerifiedAreOut plan before out = out ≡ stores_out plan.stores (out_besides before plan.stores)

-- The passes went back to the yard, and then the open journals were closed, without a run.
pub record ClosedUnused (plan : Plan) (left : List StoreSeen) (books : List BookSeen) (opened : YardSeen) (said : Printing) (after : Stage) : Type 0 where
  pub back : YardSeen
  pub passes : StoresBack plan.stores left opened back
  pub held : List Held
  pub same : map seen_held held ≡ books
  pub closing : Status
  pub ended : AllEnded back after.yard plan.stores held said after.printing closing
  pub answers : IsClosingStatus closing
  pub rest : LeavesRest back after.yard
  pub faults : after.yard.faults ≡ back.faults

-- Passes and disks went back to the yard as they were, and nothing was said.
pub record GivenBack (plan : Plan) (left : List StoreSeen) (before after : Stage) : Type 0 where
  pub back : YardSeen
  pub passes : StoresBack plan.stores left before.yard back
  pub rest : LeavesRest back after.yard
  pub faults : after.yard.faults ≡ back.faults
  pub disks : KeepsEach back.disks after.yard.disks
  pub printing : after.printing ≡ before.printing

-- What a command does with verified stores, whose passes are these, and with journals that are opened so on these disks: its text and its
-- status.
pub data GoesOn {P B : Type 0} (pass_seen : P → PassSeen) (book_seen : B → BookSeen) (plan : Plan) (disks : List DiskSeen) (starts : List Start) (left : List StoreSeen) (before after : Stage) (text : List ℕ) (result : Status) : Type 0 where
  -- all were opened, each on its disk; there is a hand for each store of the plan, with its open passes and its book; the runs were made
  -- over those, and the journals were closed
  went_on : (books : List BookSeen) (said : Printing) → AllReopened before.yard before.yard starts [] books before.printing said → AreOpenedOn disks books
      → AreStores plan (with_passes left books)
      → (rest : List ℕ) → RunsClosed pass_seen book_seen plan (stage (with_passes left books) before.yard before.clock 0 said) after rest result
      → text ≡ starts_text starts ++ rest → GoesOn pass_seen book_seen plan disks starts left before after text result
  -- all were opened, memory ran out before the first run, and they were closed
  unseated : (books : List BookSeen) (said : Printing) → AllReopened before.yard before.yard starts [] books before.printing said → AreOpenedOn disks books
      → (unused : ClosedUnused plan left books before.yard said after) → after.clock ≡ before.clock
      → text ≡ starts_text starts ++ ends_text plan.stores unused.ended.ends → result ≡ status.NoMemory
      → GoesOn pass_seen book_seen plan disks starts left before after text result
  -- an opening stopped, and those that were open were closed
  stopped : (books : List BookSeen) (opened : YardSeen) (said : Printing) (why : Status)
      → (stops : ReopeningEnds before.yard opened plan.stores starts [] books before.printing said why) → AreOpenedOn disks books
      → LeavesRest before.yard opened → opened.faults ≡ before.yard.faults → (unused : ClosedUnused plan left books opened said after)
      → after.clock ≡ before.clock
      → text ≡ (starts_text (take stops.place starts) ++ stops.text) ++ ends_text plan.stores unused.ended.ends
      → result ≡ after_refusal why unused.closing → GoesOn pass_seen book_seen plan disks starts left before after text result
  -- memory ran out before the first opening
  not_begun : GivenBack plan left before after → after.clock ≡ before.clock → text ≡ [] → result ≡ status.NoMemory
      → GoesOn pass_seen book_seen plan disks starts left before after text result

-- Each journal that was opened so stands closed on the disk that is kept at its path, with all records of its book.
pub record StandClosedFrom (plan : Plan) (starts : List Start) (old new : YardSeen) : Type 0 where
  pub books : List BookSeen
  pub one_each : length books ≡ length plan.stores
  pub closed : AreKeptClosed old.disks new.disks starts books

-- What a command with verified stores and recovered journals leaves of a yard, by its status.
pub record LeavesYard (old new : YardSeen) (result : Status) : Type 0 where
  pub tells : new.tells ≡ old.tells
  pub willing : IsTrue old.willing → IsTrue new.willing × (result ≢ status.Yard)
  pub files : StaysThere old.files new.files
  pub sources : (path : List ℕ) → source_faults new.counts path ≡ source_faults old.counts path
  pub yard_fault : result ≡ status.Yard → Rose old.faults new.faults
  pub yard_quiet : result ≢ status.Yard → result ≢ status.NoMemory → new.faults ≡ old.faults
  pub arms : (path : List ℕ) → min (arm_faults old.counts path) (2 ^ 64 - 1) ≤ arm_faults new.counts path
  pub device_fault : result ≡ status.Device → (path : List ℕ) × Rose (arm_faults old.counts path) (arm_faults new.counts path)
  pub device_quiet : result ≢ status.Device → result ≢ status.EpochEnd → result ≢ status.Journal → result ≢ status.Yard → result ≢ status.NoMemory
      → (path : List ℕ) → arm_faults new.counts path ≡ arm_faults old.counts path
  pub can : CanEndOver result

-- What a command does with verified stores, and what it leaves: of the disks only these journals changed; with a status of 0, 1 or 2 each
-- of them stands closed; and the status of a failed journal comes only where the count of faults of one of their disks rose.
pub record WentOn {P B : Type 0} (pass_seen : P → PassSeen) (book_seen : B → BookSeen) (plan : Plan) (disks : List DiskSeen) (starts : List Start) (left : List StoreSeen) (before after : Stage) (result : Status) : Type 0 where
  pub text : List ℕ
  pub does : GoesOn pass_seen book_seen plan disks starts left before after text result
  pub says : Says before.printing after.printing text
  pub leaves : LeavesYard before.yard after.yard result
  pub grows : ChangesOnlyJournals starts before.yard.disks after.yard.disks
  pub whole : WentWell result → IsTrue before.yard.tells.keeps_disks → StandClosedFrom plan starts before.yard after.yard
  pub journal_fault : result ≡ status.Journal → IsTrue before.yard.tells.keeps_disks → SomeRose plan.stores before.yard.disks after.yard.disks
