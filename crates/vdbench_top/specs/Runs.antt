-- What a command says and does that runs the plan of its parameter file.
use Rattle.std.specs.Prelude.{◌≡◌, ◌≢◌, ◌⊎◌, ℕ, ◌||◌, Bool, false, IsTrue, List, [], map, Option, Err}
use Rattle.vd_outside.specs.Causes.{Rose}
use Rattle.vd_outside.specs.Clocks.{ClockSeen}
use Rattle.vd_arm.specs.Arm.{PassSeen}
use Rattle.vd_yard.specs.Out.{AtSource}
use Rattle.vd_yard.specs.Counts.{good_writes, source_faults}
use Rattle.vd_yard.specs.Yard.{YardSeen, is_there}
use Rattle.plan_types.specs.Valid.{IsPlan}
use Rattle.plan_types.specs.declared.plan.Plan.{Plan}
use Rattle.plan_file.specs.Files.{PlansTo}
use Rattle.key_state.specs.Quiet.{quiet_seen}
use Rattle.key_state.specs.declared.entry.Entry.{Entry}
use Rattle.key_state.specs.declared.seen.BookSeen.{BookSeen}
use Rattle.journal_recover.specs.declared.found.Recovered.{Recovered}
use Rattle.run_report.specs.Lines.{cannot_open_text, cannot_read_text}
use Rattle.run_report.specs.Says.{Printing, Says, printing}
use Rattle.run_report.specs.declared.status.Status.{Status}
use Rattle.run_report.specs.declared.status.Status.TheVariants as status
use Rattle.still_store.specs.Frame.{Keeps}
use Rattle.still_plan.specs.Journals.{AllRecover}
use Rattle.plan_hands.specs.Stores.{with_books}
use Rattle.plan_journaled.specs.Journaled.{RunsJournaled, StandClosed}
use Rattle.plan_journals.specs.Closing.{WentWell}
use Rattle.plan_journals.specs.Growth.{ChangesOnlyJournals, SomeRose}
use Rattle.plan_journals.specs.Open.{Start, new_starts}
use Rattle.plan_reopened.specs.Reopening.{AreSettled, next_starts}
use Rattle.plan_resumed.specs.Going.{StandClosedFrom}
use Rattle.plan_resumed.specs.Resumed.{AreThere, OnlyJournalsChange, Resumed}
use Rattle.plan_runs.specs.Quiet.{CanEndRun, RunsQuietly, unwritten}
use Rattle.plan_runs.specs.Stages.{Stage, stage}
use Rattle.vdbench_top.specs.Still.{AreBytesOf, Ends, IsPlanOf, IsUntouched}
use Rattle.vdbench_top.specs.Words.{Asked}
use Rattle.vdbench_top.specs.declared.words.Keeping.{Keeping}
use Rattle.vdbench_top.specs.declared.words.Keeping.TheVariants as keeping

-- a plan whose runs read again what they wrote, also where only the words ask for it
abbrev pub rereading : Bool → Plan → Plan
rereading again plan = record plan { reread = plan.reread || again }

-- A parameter file was read, or wasn't, and given back: no data and no journal was touched.
pub record OnlyReads (old new : YardSeen) : Type 0 where
  pub keeps : Keeps old new
  pub untouched : IsUntouched old new
  pub writes : (path : List ℕ) → good_writes new.counts path ≡ good_writes old.counts path

-- Why a parameter file gives no plan, with what is said: it can't be opened, or be read, its bytes are refused, or memory ran out.
pub data HasNoPlan (old new : YardSeen) (file text : List ℕ) (result : Status) : Type 0 where
  unopened : Rose old.faults new.faults → (IsTrue old.willing → IsTrue (is_there old.files AtSource file) → ⊥)
      → text ≡ cannot_open_text file → result ≡ status.Yard → HasNoPlan old new file text result
  unread : Rose (source_faults old.counts file) (source_faults new.counts file) → (IsTrue (old.tells.sure AtSource file) → ⊥)
      → text ≡ cannot_read_text file → result ≡ status.Source → HasNoPlan old new file text result
  refused : (bytes : List ℕ) → AreBytesOf old file bytes → PlansTo bytes (Err text) → result ≡ status.Parameter → HasNoPlan old new file text result
  unkept : text ≡ [] → result ≡ status.NoMemory → HasNoPlan old new file text result

-- What becomes of the kept disks where the runs of a plan go over new journals. The disk at a path is as it was, only read, or what is left
-- of the new journal of one of the plan's stores; with a status of 0, 1 or 2 each of these journals stands closed, with all records of its
-- book; and that of a failed journal comes only where the count of faults of one of their disks rose.
pub record KeepsJournals (plan : Plan) (old new : YardSeen) (result : Status) : Type 0 where
  pub grows : ChangesOnlyJournals (new_starts plan.journal_sectors plan.stores) old.disks new.disks
  pub closed : WentWell result → IsTrue old.tells.keeps_disks → StandClosed plan old new
  pub failed : result ≡ status.Journal → IsTrue old.tells.keeps_disks → SomeRose plan.stores old.disks new.disks

-- No journal is opened; or each in the epoch behind the one that it gave as it was recovered, with a valid entry for each block of its store;
-- with which, the runs say.
abbrev pub AreNext : Plan → YardSeen → List Start → Type 0
AreNext plan yard starts = (starts ≡ [])
    ⊎ ((found : List Recovered) × (entries : List (List Entry)) × AllRecover yard plan.stores found × AreSettled plan.stores entries × (starts ≡ next_starts plan.stores found entries))

-- What becomes of the kept disks where the runs of a plan go over the journals that are there. Each is as it was, only read, or what is left of
-- one of these journals; with a status of 0, 1 or 2, where the yard tells its disks, each of them stands closed, opened in that next epoch and
-- with all records of its book, in that epoch or, where a log filled, a later one; and the status of a failed journal comes only where the count
-- of faults of one of their disks rose.
pub record ReopensJournals (plan : Plan) (old new : YardSeen) (result : Status) : Type 0 where
  pub starts : List Start
  pub next : AreNext plan old starts
  pub grows : OnlyJournalsChange starts old.disks new.disks
  pub closed : WentWell result → IsTrue old.tells.keeps_disks → StandClosedFrom plan starts old new
  pub failed : result ≡ status.Journal → IsTrue old.tells.keeps_disks → SomeRose plan.stores old.disks new.disks

-- What is said over a parameter file by a command that runs its plan: why there is no plan, or what its runs say, without journals, over new
-- ones, or over those that are there.
pub data RunsFile {P B : Type 0} (pass_seen : P → PassSeen) (book_seen : B → BookSeen) (before after : Stage) (asks : Asked) (text : List ℕ) (result : Status) : Type 0 where
  no_plan : OnlyReads before.yard after.yard → HasNoPlan before.yard after.yard asks.file text result → after.clock ≡ before.clock
      → Says before.printing after.printing text → RunsFile pass_seen book_seen before after asks text result
  ran : (plan : Plan) → asks.keeping ≡ keeping.Nothing → IsPlanOf before.yard asks.file plan → IsPlan (rereading asks.again plan) → (read : YardSeen) → OnlyReads before.yard read
      → RunsQuietly pass_seen quiet_seen (rereading asks.again plan) (stage (with_books (map unwritten plan.stores)) read before.clock 0 before.printing) after text result
      → RunsFile pass_seen book_seen before after asks text result
  ran_journaled : (plan : Plan) → asks.keeping ≡ keeping.NewJournals → IsPlanOf before.yard asks.file plan → IsPlan (rereading asks.again plan) → (read : YardSeen) → OnlyReads before.yard read
      → RunsJournaled pass_seen book_seen (rereading asks.again plan) (stage [] read before.clock 0 before.printing) after text result
      → Says before.printing after.printing text → KeepsJournals plan before.yard after.yard result → RunsFile pass_seen book_seen before after asks text result
  ran_resumed : (plan : Plan) → asks.keeping ≡ keeping.OldJournals → IsPlanOf before.yard asks.file plan → IsPlan (rereading asks.again plan) → (read : YardSeen) → OnlyReads before.yard read
      → (went : Resumed pass_seen book_seen (rereading asks.again plan) (stage [] read before.clock 0 before.printing) after result)
      → text ≡ went.text → ReopensJournals plan before.yard after.yard result → RunsFile pass_seen book_seen before after asks text result

-- A command that runs its plan: it ends by the lines of its status, whatever it had to say before.
pub record RunCall {P B : Type 0} (pass_seen : P → PassSeen) (book_seen : B → BookSeen) (old new : YardSeen) (clock_before clock_after : ClockSeen) (taken_before taken_after : Option (List ℕ)) (faults_before faults_after : ℕ) (asks : Asked) (result : Status) : Type 0 where
  pub text : List ℕ
  pub said : Status
  pub last : Printing
  pub runs : RunsFile pass_seen book_seen (stage [] old clock_before 0 (printing false taken_before faults_before)) (stage [] new clock_after 0 last) asks text said
  pub ends : Ends text said result taken_before taken_after

-- What becomes of the kept disks over a parameter file, where this does over its plan: without a plan they stay.
pub data OverFile (Over : Plan → YardSeen → YardSeen → Status → Type 0) (old new : YardSeen) (file : List ℕ) (result : Status) : Type 0 where
  without_plan : new.disks ≡ old.disks → (WentWell result → ⊥) → (result ≡ status.Journal → ⊥) → OverFile Over old new file result
  over_plan : (plan : Plan) → IsPlanOf old file plan → Over plan old new result → OverFile Over old new file result

-- the same of runs over new journals, and over those that are there
abbrev pub MakesJournals : YardSeen → YardSeen → List ℕ → Status → Type 0
MakesJournals old new file result = OverFile KeepsJournals old new file result

abbrev pub UsesJournals : YardSeen → YardSeen → List ℕ → Status → Type 0
UsesJournals old new file result = OverFile ReopensJournals old new file result

-- Where the journals that are there are to be used, those of every plan that the parameter file, as told, may give are there.
abbrev pub HasJournals : YardSeen → Keeping → List ℕ → Type 0
HasJournals yard keep file = keep ≡ keeping.OldJournals → (plan : Plan) → IsPlanOf yard file plan → AreThere yard plan.stores

-- How a command may end whose plan was run over new journals, but for a failed output: never by a status of words, or of what a journal has
-- in it.
pub record CanEndJournaled (result : Status) : Type 0 where
  pub no_usage : result ≢ status.Usage
  pub no_output : result ≢ status.Sink
  pub none_missing : result ≢ status.NoJournal
  pub none_damaged : result ≢ status.Damaged
  pub none_mismatched : result ≢ status.Mismatch

-- How a command may end that runs its plan, by how it keeps what was written.
abbrev pub CanEndAs : Keeping → Status → Type 0
CanEndAs keeping.Nothing result = CanEndRun result
CanEndAs keeping.NewJournals result = CanEndJournaled result
CanEndAs keeping.OldJournals result = result ≢ status.Usage

-- It isn't one of the two statuses of a journal that hide whether an arm failed.
abbrev pub NoJournalEnd : Status → Type 0
NoJournalEnd result = (result ≢ status.Journal) × (result ≢ status.EpochEnd)
