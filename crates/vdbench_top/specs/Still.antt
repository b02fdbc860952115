-- The text and the status of a still command, by what it finds.
use Rattle.std.specs.Prelude.{◌≡◌, ◌≢◌, ◌⊎◌, ℕ, ◌+◌, ◌-◌, ◌^◌, ◌<◌, min, Bool, true, false, IsTrue, List, [], ◌++◌, take, slice_get, All, Option, Some, Ok, Err}
use Rattle.std.specs.Io.KnownBytes.{Appends}
use Rattle.vd_outside.specs.Causes.{Rose}
use Rattle.vd_outside.specs.Streams.{AppendsFront}
use Rattle.vd_disk.specs.Disk.{DiskSeen}
use Rattle.vd_yard.specs.Out.{AtSource, AtDisk}
use Rattle.vd_yard.specs.Counts.{source_faults}
use Rattle.vd_yard.specs.Kept.{Kept, kept_at}
use Rattle.vd_yard.specs.Yard.{YardSeen, is_there, HasFiles}
use Rattle.plan_types.specs.declared.plan.Plan.{Plan}
use Rattle.plan_types.specs.declared.store.StorePlan.{StorePlan}
use Rattle.plan_file.specs.Files.{PlansTo}
use Rattle.run_report.specs.declared.status.Status.{Status}
use Rattle.run_report.specs.declared.status.Status.TheVariants as status
use Rattle.run_report.specs.Status.{last_text}
use Rattle.run_report.specs.Lines.{cannot_open_text, cannot_read_text}
use Rattle.run_report.specs.Plans.{plan_text}
use Rattle.still_store.specs.Recovery.{JournalRefused}
use Rattle.still_plan.specs.Frame.{CountsStay, IsPathOf, IsUnopened, StoresStay}
use Rattle.still_plan.specs.Still.{IsStill}

-- no data was opened, and no journal's disk
pub record IsUntouched (old new : YardSeen) : Type 0 where
  pub unopened : IsUnopened old new
  pub disks : new.disks ≡ old.disks

-- What is said over a plan, and the status that it goes with: its lines, or a front of them where memory ran out, and nothing else was
-- opened; or what is said over its stores, whose blocks have the bytes that they had, and what is counted of other paths stays.
pub data SaidOfPlan (old new : YardSeen) (shows : Bool) (plan : Plan) (text : List ℕ) (result : Status) : Type 0 where
  shown : shows ≡ true → IsUntouched old new → text ≡ plan_text plan → result ≡ status.Good → SaidOfPlan old new shows plan text result
  shown_front : shows ≡ true → IsUntouched old new → (n : ℕ) → text ≡ take n (plan_text plan) → result ≡ status.NoMemory → SaidOfPlan old new shows plan text result
  looked : shows ≡ false → IsStill old new plan.stores text result → StoresStay plan.stores old.contents new.contents
      → ((path : List ℕ) → (IsPathOf plan.stores path → ⊥) → CountsStay old new path) → SaidOfPlan old new shows plan text result

-- What is said over a parameter file of these bytes: the line that refuses it, or what is said over its plan.
pub data SaidOfBytes (old new : YardSeen) (shows : Bool) (bytes text : List ℕ) (result : Status) : Type 0 where
  refused : PlansTo bytes (Err text) → IsUntouched old new → result ≡ status.Parameter → SaidOfBytes old new shows bytes text result
  planned : (plan : Plan) → PlansTo bytes (Ok plan) → SaidOfPlan old new shows plan text result → SaidOfBytes old new shows bytes text result
  unplanned : IsUntouched old new → text ≡ [] → result ≡ status.NoMemory → SaidOfBytes old new shows bytes text result

-- bytes that reading this file up to its limit may give: where the yard tells the file, those that it has
abbrev pub AreBytesOf : YardSeen → List ℕ → List ℕ → Type 0
AreBytesOf yard file bytes = (parameters : List ℕ) → yard.tells.bytes file ≡ Some parameters → bytes ≡ take 1048577 parameters

-- What is said over a parameter file: that it can't be opened, or be read, each with its cause; or what is said over its bytes.
pub data SaidOfFile (old new : YardSeen) (shows : Bool) (file text : List ℕ) (result : Status) : Type 0 where
  unopened : Rose old.faults new.faults → (IsTrue old.willing → IsTrue (is_there old.files AtSource file) → ⊥)
      → IsUntouched old new → text ≡ cannot_open_text file → result ≡ status.Yard → SaidOfFile old new shows file text result
  unread : Rose (source_faults old.counts file) (source_faults new.counts file) → (IsTrue (old.tells.sure AtSource file) → ⊥)
      → IsUntouched old new → text ≡ cannot_read_text file → result ≡ status.Source → SaidOfFile old new shows file text result
  read : (bytes : List ℕ) → AreBytesOf old file bytes → SaidOfBytes old new shows bytes text result → SaidOfFile old new shows file text result
  unkept : IsUntouched old new → text ≡ [] → result ≡ status.NoMemory → SaidOfFile old new shows file text result

-- a plan of such bytes
pub record IsPlanOf (yard : YardSeen) (file : List ℕ) (plan : Plan) : Type 0 where
  pub bytes : List ℕ
  pub read : AreBytesOf yard file bytes
  pub plans : PlansTo bytes (Ok plan)

-- All data is as it was, or that of other paths than a plan's, and the bytes of its blocks.
pub data DataStays (yard : YardSeen) (file : List ℕ) (old new : Kept (List ℕ)) : Type 0 where
  untouched : new ≡ old → DataStays yard file old new
  opened : (plan : Plan) → IsPlanOf yard file plan → StoresStay plan.stores old new → DataStays yard file old new

-- one of the journals of these stores is refused
abbrev pub SomeRefused : YardSeen → List StorePlan → Type 0
SomeRefused yard stores = (n : ℕ) × (store : StorePlan) × (slice_get stores n ≡ Some store) × JournalRefused yard store

-- A parameter file of these bytes leads to no data: it has no plan, or a journal of a store of it is refused.
abbrev pub FindsNoData : YardSeen → List ℕ → Type 0
FindsNoData yard bytes = (plan : Plan) → PlansTo bytes (Ok plan) → SomeRefused yard plan.stores

-- How a command ends that had to say this text and its last lines: all was added and the status is its own, or a front was added and
-- the status is that of a failed output.
pub record Ends (text : List ℕ) (said result : Status) (before now : Option (List ℕ)) : Type 0 where
  pub printed_all : result ≢ status.Sink → (result ≡ said) × Appends before now (text ++ last_text said)
  pub printed_front : result ≡ status.Sink → AppendsFront before now (text ++ last_text said)

-- the files that a store needs are there
abbrev pub HasStore : YardSeen → StorePlan → Type 0
HasStore yard store = IsTrue (is_there yard.files AtDisk store.journal) × HasFiles yard.files store

-- the yard tells the disk of a store's journal, and it is sure where it is there
pub record HasSureDisk (yard : YardSeen) (store : StorePlan) : Type 0 where
  pub keeps : IsTrue yard.tells.keeps_disks
  pub sure : (disk : DiskSeen) → kept_at yard.disks store.journal ≡ Some disk → IsTrue disk.sure × (disk.faults < 2 ^ 64 - 1)

-- Nothing outside fails: the parameter file is sure, and so are the journals' disks of its plan where that isn't only shown; and the
-- yard's count doesn't rise, or it is willing and has the files.
pub record IsHonest (old new : YardSeen) (shows : Bool) (file : List ℕ) : Type 0 where
  pub source : IsTrue (old.tells.sure AtSource file)
  pub disks : shows ≡ false → (plan : Plan) → IsPlanOf old file plan → All (HasSureDisk old) plan.stores
  pub yard : (new.faults < min (old.faults + 1) (2 ^ 64 - 1))
      ⊎ (IsTrue old.willing × IsTrue (is_there old.files AtSource file) × (shows ≡ false → (plan : Plan) → IsPlanOf old file plan → All (HasStore old) plan.stores))

-- the status of no failed call of the yard, the parameter file or a journal's disk
pub record IsNoFault (said : Status) : Type 0 where
  pub yard : said ≢ status.Yard
  pub source : said ≢ status.Source
  pub journal : said ≢ status.Journal
