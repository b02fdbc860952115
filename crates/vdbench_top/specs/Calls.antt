-- What a still command does, and what is printed and answered: the promise of a command that changes nothing outside.
use Rattle.std.specs.Prelude.{◌≡◌, ◌≢◌, ℕ, true, IsTrue, List, take, Option, Some, None}
use Rattle.vd_outside.specs.Causes.{Rose}
use Rattle.vd_yard.specs.Counts.{arm_faults, source_faults}
use Rattle.vd_yard.specs.Kept.{kept_at}
use Rattle.vd_yard.specs.Yard.{YardSeen}
use Rattle.run_report.specs.Lines.{usage_text}
use Rattle.run_report.specs.declared.status.Status.{Status}
use Rattle.run_report.specs.declared.status.Status.TheVariants as status
use Rattle.still_plan.specs.Frame.{DiskFailed}
use Rattle.still_store.specs.Frame.{JournalsStay, Keeps}
use Rattle.vdbench_top.specs.Simulation.{IsSimulated}
use Rattle.vdbench_top.specs.Still.{DataStays, Ends, FindsNoData, IsHonest, IsNoFault, SaidOfFile}
use Rattle.command_words.specs.Words.{command_said}
use Rattle.vdbench_top.specs.Words.{file_of, shows_plan, steps_of}

-- A still command over these words: the yard, the bytes that the output took and its faults, before and after, and the status.
pub record StillCall (words : List (List ℕ)) (old new : YardSeen) (taken_before taken_after : Option (List ℕ)) (faults_before faults_after : ℕ) (result : Status) : Type 0 where
  -- On every way out nothing of this call is out, and no journal is written.
  pub keeps : Keeps old new
  pub journals : JournalsStay old.disks new.disks
  -- Words that name no file leave all as it was. A plan that is only printed leaves data and journals' disks as they were.
  pub no_file : file_of words ≡ None → new ≡ old
  pub shows_only : shows_plan words ≡ true → (new.contents ≡ old.contents) × (new.disks ≡ old.disks)
  -- No data is touched but that of the stores of a plan which the parameter file gives, as far as it is told, and each block of these has
  -- the bytes that it had. None is touched where that file, as told, has no plan or a journal of it is told to be missing or refused,
  -- however the command ends, nor with a status that only comes before data is opened.
  pub contents : (file : List ℕ) → file_of words ≡ Some file →
      DataStays old file old.contents new.contents
  pub refused : (file parameters : List ℕ) → file_of words ≡ Some file →
      old.tells.bytes file ≡ Some parameters → FindsNoData old (take 1048577 parameters) →
      new.contents ≡ old.contents
  pub untouched : result ≢ status.Good → result ≢ status.Corrupt → result ≢ status.Device → result ≢ status.Yard → result ≢ status.Sink →
      result ≢ status.NoMemory → new.contents ≡ old.contents
  -- Words that are no command print the usage, and nothing else ends so.
  pub usage : command_said words ≡ None → Ends usage_text status.Usage result taken_before taken_after
  pub usage_only : result ≡ status.Usage → command_said words ≡ None
  -- A schedule that the words ask for is run, and its counts are printed.
  pub simulation : (n : ℕ) → steps_of words ≡ Some n →
      (text : List ℕ) × (said : Status) × IsSimulated n text said × Ends text said result taken_before taken_after
  -- Over a parameter file the text and the status are those of what is found, as far as it is told, or of the outside call that failed,
  -- and what was opened is what that says.
  pub told : (file : List ℕ) → file_of words ≡ Some file →
      (text : List ℕ) × (said : Status) × SaidOfFile old new (shows_plan words) file text said
      × Ends text said result taken_before taken_after
  -- Where besides nothing outside fails, they are those of what is found.
  pub answer : (file : List ℕ) → file_of words ≡ Some file → IsHonest old new (shows_plan words) file →
      (text : List ℕ) × (said : Status) × SaidOfFile old new (shows_plan words) file text said × IsNoFault said
      × Ends text said result taken_before taken_after
  -- It ends by the lines of its status, whatever it had to say before; none is that an epoch ended.
  pub ends : (text : List ℕ) × (said : Status) × Ends text said result taken_before taken_after
  pub no_epoch : result ≡ status.EpochEnd → ⊥
  -- Each status of an outside fault has its cause, over whatever yard and output, and with each other status, want of memory and a failed
  -- output aside, nothing of that kind failed; that the yard refused to open something may hide that an arm failed before, which the text
  -- then tells. A disk's faults are seen where the yard keeps it.
  pub yard_fault : result ≡ status.Yard → Rose old.faults new.faults
  pub yard_quiet : result ≢ status.Yard → result ≢ status.Sink → result ≢ status.NoMemory → new.faults ≡ old.faults
  pub source_fault : result ≡ status.Source → (file : List ℕ) → file_of words ≡ Some file →
      Rose (source_faults old.counts file) (source_faults new.counts file)
  pub source_quiet : result ≢ status.Source → result ≢ status.Sink → result ≢ status.NoMemory → (path : List ℕ) →
      source_faults new.counts path ≡ source_faults old.counts path
  pub disk_fault : result ≡ status.Journal → IsTrue old.tells.keeps_disks → DiskFailed old new
  pub disk_quiet : result ≢ status.Journal → result ≢ status.Sink → result ≢ status.NoMemory → (path : List ℕ) →
      kept_at new.disks path ≡ kept_at old.disks path
  pub device_fault : result ≡ status.Device → (path : List ℕ) × Rose (arm_faults old.counts path) (arm_faults new.counts path)
  pub device_quiet : result ≢ status.Device → result ≢ status.Yard → result ≢ status.Sink → result ≢ status.NoMemory → (path : List ℕ) →
      arm_faults new.counts path ≡ arm_faults old.counts path
  pub sink_fault : result ≡ status.Sink → Rose faults_before faults_after
  pub sink_quiet : result ≢ status.Sink → faults_after ≡ faults_before
