-- What recovering a store's journal answers.
use Rattle.std.specs.Prelude.{◌≡◌, ◌≢◌, ⊤, IsTrue, Result, Ok, Err, Some, None}
use Rattle.vd_base.specs.declared.geometry.StoreId.{StoreId}
use Rattle.vd_disk.specs.Disk.{DiskSeen}
use Rattle.vd_yard.specs.Kept.{kept_at}
use Rattle.vd_yard.specs.Yard.{YardSeen}
use Rattle.plan_types.specs.declared.store.StorePlan.{StorePlan}
use Rattle.journal_recover.specs.declared.found.Recovered.{Recovered}
use Rattle.journal_recover.specs.Answers.{Answers}
use Rattle.journal_layout.specs.Recovery.{Outcome, Gives, Sectors, NoJournal, Mismatch, Damaged, Recovers}
use Rattle.run_report.specs.declared.status.Status.{Status}
use Rattle.run_report.specs.declared.status.Status.TheVariants as status
use Rattle.still_store.specs.declared.recovery.NotRecovered.{NotRecovered}
use Rattle.still_store.specs.declared.recovery.NotRecovered.TheVariants as unrecovered

-- the status that a journal ends the command with, where nothing is recovered
abbrev pub outcome_status : Outcome → Status
outcome_status NoJournal = status.NoJournal
outcome_status (Mismatch found) = status.Mismatch
outcome_status (Damaged sector what at) = status.Damaged
outcome_status (Recovers live records entries) = status.Good

-- what recovering a store's journal answers over these sectors
abbrev pub AnswersFor : Sectors → StoreId → Result Recovered NotRecovered → Type 0
AnswersFor sectors id (Ok found) = Answers sectors id (Ok found)
AnswersFor sectors id (Err unrecovered.Yard) = ⊤
AnswersFor sectors id (Err (unrecovered.Refused fault)) = Answers sectors id (Err fault)

-- The yard tells that a store's journal is missing, or its sectors, which are refused.
pub data JournalRefused (yard : YardSeen) (store : StorePlan) : Type 0 where
  journal_missing : IsTrue yard.tells.keeps_disks → kept_at yard.disks store.journal ≡ None → JournalRefused yard store
  journal_refused : (disk : DiskSeen) (sectors : Sectors) (outcome : Outcome) → kept_at yard.disks store.journal ≡ Some disk
      → disk.told ≡ Some sectors → Gives sectors store.id outcome → outcome_status outcome ≢ status.Good → JournalRefused yard store
