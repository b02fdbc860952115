-- What recovering the journals of a plan's stores finds and says.
use Rattle.std.specs.Prelude.{◌≡◌, ◌⊎◌, ℕ, ◌-◌, ◌^◌, ◌<◌, IsTrue, List, [], ◌∷◌, ◌++◌, ⊤, length, take, slice_get, Some, None, Ok, Err}
use Rattle.vd_outside.specs.Causes.{Rose}
use Rattle.vd_disk.specs.Disk.{DiskSeen, WhenTold}
use Rattle.vd_yard.specs.Out.{AtDisk}
use Rattle.vd_yard.specs.Kept.{kept_at}
use Rattle.vd_yard.specs.Yard.{YardSeen, is_there}
use Rattle.plan_types.specs.declared.store.StorePlan.{StorePlan}
use Rattle.key_state.specs.Entries.{AreEntries}
use Rattle.journal_recover.specs.Answers.{Answers, IsUsable}
use Rattle.journal_recover.specs.declared.found.Recovered.{Recovered}
use Rattle.journal_recover.specs.declared.fault.RecoverFault.{RecoverFault}
use Rattle.journal_recover.specs.declared.fault.RecoverFault.TheVariants as refusal
use Rattle.run_report.specs.declared.status.Status.{Status}
use Rattle.run_report.specs.declared.status.Status.TheVariants as status
use Rattle.run_report.specs.Lines.{journal_text, cannot_open_text}
use Rattle.still_plan.specs.Lines.{refusal_text, refusal_status}

-- one valid entry for each block of the store
pub record IsFit (store : StorePlan) (found : Recovered) : Type 0 where
  pub one_each : length found.entries.items ≡ store.id.geometry.blocks
  pub valid : AreEntries found.entries.items

abbrev pub AreFit : List StorePlan → List Recovered → Type 0
AreFit [] [] = ⊤
AreFit (store ∷ stores) (found ∷ more) = IsFit store found × AreFit stores more
AreFit stores found = ⊥

-- This is what the store's journal gives, where the yard tells its sectors; a yard that tells its disks keeps one there. In any case it
-- is the store's, within the limits of a journal, and has a valid entry for each block.
pub record RecoversTo (yard : YardSeen) (store : StorePlan) (found : Recovered) : Type 0 where
  pub gives : (disk : DiskSeen) → kept_at yard.disks store.journal ≡ Some disk → WhenTold disk.told (λ sectors. Answers sectors store.id (Ok found))
  pub there : IsTrue yard.tells.keeps_disks → kept_at yard.disks store.journal ≡ None → ⊥
  pub usable : (sectors : ℕ) × IsUsable store.id sectors found
  pub fit : IsFit store found

-- Recovery stops so at the store's journal: that is the first refusal of its sectors, where the yard tells these; a journal that isn't
-- there, and a disk that is sure, have none but want of memory; and where a read failed, the count of that disk's faults rose.
pub record StopsBy (old new : YardSeen) (store : StorePlan) (fault : RecoverFault) : Type 0 where
  pub gives : (disk : DiskSeen) → kept_at old.disks store.journal ≡ Some disk → WhenTold disk.told (λ sectors. Answers sectors store.id (Err fault))
  pub there : IsTrue old.tells.keeps_disks → kept_at old.disks store.journal ≡ None → fault ≡ refusal.NoMemory
  pub rose : fault ≡ refusal.Failed → IsTrue old.tells.keeps_disks → (disk now : DiskSeen) → kept_at old.disks store.journal ≡ Some disk
      → kept_at new.disks store.journal ≡ Some now → Rose disk.faults now.faults
  pub unsure : fault ≡ refusal.Failed → (disk : DiskSeen) → kept_at old.disks store.journal ≡ Some disk → IsTrue disk.sure → disk.faults < 2 ^ 64 - 1 → ⊥

-- these are what the journals of the stores give, in order
abbrev pub AllRecover : YardSeen → List StorePlan → List Recovered → Type 0
AllRecover yard [] [] = ⊤
AllRecover yard (store ∷ stores) (found ∷ more) = RecoversTo yard store found × AllRecover yard stores more
AllRecover yard stores found = ⊥

-- the line of a journal that was recovered
abbrev pub recovered_text : StorePlan → Recovered → List ℕ
recovered_text store found = journal_text store.id.name found.live.epoch found.records

-- the lines of journals, in order
abbrev pub journals_text : List StorePlan → List Recovered → List ℕ
journals_text (store ∷ stores) (found ∷ more) = recovered_text store found ++ journals_text stores more
journals_text stores found = []

-- What is said of a journal at which the command stops, and the status that it stops with: the yard can't open it; recovery stops at it;
-- memory ran out; a write had failed before; or it was recovered, and a write of its line failed or memory ran out behind it.
pub data JournalStop (old new : YardSeen) (store : StorePlan) (text : List ℕ) (result : Status) : Type 0 where
  unopened : Rose old.faults new.faults → (IsTrue old.willing → IsTrue (is_there old.files AtDisk store.journal) → ⊥)
      → text ≡ cannot_open_text store.journal → result ≡ status.Yard → JournalStop old new store text result
  unrecovered : (fault : RecoverFault) → StopsBy old new store fault → text ≡ refusal_text store.id fault → result ≡ refusal_status fault
      → JournalStop old new store text result
  memory_out : text ≡ [] → result ≡ status.NoMemory → JournalStop old new store text result
  output_shut : text ≡ [] → result ≡ status.Sink → JournalStop old new store text result
  behind_line : (found : Recovered) → RecoversTo old store found → text ≡ recovered_text store found
      → (result ≡ status.NoMemory) ⊎ (result ≡ status.Sink) → JournalStop old new store text result

-- The journals before the one at a place were recovered, and the command stops at that one; each other journal's disk is as it was.
pub data JournalsStop (old new : YardSeen) (stores : List StorePlan) (text : List ℕ) (result : Status) : Type 0 where
  at_journal : (n : ℕ) (found : List Recovered) (store : StorePlan) (part : List ℕ) → AllRecover old (take n stores) found
      → slice_get stores n ≡ Some store → JournalStop old new store part result
      → ((path : List ℕ) → (path ≡ store.journal → ⊥) → kept_at new.disks path ≡ kept_at old.disks path)
      → text ≡ journals_text (take n stores) found ++ part → JournalsStop old new stores text result
