-- What recovering the journals of stores finds, says and holds open.
use Rattle.std.specs.Prelude.{◌≡◌, ℕ, IsTrue, List, [], ◌∷◌, ◌++◌, ⊤, take, slice_get, Some, Ok}
use Rattle.vd_disk.specs.Disk.{DiskSeen, WhenTold}
use Rattle.vd_yard.specs.Kept.{kept_at}
use Rattle.vd_yard.specs.Yard.{YardSeen}
use Rattle.plan_types.specs.declared.store.StorePlan.{StorePlan}
use Rattle.journal_recover.specs.Answers.{Answers, IsUsable}
use Rattle.journal_recover.specs.declared.found.Recovered.{Recovered}
use Rattle.run_report.specs.declared.status.Status.{Status}
use Rattle.run_report.specs.Says.{Printing, Says}
use Rattle.still_plan.specs.Journals.{JournalStop, RecoversTo, journals_text}
use Rattle.plan_journals.specs.Open.{FitsTogether, out_besides}

-- A store's journal was opened and only read: its disk is as the yard keeps it, and where that tells, it gives what was recovered.
pub record IsRecovered (yard : YardSeen) (store : StorePlan) (disk : DiskSeen) (found : Recovered) : Type 0 where
  pub recovers : RecoversTo yard store found
  pub kept : IsTrue yard.tells.keeps_disks → kept_at yard.disks store.journal ≡ Some disk
  pub answers : WhenTold disk.told (λ sectors. Answers sectors store.id (Ok found))
  pub usable : IsUsable store.id disk.sectors found
  pub fits : FitsTogether disk

-- the same of each of these stores, in order
abbrev pub AreRecovered : YardSeen → List StorePlan → List DiskSeen → List Recovered → Type 0
AreRecovered yard [] [] [] = ⊤
AreRecovered yard (store ∷ stores) (disk ∷ disks) (found ∷ more) = IsRecovered yard store disk found × AreRecovered yard stores disks more
AreRecovered yard stores disks found = ⊥

-- All journals of these stores were recovered: their disks are out, at hand behind those from before, as is what they gave, and their
-- lines were said.
pub record AllRecovered (old new : YardSeen) (stores : List StorePlan) (held now : List DiskSeen) (before found : List Recovered) (had has : Printing) : Type 0 where
  pub more : List DiskSeen
  pub gave : List Recovered
  pub disks : now ≡ held ++ more
  pub gives : found ≡ before ++ gave
  pub each : AreRecovered old stores more gave
  pub out : new.out ≡ out_besides old.out stores
  pub same : new.disks ≡ old.disks
  pub faults : new.faults ≡ old.faults
  pub said : Says had has (journals_text stores gave)

-- The journals of the stores before the one at a place were recovered, and the command stops at that one. The disks of those before are
-- out, at hand behind those from before, and paths other than that store's journal keep what they had.
pub record RecoveringEnds (old new : YardSeen) (stores : List StorePlan) (held now : List DiskSeen) (had has : Printing) (result : Status) : Type 0 where
  pub place : ℕ
  pub store : StorePlan
  pub there : slice_get stores place ≡ Some store
  pub more : List DiskSeen
  pub gave : List Recovered
  pub disks : now ≡ held ++ more
  pub each : AreRecovered old (take place stores) more gave
  pub out : new.out ≡ out_besides old.out (take place stores)
  pub text : List ℕ
  pub stop : JournalStop old new store text result
  pub others : (path : List ℕ) → (path ≡ store.journal → ⊥) → kept_at new.disks path ≡ kept_at old.disks path
  pub said : Says had has (journals_text (take place stores) gave ++ text)
