-- What closing the journals of stores does and says.
use Rattle.std.specs.Prelude.{◌≡◌, ◌⊎◌, ℕ, Bool, IsTrue, List, [], ◌∷◌, ◌++◌, ⊤, AllPairs, IsSome, None, Some}
use Rattle.vd_outside.specs.Causes.{Rose}
use Rattle.vd_disk.specs.Disk.{DiskSeen}
use Rattle.vd_yard.specs.Kept.{Kept, kept_at, keep_at}
use Rattle.vd_yard.specs.Out.{AtDisk}
use Rattle.vd_yard.specs.Yard.{YardSeen, GivesBack}
use Rattle.plan_types.specs.declared.store.StorePlan.{StorePlan}
use Rattle.journal_core.specs.Calls.{IsClosed, IsGivenUp}
use Rattle.journal_core.specs.History.{KeepsAll, KeepsOver, closed, given_up}
use Rattle.journal_core.specs.Keeps.{Story, HasStory, HasSome}
use Rattle.run_report.specs.declared.status.Status.{Status}
use Rattle.run_report.specs.declared.status.Status.TheVariants as status
use Rattle.run_report.specs.Lines.{journal_fault_text}
use Rattle.run_report.specs.Says.{Printing, Says}
use Rattle.plan_journals.specs.declared.closing.Closed.{Closed}
use Rattle.plan_journals.specs.declared.closing.Closed.TheVariants as way
use Rattle.plan_journals.specs.Open.{FitsTogether, Held, seen_held}

-- What the disks of a journal tell fits together: as its opening began, and that which comes back.
pub record AreDisks (held : Held) (disk : DiskSeen) : Type 0 where
  pub began : FitsTogether held.began
  pub back : FitsTogether disk

-- A journal was closed, and this is its disk: it is at rest, and all records stay.
pub record EndedWell (held : Held) (disk : DiskSeen) : Type 0 where
  pub some : HasSome held.disk held.memory
  pub disks : AreDisks held disk
  pub is_closed : IsClosed held.disk disk held.memory
  pub keeps_all : (so_far : Story) → HasStory held.disk held.memory so_far → KeepsAll (closed (seen_held held) disk) so_far held.memory.records disk

-- A call of its disk failed, as it was closed or before, and this is the disk: all synced records stay.
pub record HasFailed (held : Held) (disk : DiskSeen) : Type 0 where
  pub some : HasSome held.disk held.memory
  pub disks : AreDisks held disk
  pub is_given_up : IsGivenUp held.began held.disk disk held.memory
  pub keeps_over : (so_far : Story) → HasStory held.disk held.memory so_far
      → KeepsOver (given_up held.memory.records (seen_held held) disk) so_far held.memory.records held.memory.synced disk

-- It failed only as it was closed, by a call of its disk then, after so many records of its epoch.
pub record HasFailedNow (held : Held) (disk : DiskSeen) (records : ℕ) : Type 0 where
  pub running : (seen_held held).stopped ≡ None
  pub so_many : records ≡ held.memory.records
  pub rose : Rose held.disk.faults disk.faults
  pub lost : HasFailed held disk

-- It had failed before. Its line was due then, which isn't shown here.
pub record HadFailed (held : Held) (disk : DiskSeen) : Type 0 where
  pub stopped : IsSome (seen_held held).stopped
  pub lost : HasFailed held disk

abbrev pub EndsAs : Held → DiskSeen → Closed → Type 0
EndsAs held disk way.Well = EndedWell held disk
EndsAs held disk way.FailedBefore = HadFailed held disk
EndsAs held disk (way.Failed records) = HasFailedNow held disk records

-- A disk went back to the yard, and nothing else changed.
pub record WentBack (old new : YardSeen) (path : List ℕ) (disk : DiskSeen) : Type 0 where
  pub back : GivesBack AtDisk path old new
  pub disks : new.disks ≡ keep_at old.tells.keeps_disks old.disks path disk
  pub counts : new.counts ≡ old.counts
  pub contents : new.contents ≡ old.contents

-- how one journal ended: closed well; failed before, when its line was due; or failed only now, after so many records, with its line
-- said, or with one that couldn't be made
pub data End : Type 0 where
  Whole : End
  FailedBefore : End
  FailedNow : ℕ → End
  Unsaid : ℕ → End

-- a disk that came back, and how its journal ended
pub record Ended : Type 0 where
  pub disk : DiskSeen
  pub end : End

abbrev pub IsEnd : Held → DiskSeen → End → Type 0
IsEnd held disk Whole = EndedWell held disk
IsEnd held disk FailedBefore = HadFailed held disk
IsEnd held disk (FailedNow records) = HasFailedNow held disk records
IsEnd held disk (Unsaid records) = HasFailedNow held disk records

-- These are the ends of these journals, in order.
abbrev pub AreEnds : List Held → List Ended → Type 0
AreEnds [] [] = ⊤
AreEnds (held ∷ more) (one ∷ rest) = IsEnd held one.disk one.end × AreEnds more rest
AreEnds opens ends = ⊥

abbrev pub end_text : StorePlan → End → List ℕ
end_text store Whole = []
end_text store FailedBefore = []
end_text store (FailedNow records) = journal_fault_text store.id.name records
end_text store (Unsaid records) = []

-- the lines of the journals that failed only now, in order
abbrev pub ends_text : List StorePlan → List Ended → List ℕ
ends_text (store ∷ stores) (one ∷ rest) = end_text store one.end ++ ends_text stores rest
ends_text stores ends = []

-- the status of one end
abbrev pub end_status : End → Status
end_status Whole = status.Good
end_status FailedBefore = status.Journal
end_status (FailedNow records) = status.Journal
end_status (Unsaid records) = status.NoMemory

-- the status where a journal failed behind this one of a run: that stands above good, corrupt, device and epoch end alone
abbrev pub fault_behind : Status → Status
fault_behind status.Good = status.Journal
fault_behind status.Corrupt = status.Journal
fault_behind status.Device = status.Journal
fault_behind status.EpochEnd = status.Journal
fault_behind before = before

-- the status once the journals of a command that ran were closed, by the one before and that of closing: want of memory stands above
-- every other one
abbrev pub after_closing : Status → Status → Status
after_closing before status.Good = before
after_closing before status.Journal = fault_behind before
after_closing before closing = closing

-- the same where the opening of a journal stopped: that status stays, but for want of memory
abbrev pub after_refusal : Status → Status → Status
after_refusal before status.NoMemory = status.NoMemory
after_refusal before closing = before

-- a status that speaks of nothing but data and devices: 0, 1 or 2
abbrev pub WentWell : Status → Type 0
WentWell status.Good = ⊤
WentWell status.Corrupt = ⊤
WentWell status.Device = ⊤
WentWell result = ⊥

abbrev pub ends_status : List Ended → Status
ends_status [] = status.Good
ends_status (one ∷ rest) = after_closing (end_status one.end) (ends_status rest)

-- what closing may answer
abbrev pub IsClosingStatus : Status → Type 0
IsClosingStatus result = (result ≡ status.Good) ⊎ ((result ≡ status.Journal) ⊎ (result ≡ status.NoMemory))

-- the kept disks once these came back, one after the other
abbrev pub kept_after : Bool → Kept DiskSeen → List StorePlan → List Ended → Kept DiskSeen
kept_after tells kept (store ∷ stores) (one ∷ rest) = kept_after tells (keep_at tells kept store.journal one.disk) stores rest
kept_after tells kept stores ends = kept

-- No two of these stores have one journal.
abbrev pub AreJournalsApart : List StorePlan → Type 0
AreJournalsApart stores = AllPairs (λ a b. a.journal ≡ b.journal → ⊥) stores

-- Each of these disks is the kept one.
abbrev pub AreKept : Kept DiskSeen → List StorePlan → List Ended → Type 0
AreKept kept (store ∷ stores) (one ∷ rest) = (kept_at kept store.journal ≡ Some one.disk) × AreKept kept stores rest
AreKept kept stores [] = ⊤
AreKept kept [] (one ∷ rest) = ⊥

-- So one journal ended: its disk came back, and its line was said where it failed only now.
pub record OneEnded (old new : YardSeen) (store : StorePlan) (held : Held) (had has : Printing) (result : Status) : Type 0 where
  pub one : Ended
  pub back : WentBack old new store.journal one.disk
  pub is_end : IsEnd held one.disk one.end
  pub said : Says had has (end_text store one.end)
  pub is : result ≡ end_status one.end

-- So the open journals ended: each disk came back, in order, and the lines of those that failed only now were said.
pub record AllEnded (old new : YardSeen) (stores : List StorePlan) (opens : List Held) (had has : Printing) (result : Status) : Type 0 where
  pub ends : List Ended
  pub each : AreEnds opens ends
  pub disks : new.disks ≡ kept_after old.tells.keeps_disks old.disks stores ends
  pub last : IsTrue old.tells.keeps_disks → AreJournalsApart stores → AreKept new.disks stores ends
  pub said : Says had has (ends_text stores ends)
  pub is : result ≡ ends_status ends
