-- Laws by which a command stands on journals that were recovered and opened again.
use Rattle.std.specs.Prelude.{◌≡◌, ℕ, ◌≤◌, IsTrue, List, length, map, take}
use Rattle.key_state.specs.declared.entry.Entry.{Entry}
use Rattle.key_state.specs.declared.seen.BookSeen.{BookSeen}
use Rattle.vd_disk.specs.Disk.{DiskSeen}
use Rattle.plan_types.specs.declared.store.StorePlan.{StorePlan}
use Rattle.vd_yard.specs.Yard.{YardSeen}
use Rattle.journal_recover.specs.declared.found.Recovered.{Recovered}
use Rattle.plan_journals.specs.Open.{JournalsAreOut, Start}
use Rattle.plan_reopened.specs.Kept.{AreStillKept}
use Rattle.plan_reopened.specs.Recovering.{AreRecovered}
use Rattle.plan_reopened.specs.Reopening.{AreReady, AreSettled, StandReopened}

-- Recovered journals can be opened after whatever valid entries of their blocks.
abbrev pub RecoveredAreReady : Type 0
RecoveredAreReady = (yard : YardSeen) (stores : List StorePlan) (disks : List DiskSeen) (found : List Recovered) (settled : List (List Entry)) → AreRecovered yard stores disks found → AreSettled stores settled → AreReady stores disks found settled

-- There are as many of them as stores.
abbrev pub RecoveredAreAsMany : Type 0
RecoveredAreAsMany = (yard : YardSeen) (stores : List StorePlan) (disks : List DiskSeen) (found : List Recovered) → AreRecovered yard stores disks found → (length disks ≡ length stores) × (length found ≡ length stores)

-- What was recovered has such entries.
abbrev pub RecoveredAreSettled : Type 0
RecoveredAreSettled = (yard : YardSeen) (stores : List StorePlan) (disks : List DiskSeen) (found : List Recovered) → AreRecovered yard stores disks found → AreSettled stores (map (λ (one : Recovered). one.entries.items) found)

-- Their disks are as the yard keeps them.
abbrev pub RecoveredAreKept : Type 0
RecoveredAreKept = (yard : YardSeen) (stores : List StorePlan) (disks : List DiskSeen) (found : List Recovered) → AreRecovered yard stores disks found → IsTrue yard.tells.keeps_disks → AreStillKept yard.disks stores disks

-- Journals that stand open can be closed: their disks are out, and they were opened over what the yard kept before.
abbrev pub StandingAreOut : Type 0
StandingAreOut = (old new : YardSeen) (stores : List StorePlan) (starts : List Start) (many : ℕ) (books : List BookSeen) → StandReopened old new stores starts many books → JournalsAreOut old.out stores → (many ≤ length stores) × JournalsAreOut new.out (take many stores)
