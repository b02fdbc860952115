-- What opening recovered journals in their next epoch does and says.
use Rattle.std.specs.Prelude.{◌≡◌, ℕ, ◌+◌, ◌≤◌, IsTrue, List, [], ◌∷◌, ◌++◌, ⊤, All, Vec, length, take, slice_get, Some}
use Rattle.std.specs.declared.alloc.Global.{Global}
use Rattle.key_state.specs.Entries.{AreEntries}
use Rattle.key_state.specs.declared.entry.Entry.{Entry}
use Rattle.key_state.specs.declared.seen.BookSeen.{BookSeen}
use Rattle.vd_disk.specs.Disk.{DiskSeen, Extends, WhenTold}
use Rattle.vd_yard.specs.Kept.{Kept, kept_at}
use Rattle.vd_yard.specs.Out.{AtDisk, Out, one_more}
use Rattle.vd_yard.specs.Yard.{YardSeen}
use Rattle.plan_types.specs.declared.store.StorePlan.{StorePlan}
use Rattle.journal_core.specs.Seen.{last_epoch}
use Rattle.journal_core.specs.Writes.{HasLive}
use Rattle.journal_layout.specs.Gate.{IsWithinLimits}
use Rattle.journal_layout.specs.Recovery.{gate_of_live, journal_end}
use Rattle.journal_layout.specs.declared.live.Live.{Live}
use Rattle.journal_recover.specs.declared.found.Recovered.{Recovered}
use Rattle.run_report.specs.declared.status.Status.{Status}
use Rattle.run_report.specs.declared.status.Status.TheVariants as status
use Rattle.run_report.specs.Lines.{epoch_end_text, journal_fault_text, opened_text}
use Rattle.run_report.specs.Says.{Printing, Says}
use Rattle.plan_journals.specs.Growth.{DiskRose}
use Rattle.plan_journals.specs.Open.{AreFrom, AreOpenedNow, IsOpenedNow, Start, out_besides}
use Rattle.plan_reopened.specs.declared.reopening.NotReopened.{NotReopened}
use Rattle.plan_reopened.specs.declared.reopening.NotReopened.TheVariants as refusal

-- A store's journal whose live gate says this, opened in the next epoch with these entries.
abbrev pub next_start : StorePlan → Live → List Entry → Start
next_start store live entries = record { journal = store.journal; id = store.id; log_sectors = live.log_sectors; epoch = live.epoch + 1; entries = entries }

-- those of stores, by what was recovered and the entries with which they are opened
abbrev pub next_starts : List StorePlan → List Recovered → List (List Entry) → List Start
next_starts (store ∷ stores) (found ∷ more) (entries ∷ settled) = next_start store found.live entries ∷ next_starts stores more settled
next_starts stores found settled = []

abbrev pub items_of : Vec Entry Global → List Entry
items_of entries = entries.items

-- one valid entry for each block of a store; and so of stores, in order
pub record AreEntriesOf (store : StorePlan) (entries : List Entry) : Type 0 where
  pub one_each : length entries ≡ store.id.geometry.blocks
  pub valid : AreEntries entries

abbrev pub AreSettled : List StorePlan → List (List Entry) → Type 0
AreSettled [] [] = ⊤
AreSettled (store ∷ stores) (entries ∷ settled) = AreEntriesOf store entries × AreSettled stores settled
AreSettled stores settled = ⊥

-- A journal on this disk can be opened after these entries: its live gate, within the limits, is the store's; the disk has room for it;
-- where it tells, its live epoch is that of the gate.
pub record CanReopen (store : StorePlan) (disk : DiskSeen) (live : Live) (entries : List Entry) : Type 0 where
  pub its_id : live.id ≡ store.id
  pub limits : IsWithinLimits (gate_of_live live)
  pub room : journal_end live ≤ disk.sectors
  pub found : WhenTold disk.told (HasLive live)
  pub its_entries : AreEntriesOf store entries

-- the same of each of these stores, in order
abbrev pub AreReady : List StorePlan → List DiskSeen → List Recovered → List (List Entry) → Type 0
AreReady [] [] [] [] = ⊤
AreReady (store ∷ stores) (disk ∷ disks) (found ∷ more) (entries ∷ settled) = CanReopen store disk found.live entries × AreReady stores disks more settled
AreReady stores disks found settled = ⊥

-- A book was opened on this very disk, whether the yard tells what it keeps or not: as its opening began, it had the moments of this one,
-- told the same sectors and had counted as many faults; and as it ended, moments had only come behind those.
pub record IsOpenedOn (disk : DiskSeen) (b : BookSeen) : Type 0 where
  pub its_moments : b.origin.began ≡ disk.moments
  pub its_sectors : b.origin.told ≡ disk.told
  pub its_faults : b.origin.faults ≡ disk.faults
  pub grown : Extends disk.moments b.origin.opened

-- Each of these books was opened on its own of these disks, the first on the first one, in order; behind the books there may be more disks.
abbrev pub AreOpenedOn : List DiskSeen → List BookSeen → Type 0
AreOpenedOn disks [] = ⊤
AreOpenedOn [] (b ∷ books) = ⊥
AreOpenedOn (disk ∷ disks) (b ∷ books) = IsOpenedOn disk b × AreOpenedOn disks books

-- The epoch of an opening is one that a journal may have; and each of these is.
abbrev pub IsLow : Start → Type 0
IsLow start = start.epoch ≤ last_epoch

-- the lines of opened journals, in order
abbrev pub starts_text : List Start → List ℕ
starts_text [] = []
starts_text (start ∷ starts) = opened_text start.id.name start.epoch ++ starts_text starts

-- the line of a journal that isn't opened, and the status that goes with it; want of memory has no line
abbrev pub refusal_line : StorePlan → NotReopened → List ℕ
refusal_line store refusal.EpochEnd = epoch_end_text store.id.name
refusal_line store refusal.Journal = journal_fault_text store.id.name 0
refusal_line store refusal.NoMemory = []

abbrev pub refusal_status : NotReopened → Status
refusal_status refusal.EpochEnd = status.EpochEnd
refusal_status refusal.Journal = status.Journal
refusal_status refusal.NoMemory = status.NoMemory

-- Each path keeps what it had.
abbrev pub KeepsEach : Kept DiskSeen → Kept DiskSeen → Type 0
KeepsEach old new = (path : List ℕ) → kept_at new path ≡ kept_at old path

-- Why opening stops at a journal, how many of it are open then, what is said of it, and the status: its last epoch is over, and nothing was
-- written; its disk failed; or memory ran out, where a line that couldn't be made may be that of a journal that was opened.
pub data ReopenStop (old new : YardSeen) (start : Start) (opens : ℕ) (text : List ℕ) (result : Status) : Type 0 where
  last_is_over : start.epoch ≡ last_epoch + 1 → KeepsEach old.disks new.disks → opens ≡ 0
      → text ≡ epoch_end_text start.id.name → result ≡ status.EpochEnd → ReopenStop old new start opens text result
  not_reopened : IsLow start → (IsTrue old.tells.keeps_disks → DiskRose old.disks new.disks start.journal) → opens ≡ 0
      → text ≡ journal_fault_text start.id.name 0 → result ≡ status.Journal → ReopenStop old new start opens text result
  memory_out : opens ≤ 1 → text ≡ [] → result ≡ status.NoMemory → ReopenStop old new start opens text result

-- One journal was opened, it is at hand behind those from before, its line was said, and the yard is as it was.
pub record OneReopened (old new : YardSeen) (start : Start) (before now : List BookSeen) (had has : Printing) : Type 0 where
  pub b : BookSeen
  pub book : now ≡ before ++ b ∷ []
  pub opened : IsOpenedNow old start b
  pub low : IsLow start
  pub same : new ≡ old
  pub said : Says had has (opened_text start.id.name start.epoch)

-- Opening stops at a journal, whose disk went back to the yard, or which is open.
pub record ReopeningEndsAt (old new : YardSeen) (store : StorePlan) (start : Start) (before now : List BookSeen) (had has : Printing) (result : Status) : Type 0 where
  pub more : List BookSeen
  pub books : now ≡ before ++ more
  pub opened : AreOpenedNow old (start ∷ []) more
  pub out : (besides : Out) → old.out ≡ one_more besides AtDisk store.journal → new.out ≡ out_besides besides (take (length more) (store ∷ []))
  pub text : List ℕ
  pub stop : ReopenStop old new start (length more) text result
  pub others : (path : List ℕ) → (path ≡ start.journal → ⊥) → kept_at new.disks path ≡ kept_at old.disks path
  pub said : Says had has text

-- All these journals were opened, they are at hand behind those from before, their lines were said, and the yard is as it was.
pub record AllReopened (old new : YardSeen) (starts : List Start) (before now : List BookSeen) (had has : Printing) : Type 0 where
  pub more : List BookSeen
  pub one_each : length more ≡ length starts
  pub books : now ≡ before ++ more
  pub opened : AreOpenedNow old starts more
  pub low : All IsLow starts
  pub same : new ≡ old
  pub said : Says had has (starts_text starts)

-- The journals before the one at a place were opened and their lines said, and opening stops at that one. What is open is at hand behind
-- those from before, all other disks went back to the yard, and paths other than that journal's keep what they had.
pub record ReopeningEnds (old new : YardSeen) (stores : List StorePlan) (starts : List Start) (before now : List BookSeen) (had has : Printing) (result : Status) : Type 0 where
  pub place : ℕ
  pub start : Start
  pub there : slice_get starts place ≡ Some start
  pub more : List BookSeen
  pub opens : ℕ
  pub so_many : length more ≡ place + opens
  pub books : now ≡ before ++ more
  pub opened : AreOpenedNow old starts more
  pub low : All IsLow (take place starts)
  pub out : (besides : Out) → old.out ≡ out_besides besides stores → new.out ≡ out_besides besides (take (length more) stores)
  pub text : List ℕ
  pub stop : ReopenStop old new start opens text result
  pub others : (path : List ℕ) → (path ≡ start.journal → ⊥) → kept_at new.disks path ≡ kept_at old.disks path
  pub said : Says had has (starts_text (take place starts) ++ text)

-- Where no journal was at hand before: so many are now, those of the first stores. Each was opened just now, over what the yard kept, and
-- their disks are out besides what was out without the disks of all these stores.
pub record StandReopened (old new : YardSeen) (stores : List StorePlan) (starts : List Start) (many : ℕ) (books : List BookSeen) : Type 0 where
  pub few : many ≤ length stores
  pub out : (besides : Out) → old.out ≡ out_besides besides stores → new.out ≡ out_besides besides (take many stores)
  pub opened : AreOpenedNow old starts books
  pub from : IsTrue old.tells.keeps_disks → AreFrom old.disks stores starts books
