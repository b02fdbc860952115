-- What opening the journals of stores does and says.
use Rattle.std.specs.Prelude.{◌≡◌, ℕ, ◌+◌, ◌≤◌, IsTrue, List, [], ◌∷◌, ◌++◌, length, take, slice_get, Some}
use Rattle.key_state.specs.declared.seen.BookSeen.{BookSeen}
use Rattle.vd_outside.specs.Causes.{Rose}
use Rattle.vd_yard.specs.Kept.{kept_at}
use Rattle.vd_yard.specs.Out.{AtDisk, one_more}
use Rattle.vd_yard.specs.Yard.{YardSeen}
use Rattle.plan_types.specs.declared.store.StorePlan.{StorePlan}
use Rattle.run_report.specs.declared.status.Status.{Status}
use Rattle.run_report.specs.declared.status.Status.TheVariants as status
use Rattle.run_report.specs.Lines.{cannot_open_text, journal_fault_text, opened_text}
use Rattle.run_report.specs.Says.{Printing, Says}
use Rattle.plan_journals.specs.declared.opening.NotOpened.{NotOpened}
use Rattle.plan_journals.specs.declared.opening.NotOpened.TheVariants as refusal
use Rattle.plan_journals.specs.Growth.{DiskRose}
use Rattle.plan_journals.specs.Open.{AreFrom, AreMade, IsMade, new_starts, out_besides}

-- the lines of journals that were made, in order
abbrev pub opened_lines : List StorePlan → List ℕ
opened_lines [] = []
opened_lines (store ∷ stores) = opened_text store.id.name 0 ++ opened_lines stores

-- the line of a journal that isn't opened, and the status that goes with it; want of memory has no line
abbrev pub refusal_line : StorePlan → NotOpened → List ℕ
refusal_line store refusal.Yard = cannot_open_text store.journal
refusal_line store refusal.Journal = journal_fault_text store.id.name 0
refusal_line store refusal.NoMemory = []

abbrev pub refusal_status : NotOpened → Status
refusal_status refusal.Yard = status.Yard
refusal_status refusal.Journal = status.Journal
refusal_status refusal.NoMemory = status.NoMemory

-- All journals of these stores were made, they are at hand behind those from before, and their lines were said.
pub record AllOpened (old new : YardSeen) (stores : List StorePlan) (logs : ℕ) (before now : List BookSeen) (had has : Printing) : Type 0 where
  pub more : List BookSeen
  pub one_each : length more ≡ length stores
  pub books : now ≡ before ++ more
  pub made : AreMade old logs stores more
  pub out : new.out ≡ out_besides old.out stores
  pub disks : new.disks ≡ old.disks
  pub faults : new.faults ≡ old.faults
  pub said : Says had has (opened_lines stores)

-- Why opening stops at a store, how many of its journals are open then, what is said of it, and the status: the yard can't open its disk;
-- the disk failed; or memory ran out, where a line that couldn't be made may be that of a journal that was opened.
pub data OpenStop (old new : YardSeen) (store : StorePlan) (opens : ℕ) (text : List ℕ) (result : Status) : Type 0 where
  unopened : Rose old.faults new.faults → (IsTrue old.willing → ⊥) → new.disks ≡ old.disks → opens ≡ 0
      → text ≡ cannot_open_text store.journal → result ≡ status.Yard → OpenStop old new store opens text result
  unmade : (IsTrue old.tells.keeps_disks → DiskRose old.disks new.disks store.journal) → new.faults ≡ old.faults → opens ≡ 0
      → text ≡ journal_fault_text store.id.name 0 → result ≡ status.Journal → OpenStop old new store opens text result
  memory_out : opens ≤ 1 → text ≡ [] → result ≡ status.NoMemory → OpenStop old new store opens text result

-- One journal was made, it is at hand behind those from before, and its line was said.
pub record OneOpened (old new : YardSeen) (store : StorePlan) (logs : ℕ) (before now : List BookSeen) (had has : Printing) : Type 0 where
  pub b : BookSeen
  pub book : now ≡ before ++ b ∷ []
  pub made : IsMade old store logs b
  pub out : new.out ≡ one_more old.out AtDisk store.journal
  pub disks : new.disks ≡ old.disks
  pub faults : new.faults ≡ old.faults
  pub said : Says had has (opened_text store.id.name 0)

-- Opening stops at a store, with its journal open or not.
pub record OpeningEndsAt (old new : YardSeen) (store : StorePlan) (logs : ℕ) (before now : List BookSeen) (had has : Printing) (result : Status) : Type 0 where
  pub more : List BookSeen
  pub books : now ≡ before ++ more
  pub made : AreMade old logs (store ∷ []) more
  pub out : new.out ≡ out_besides old.out (take (length more) (store ∷ []))
  pub text : List ℕ
  pub stop : OpenStop old new store (length more) text result
  pub others : (path : List ℕ) → (path ≡ store.journal → ⊥) → kept_at new.disks path ≡ kept_at old.disks path
  pub said : Says had has text

-- The journals of the stores before the one at a place were made and their lines said, and opening stops at that one. What is open is at
-- hand behind those from before, and paths other than that store's journal keep what they had.
pub record OpeningEnds (old new : YardSeen) (stores : List StorePlan) (logs : ℕ) (before now : List BookSeen) (had has : Printing) (result : Status) : Type 0 where
  pub place : ℕ
  pub store : StorePlan
  pub there : slice_get stores place ≡ Some store
  pub more : List BookSeen
  pub opens : ℕ
  pub so_many : length more ≡ place + opens
  pub books : now ≡ before ++ more
  pub made : AreMade old logs stores more
  pub out : new.out ≡ out_besides old.out (take (length more) stores)
  pub text : List ℕ
  pub stop : OpenStop old new store opens text result
  pub others : (path : List ℕ) → (path ≡ store.journal → ⊥) → kept_at new.disks path ≡ kept_at old.disks path
  pub said : Says had has (opened_lines (take place stores) ++ text)

-- Where no journal was at hand before: so many are now, those of the first stores. Each was made just now, over what the yard kept, and their
-- disks are out besides what was.
pub record StandOpen (old new : YardSeen) (stores : List StorePlan) (logs : ℕ) (many : ℕ) (books : List BookSeen) : Type 0 where
  pub few : many ≤ length stores
  pub out : new.out ≡ out_besides old.out (take many stores)
  pub made : AreMade old logs stores books
  pub from : IsTrue old.tells.keeps_disks → AreFrom old.disks stores (new_starts logs stores) books
