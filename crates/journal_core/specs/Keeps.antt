-- What a journal book keeps, over plain data.
use Rattle.std.specs.Prelude.{◌≡◌, ℕ, ◌+◌, ◌*◌, ◌/◌, ◌%◌, ◌^◌, ◌<◌, ◌≤◌, Bool, true, false, List, [], ◌∷◌, ◌++◌, length, take, slice_get, Some}
use Rattle.key_state.specs.Entries.{states, ends}
use Rattle.key_state.specs.Books.{clears as clears_in}
use Rattle.key_state.specs.declared.entry.Entry.{Entry}
use Rattle.key_state.specs.declared.record.Record.{Record}
use Rattle.vd_base.specs.declared.geometry.StoreId.{StoreId}
use Rattle.journal_layout.specs.Gate.{IsWithinLimits, IsGate}
use Rattle.journal_layout.specs.declared.live.Live.{Live}
use Rattle.journal_layout.specs.Recovery.{Sectors, blocks_of, area_of, gate_of_live, map_start, map_places, IsSlot, journal_end}
use Rattle.vd_disk.specs.Disk.{DiskSeen, WhenTold, IsImage, present, settled}
use Rattle.journal_core.specs.Parts.{slot_at, IsSectorOf, Allows, Stands, InHand}
use Rattle.journal_core.specs.Chapters.{Chapter, epoch_after, Shows, Tells, IsStory, IsFilled, Lasts, AreFull}

-- the epochs before, and this one
abbrev pub story_of : List Chapter → List Entry → List Record → List Chapter
story_of before base past = before ++ record { base = base; past = past } ∷ []

-- Of a book: the epochs that ended since its opening, the map of its epoch, and the records that were appended in it.
pub record Story : Type 0 where
  pub before : List Chapter
  pub base : List Entry
  pub past : List Record

abbrev pub first_story : List Entry → Story
first_story entries = record { before = []; base = entries; past = [] }

abbrev pub chapters : Story → List Chapter
chapters so_far = story_of so_far.before so_far.base so_far.past

-- a record more, and the next epoch, whose map has the entries after all records
abbrev pub with_record : Story → Record → Story
with_record so_far made = record so_far { past = so_far.past ++ made ∷ [] }

abbrev pub with_epoch : Story → Story
with_epoch so_far = record { before = chapters so_far; base = states so_far.base so_far.past; past = [] }

-- the epoch after, which a book writes
abbrev pub next_of : Live → Live
next_of live = record { version = 2; epoch = live.epoch + 1; id = live.id; log_sectors = live.log_sectors }

-- the first epoch of a new journal
abbrev pub new_live : StoreId → ℕ → Live
new_live id log_sectors = record { version = 2; epoch = 0; id = id; log_sectors = log_sectors }

-- the epoch in which its book was opened
abbrev pub first_live : Live → ℕ → Live
first_live live epoch = record { version = 2; epoch = epoch; id = live.id; log_sectors = live.log_sectors }

-- the gate of an epoch, at its place
abbrev pub IsGateAt : Live → ℕ → List ℕ → Type 0
IsGateAt live i content = (i ≡ area_of live) × IsGate (area_of live) content (gate_of_live live)

-- A sector of the map of an epoch holds these entries.
pub record IsReady (live : Live) (entries : List Entry) (i : ℕ) (content : List ℕ) : Type 0 where
  pub slots : (k : ℕ) → k < map_places (blocks_of live) → i ≡ map_start live + k / 256 → IsSlot content (blocks_of live) k (slot_at entries k)

-- This epoch follows the epochs before.
pub record IsEpoch (first : Live) (before : List Chapter) (live : Live) (base : List Entry) (past : List Record) : Type 0 where
  pub is_live : live ≡ epoch_after first (length before)
  pub limits : IsWithinLimits (gate_of_live live)
  pub story : IsStory first (story_of before base past)

-- Each image since the opening shows the story, and a present one shows this epoch, with at least so many records.
pub record Runs (first : Live) (before : List Chapter) (live : Live) (base : List Entry) (past : List Record) (start least : ℕ) (disk : DiskSeen) : Type 0 where
  pub tells : Tells first (story_of before base past) disk.moments start
  pub room : journal_end live ≤ disk.sectors
  pub allows : Allows (IsSectorOf live base past) (present disk.moments)
  pub shown : (image : Sectors) → IsImage (present disk.moments) image → (n : ℕ) × Shows first (story_of before base past) image (length before) n × (least ≤ n)

-- what a book has in memory, and what it was opened with
pub record Memory : Type 0 where
  pub live : Live
  pub entries : List Entry
  -- the log sector in hand, its place in the log, and how many records it has
  pub sector : List ℕ
  pub place : ℕ
  pub count : ℕ
  -- how many records the epoch has, how many of these were written, and how many of these stay
  pub records : ℕ
  pub written : ℕ
  pub synced : ℕ
  pub stopped : Bool
  pub ends : ℕ
  pub clears : ℕ
  pub asked : Bool
  -- the entries that a stop can't take back
  pub kept : List Entry
  -- the moment at which the opening ended, the epoch and the entries that were opened
  pub start : ℕ
  pub first_epoch : ℕ
  pub first_entries : List Entry

-- the story, with the epoch that a turnover is about to begin
abbrev pub all_of : Bool → List Chapter → List Entry → List Record → List Chapter
all_of false before base past = story_of before base past
all_of true before base past = story_of (story_of before base past) (states base past) []

-- The records of an epoch stand in the log and in the sector in hand, thirty a sector.
pub record Shape (logs place count records written synced : ℕ) : Type 0 where
  pub counted : records ≡ 30 * place + count
  pub most : count ≤ 30
  pub inside : place ≤ logs
  pub some : 0 < count → place < logs
  pub full : 30 * place ≤ written
  pub fewer : written ≤ records
  pub stay : synced ≤ written

abbrev pub IsShaped : Memory → Type 0
IsShaped b = Shape b.live.log_sectors b.place b.count b.records b.written b.synced

-- and its disk shows no more, and at least the synced ones
pub record IsRunning (disk : DiskSeen) (b : Memory) (first : Live) (before : List Chapter) (base : List Entry) (past : List Record) : Type 0 where
  pub shaped : IsShaped b
  pub hand : InHand b.live past b.place b.count b.sector
  pub runs : WhenTold disk.told (λ s. Runs first before b.live base past b.start b.synced disk × Stands b.live b.written s)
  -- nothing was written since the last sync: each image is what is read
  pub rests : b.synced ≡ b.written → WhenTold disk.told (λ s. present disk.moments ≡ settled s)

-- how a book and its disk stand to the epochs since the opening
pub record Keeps (disk : DiskSeen) (b : Memory) (so_far : Story) : Type 0 where
  pub first : Live
  pub half_turned : Bool
  pub epoch : IsEpoch first so_far.before b.live so_far.base so_far.past
  pub version : b.live.version ≡ 2
  pub opened : (first.epoch ≡ b.first_epoch) × ((chapter : Chapter) → slice_get (story_of so_far.before so_far.base so_far.past) 0 ≡ Some chapter → chapter.base ≡ b.first_entries)
  pub many : length so_far.past ≡ b.records
  pub stands : b.entries ≡ states so_far.base so_far.past
  pub stays : (b.synced ≤ length so_far.past) × (b.kept ≡ states so_far.base (take b.synced so_far.past))
  pub ends_are : b.live.epoch ≡ b.first_epoch → b.ends ≡ ends so_far.past % 2 ^ 64
  pub clears_are : b.live.epoch ≡ b.first_epoch → b.clears ≡ clears_in so_far.base so_far.past % 2 ^ 64
  pub filled : b.asked ≡ false → IsFilled b.live.log_sectors (all_of half_turned so_far.before so_far.base so_far.past)
  pub stops : half_turned ≡ true → b.stopped ≡ true
  pub few : length so_far.past ≤ 30 * b.live.log_sectors + 1
  pub tells : WhenTold disk.told (λ s. Tells first (all_of half_turned so_far.before so_far.base so_far.past) disk.moments b.start)
  -- what was synced stays, also once the book is stopped
  pub lasts : WhenTold disk.told (λ s. Lasts first (all_of half_turned so_far.before so_far.base so_far.past) (present disk.moments) (length so_far.before) b.synced)
  pub full : b.asked ≡ false → WhenTold disk.told (λ s. AreFull first (all_of half_turned so_far.before so_far.base so_far.past) b.live.log_sectors disk.moments b.start)
  pub running : b.stopped ≡ false → IsRunning disk b first so_far.before so_far.base so_far.past

-- The book has this story; and it has some story.
abbrev pub HasStory : DiskSeen → Memory → Story → Type 0
HasStory disk b so_far = ∥ Keeps disk b so_far ∥₁

abbrev pub HasSome : DiskSeen → Memory → Type 0
HasSome disk b = ∥ ((so_far : Story) × Keeps disk b so_far) ∥₁

-- the memory of a book that was opened just now: an epoch without records, and a blank sector in hand
abbrev pub new_memory : Live → List Entry → List ℕ → ℕ → Memory
new_memory live entries blank start = record {
  live = live;
  entries = entries;
  sector = blank;
  place = 0;
  count = 0;
  records = 0;
  written = 0;
  synced = 0;
  stopped = false;
  ends = 0;
  clears = 0;
  asked = false;
  kept = entries;
  start = start;
  first_epoch = live.epoch;
  first_entries = entries;
}
