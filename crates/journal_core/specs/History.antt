-- What recovery gives of a book's disk: one history that only grows, in every image since the opening ended.
use Rattle.std.specs.Prelude.{◌≡◌, ◌⊎◌, ℕ, ◌+◌, ◌*◌, ◌%◌, ◌^◌, ◌<◌, ◌≤◌, true, false, List, [], ◌∷◌, ◌++◌, length, take, slice_get, Some, IsSome}
use Rattle.vd_base.specs.declared.geometry.StoreId.{StoreId}
use Rattle.key_state.specs.Books.{clears as clears_in}
use Rattle.key_state.specs.Entries.{states, ends as ends_in, IsHistory, IsLegalOn}
use Rattle.key_state.specs.declared.entry.Entry.{Entry}
use Rattle.key_state.specs.declared.record.Record.{Record}
use Rattle.key_state.specs.declared.seen.Origin.{Origin}
use Rattle.key_state.specs.declared.seen.BookSeen.{BookSeen}
use Rattle.journal_layout.specs.declared.live.Live.{Live}
use Rattle.journal_layout.specs.Recovery.{Sectors, Recovers, Gives, IsMap}
use Rattle.vd_disk.specs.Disk.{DiskSeen, WhenTold, Extends, IsImage, IsImageAt, present}
use Rattle.journal_core.specs.Chapters.{Chapter, epoch_after, IsStory}
use Rattle.journal_core.specs.Keeps.{Story, chapters, with_epoch}
use Rattle.journal_core.specs.Opening.{Opens}

-- What an image recovers to: its live epoch, the map of that, and the stored records.
pub record Found (id : StoreId) (image : Sectors) : Type 0 where
  pub live : Live
  pub base : List Entry
  pub records : List Record
  pub is_map : IsMap image live base
  pub gives : Gives image id (Recovers live records (states base records))

-- an image at a moment since the opening ended
abbrev pub IsSince : BookSeen → DiskSeen → ℕ → Sectors → Type 0
IsSince b disk m image = (length b.origin.opened ≤ m + 1) × IsImageAt disk.moments m image

-- The first records of a list are these.
abbrev pub IsFrontOf : List Record → List Record → Type 0
IsFrontOf front records = front ≡ take (length front) records

-- An epoch that began in an append: some image since showed the full log of the epoch before, and its map has the entries after one
-- legal record more.
pub record IsTurned (b : BookSeen) (id : StoreId) (disk : DiskSeen) (epoch : ℕ) (base : List Entry) : Type 0 where
  pub moment : ℕ
  pub image : Sectors
  pub since : IsSince b disk moment image
  pub found : Found id image
  pub before : found.live.epoch + 1 ≡ epoch
  pub full : length found.records ≡ 30 * b.origin.log_sectors
  pub made : Record
  pub legal : IsLegalOn (states found.base found.records) made
  pub map : base ≡ states found.base (found.records ++ made ∷ [])

-- What the one image shows isn't after what the other one shows: an epoch before, or the same with no more records.
abbrev pub IsNotAfter : {id : StoreId} {x y : Sectors} → Found id x → Found id y → Type 0
IsNotAfter a c = (a.live.epoch < c.live.epoch) ⊎ ((a.live.epoch ≡ c.live.epoch) × (length a.records ≤ length c.records))

-- What is recovered is an epoch of the story: its gate, its map, and the first of its records.
pub record IsEpochOf (first : Live) (story : List Chapter) (id : StoreId) (image : Sectors) (is : Found id image) : Type 0 where
  pub place : ℕ
  pub chapter : Chapter
  pub there : slice_get story place ≡ Some chapter
  pub live : is.live ≡ epoch_after first place
  pub map : is.base ≡ chapter.base
  pub records : IsFrontOf is.records chapter.past

-- the epoch that was opened
abbrev pub opened_live : StoreId → Origin → Live
opened_live id origin = record { version = 2; epoch = origin.epoch; id = id; log_sectors = origin.log_sectors }

-- Of the images since the opening ended, for a book with this story, where so many records of its epoch are synced:
pub record OneHistory (b : BookSeen) (id : StoreId) (disk : DiskSeen) (so_far : Story) (least : ℕ) : Type 0 where
  -- each recovers, and so is a legal history
  pub found : (m : ℕ) (image : Sectors) → IsSince b disk m image → Found id image
  -- to an epoch of the story; where the book is stopped perhaps to the one that a turnover was about to begin
  pub told : (m : ℕ) (image : Sectors) → IsSince b disk m image → (is : Found id image)
      → (IsEpochOf (opened_live id b.origin) (chapters so_far) id image is) ⊎ (IsSome b.stopped × IsEpochOf (opened_live id b.origin) (chapters (with_epoch so_far)) id image is)
  -- from the opened one to the book's; where the book is stopped perhaps to the next one
  pub epochs : (m : ℕ) (image : Sectors) → IsSince b disk m image → (is : Found id image)
      → (b.origin.epoch ≤ is.live.epoch) × ((is.live.epoch ≤ b.epoch) ⊎ ((is.live.epoch ≡ b.epoch + 1) × IsSome b.stopped))
  -- Two of one epoch have one map, and the records of the one are the first of the other's.
  pub one : (m n : ℕ) (x y : Sectors) → IsSince b disk m x → IsSince b disk n y → (a : Found id x) (c : Found id y) → a.live.epoch ≡ c.live.epoch → length a.records ≤ length c.records
      → (a.base ≡ c.base) × IsFrontOf a.records c.records
  -- One of the opened epoch has the entries that were opened.
  pub opened : (m : ℕ) (image : Sectors) → IsSince b disk m image → (is : Found id image) → is.live.epoch ≡ b.origin.epoch → is.base ≡ b.origin.entries
  -- One of the book's epoch has its map, and records that are its first.
  pub own : (m : ℕ) (image : Sectors) → IsSince b disk m image → (is : Found id image) → is.live.epoch ≡ b.epoch → (is.base ≡ so_far.base) × IsFrontOf is.records so_far.past
  -- Each shows no less than some image of each earlier moment: none falls back behind what all of these show, epoch or records.
  pub grows : (m n : ℕ) (image : Sectors) → length b.origin.opened ≤ m + 1 → m ≤ n → IsImageAt disk.moments n image → (is : Found id image)
      → (earlier : Sectors) × (was : Found id earlier) × IsImageAt disk.moments m earlier × IsNotAfter was is
  -- One of now has every synced record; or it is of the next epoch, which begins with the book's entries, where a turnover failed.
  pub now : (image : Sectors) → IsImage (present disk.moments) image → (is : Found id image)
      → ((is.live.epoch ≡ b.epoch) × (least ≤ length is.records)) ⊎ ((is.live.epoch ≡ b.epoch + 1) × IsSome b.stopped × (is.base ≡ b.now) × (is.records ≡ []))
  -- Where no turnover was asked for, an epoch after the opened one began in an append.
  pub turned : b.origin.turned_over ≡ false → (m : ℕ) (image : Sectors) → IsSince b disk m image → (is : Found id image) → b.origin.epoch < is.live.epoch → IsTurned b id disk is.live.epoch is.base

-- The history of a book with this story, whose epoch has so many records, so many of which a stop can't take back.
pub record HistoryOf (b : BookSeen) (so_far : Story) (records least : ℕ) (disk : DiskSeen) : Type 0 where
  pub id : StoreId
  pub its_id : b.origin.id ≡ Some id
  -- each epoch since the opening has a legal history from its map, and the next map has the entries after all its records
  pub is_story : IsStory (opened_live id b.origin) (chapters so_far)
  pub many_epochs : b.origin.epoch + length so_far.before ≡ b.epoch
  pub many : length so_far.past ≡ records
  pub stopped : (n : ℕ) → b.stopped ≡ Some n → n ≡ records
  pub legal : IsHistory so_far.base so_far.past
  pub now : b.now ≡ states so_far.base so_far.past
  pub synced : (least ≤ records) × (b.synced ≡ states so_far.base (take least so_far.past))
  -- one more than the log takes, where a turnover failed in an append
  pub few : records ≤ 30 * b.origin.log_sectors + 1
  -- in the epoch that was opened
  pub ends : b.epoch ≡ b.origin.epoch → b.ends ≡ ends_in so_far.past % 2 ^ 64
  pub clears : b.epoch ≡ b.origin.epoch → b.clears ≡ clears_in so_far.base so_far.past % 2 ^ 64
  -- what a stop within the opening left
  pub opening : Opens (opened_live id b.origin) b.origin.entries b.origin.told b.origin.began b.origin.opened
  pub earlier : Extends b.origin.opened disk.moments
  pub images : WhenTold disk.told (λ _. OneHistory b id disk so_far least)

-- What a book keeps over its disk, or over one that it gave back.
abbrev pub KeepsOver : BookSeen → Story → ℕ → ℕ → DiskSeen → Type 0
KeepsOver b so_far records least disk = ∥ HistoryOf b so_far records least disk ∥₁

-- and all records stay
abbrev pub KeepsAll : BookSeen → Story → ℕ → DiskSeen → Type 0
KeepsAll b so_far records disk = KeepsOver b so_far records records disk

-- a book that was closed over this disk, and one that gave it back without a flush
abbrev pub closed : BookSeen → DiskSeen → BookSeen
closed b disk = record b { synced = b.now; faults = disk.faults }

abbrev pub given_up : ℕ → BookSeen → DiskSeen → BookSeen
given_up records b disk = record b { stopped = Some records; shut = true; faults = disk.faults }
