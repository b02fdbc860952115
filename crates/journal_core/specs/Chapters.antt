-- The epochs of a journal since it was opened, and the images that show them.
use Rattle.std.specs.Prelude.{◌≡◌, ◌⊎◌, ℕ, ◌+◌, ◌*◌, ◌<◌, ◌≤◌, List, length, take, slice_get, Some}
use Rattle.key_state.specs.Entries.{states, IsHistory}
use Rattle.key_state.specs.declared.entry.Entry.{Entry}
use Rattle.key_state.specs.declared.record.Record.{Record}
use Rattle.journal_layout.specs.declared.live.Live.{Live}
use Rattle.journal_layout.specs.Recovery.{Sectors, Gives, Recovers, IsMap, blocks_of}
use Rattle.vd_disk.specs.Disk.{Table, IsImage, IsImageAt}

-- the map of an epoch, and the records that were appended in it
pub record Chapter : Type 0 where
  pub base : List Entry
  pub past : List Record

-- what the gate of an epoch says, so many after the first
abbrev pub epoch_after : Live → ℕ → Live
epoch_after first i = record { version = first.version; epoch = first.epoch + i; id = first.id; log_sectors = first.log_sectors }

-- The image gives epoch i with its map, and the first n of its records.
pub record ShowsAt (first : Live) (story : List Chapter) (image : Sectors) (i n : ℕ) (chapter : Chapter) : Type 0 where
  pub is : slice_get story i ≡ Some chapter
  pub few : n ≤ length chapter.past
  pub map : IsMap image (epoch_after first i) chapter.base
  pub gives : Gives image first.id (Recovers (epoch_after first i) (take n chapter.past) (states chapter.base (take n chapter.past)))

abbrev pub Shows : Live → List Chapter → Sectors → ℕ → ℕ → Type 0
Shows first story image i n = (chapter : Chapter) × ShowsAt first story image i n chapter

-- of an epoch before, or of the same with no more records
abbrev pub IsBefore : ℕ → ℕ → ℕ → ℕ → Type 0
IsBefore i n j k = (i < j) ⊎ ((i ≡ j) × (n ≤ k))

-- What the second image shows isn't before what the first one shows.
abbrev pub IsNoWorse : Live → List Chapter → Sectors → Sectors → Type 0
IsNoWorse first story a b = (i : ℕ) × (n : ℕ) × (j : ℕ) × (k : ℕ) × Shows first story a i n × Shows first story b j k × IsBefore i n j k

-- From a moment on each image shows a part of the story, and none loses what all images of an earlier moment show.
pub record Tells (first : Live) (story : List Chapter) (moments : List Table) (start : ℕ) : Type 0 where
  pub begun : start < length moments
  pub shown : (m : ℕ) (image : Sectors) → start ≤ m → IsImageAt moments m image → (i : ℕ) × (n : ℕ) × Shows first story image i n
  pub grows : (m n : ℕ) (image : Sectors) → start ≤ m → m ≤ n → IsImageAt moments n image
      → (earlier : Sectors) × IsImageAt moments m earlier × IsNoWorse first story earlier image

-- Each epoch has a legal history from its map.
pub record IsStory (first : Live) (story : List Chapter) : Type 0 where
  pub sized : (i : ℕ) (chapter : Chapter) → slice_get story i ≡ Some chapter → length chapter.base ≡ blocks_of first
  pub legal : (i : ℕ) (chapter : Chapter) → slice_get story i ≡ Some chapter → IsHistory chapter.base chapter.past
  -- the next map has the entries of all its records
  pub links : (i : ℕ) (chapter next : Chapter) → slice_get story i ≡ Some chapter → slice_get story (i + 1) ≡ Some next → next.base ≡ states chapter.base chapter.past

-- Each epoch that ended by itself ended over a full log with one more record.
abbrev pub IsFilled : ℕ → List Chapter → Type 0
IsFilled log_sectors story = (i : ℕ) (chapter next : Chapter) → slice_get story i ≡ Some chapter → slice_get story (i + 1) ≡ Some next
    → length chapter.past ≡ 30 * log_sectors + 1

-- No image of a table shows less than the first n records of epoch i.
abbrev pub Lasts : Live → List Chapter → Table → ℕ → ℕ → Type 0
Lasts first story table i n = (image : Sectors) → IsImage table image → (j : ℕ) × (k : ℕ) × Shows first story image j k × IsBefore i n j k

-- Since a moment some image showed as many records of epoch i as its log takes.
abbrev pub WasFull : Live → List Chapter → ℕ → List Table → ℕ → ℕ → Type 0
WasFull first story log_sectors moments start i = (m : ℕ) × (image : Sectors) × (start ≤ m) × IsImageAt moments m image × Shows first story image i (30 * log_sectors)

-- Each epoch that ended by itself was seen full.
abbrev pub AreFull : Live → List Chapter → ℕ → List Table → ℕ → Type 0
AreFull first story log_sectors moments start = (i : ℕ) (chapter next : Chapter) → slice_get story i ≡ Some chapter → slice_get story (i + 1) ≡ Some next
    → WasFull first story log_sectors moments start i
