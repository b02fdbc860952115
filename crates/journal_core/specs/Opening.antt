-- What a stop within an opening leaves.
use Rattle.std.specs.Prelude.{◌≡◌, ◌⊎◌, ℕ, ◌+◌, ◌≤◌, List, [], length, Option, Some}
use Rattle.key_state.specs.declared.entry.Entry.{Entry}
use Rattle.journal_layout.specs.declared.live.Live.{Live}
use Rattle.journal_layout.specs.Recovery.{Sectors, Outcome, NoJournal, Recovers, Gives}
use Rattle.vd_disk.specs.Disk.{Table, IsAtRest, IsImageAt}

-- An image gives what the sectors before gave, or no journal, where an epoch 0 is made, or the opened epoch, with its entries and no
-- records.
abbrev pub OpeningLeaves : Live → List Entry → Sectors → Sectors → Type 0
OpeningLeaves first entries before image =
    ((outcome : Outcome) → Gives before first.id outcome → Gives image first.id outcome)
    ⊎ (((first.epoch ≡ 0) × Gives image first.id NoJournal) ⊎ Gives image first.id (Recovers first [] entries))

-- From a disk at rest on that told its sectors, each image at each moment does.
abbrev pub Opens : Live → List Entry → Option Sectors → List Table → List Table → Type 0
Opens first entries told began moments =
    (before : Sectors) → told ≡ Some before → IsAtRest began before → (m : ℕ) (image : Sectors) → length began ≤ m + 1 → IsImageAt moments m image → OpeningLeaves first entries before image
