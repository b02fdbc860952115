-- What a journal that stands closed recovers to.
use Rattle.std.specs.Prelude.{◌≡◌, ◌%◌, ◌^◌, List, Option}
use Rattle.key_state.specs.Entries.{ends as ends_in}
use Rattle.key_state.specs.declared.record.Record.{Record}
use Rattle.key_state.specs.declared.seen.BookSeen.{BookSeen}
use Rattle.vd_disk.specs.Disk.{DiskSeen, IsImage, Sectors, WhenTold, present}
use Rattle.journal_layout.specs.Recovery.{Gives, Recovers}
use Rattle.journal_layout.specs.declared.live.Live.{Live}
use Rattle.plan_journals.specs.Growth.{ClosedWell}
use Rattle.plan_journals.specs.Open.{Start}

-- An image gives the epoch of a book, and records after which the blocks have the book's entries. In the epoch that was opened, as many of
-- these records are ends as the book counted, in 64 bits.
pub record RecoversBook (start : Start) (b : BookSeen) (image : Sectors) : Type 0 where
  pub live : Live
  pub epoch : live.epoch ≡ b.epoch
  pub records : List Record
  pub gives : Gives image start.id (Recovers live records b.now)
  pub ends : b.epoch ≡ start.epoch → b.ends ≡ ends_in records % 2 ^ 64

-- What a stop may leave of a disk on which a journal stands closed does so.
abbrev pub ClosedRecovers : Type 0
ClosedRecovers = (start : Start) (kept : Option DiskSeen) (b : BookSeen) (disk : DiskSeen) → ClosedWell start kept b disk
    → WhenTold disk.told (λ _. ∥ ((image : Sectors) → IsImage (present disk.moments) image → RecoversBook start b image) ∥₁)
