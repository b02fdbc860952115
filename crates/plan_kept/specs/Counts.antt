-- The ends that are stored in a closed journal.
use Rattle.std.specs.Prelude.{◌≡◌, ℕ, ◌%◌, ◌^◌, List, Some}
use Rattle.vd_disk.specs.Disk.{DiskSeen, IsImage, Sectors, WhenTold, present}
use Rattle.vd_yard.specs.Kept.{Kept, kept_at}
use Rattle.key_state.specs.Entries.{ends as ends_in}
use Rattle.key_state.specs.declared.entry.Entry.{Entry}
use Rattle.key_state.specs.declared.record.Record.{Record}
use Rattle.journal_layout.specs.Recovery.{Gives, Recovers}
use Rattle.journal_layout.specs.declared.live.Live.{Live}
use Rattle.plan_journals.specs.Open.{Start}

-- An image gives a journal's store its records. In the epoch that was opened as many of them are ends as writes were told, modulo 2^64.
pub record ImageCounts (start : Start) (written : ℕ) (image : Sectors) : Type 0 where
  pub live : Live
  pub records : List Record
  pub entries : List Entry
  pub gives : Gives image start.id (Recovers live records entries)
  pub ends : live.epoch ≡ start.epoch → ends_in records % 2 ^ 64 ≡ written % 2 ^ 64

-- A disk is kept at the journal's path, and each image that a stop may leave of it, where it tells, does so.
pub record KeptCounts (disks : Kept DiskSeen) (start : Start) (written : ℕ) : Type 0 where
  pub disk : DiskSeen
  pub kept : kept_at disks start.journal ≡ Some disk
  pub counts : WhenTold disk.told (λ _. ∥ ((image : Sectors) → IsImage (present disk.moments) image → ImageCounts start written image) ∥₁)
