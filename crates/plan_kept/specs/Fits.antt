-- The bytes that a yard keeps of a store, and the entries that its journal gives.
use Rattle.std.specs.Prelude.{◌≡◌, ◌≢◌, List, Ok, Some}
use Rattle.vd_disk.specs.Disk.{DiskSeen, IsImage, Sectors, WhenTold, present}
use Rattle.vd_yard.specs.Kept.{Kept, kept_at}
use Rattle.vd_yard.specs.Yard.{YardSeen}
use Rattle.std.specs.Prelude.{ℕ}
use Rattle.plan_types.specs.declared.store.StorePlan.{StorePlan}
use Rattle.key_state.specs.declared.entry.Entry.{Entry}
use Rattle.key_state.specs.declared.record.Record.{Record}
use Rattle.journal_layout.specs.Recovery.{Gives, Recovers}
use Rattle.journal_layout.specs.declared.live.Live.{Live}
use Rattle.journal_recover.specs.Answers.{Answers}
use Rattle.journal_recover.specs.declared.found.Recovered.{Recovered}
use Rattle.run_report.specs.declared.status.Status.{Status}
use Rattle.run_report.specs.declared.status.Status.TheVariants as status
use Rattle.still_plan.specs.Journals.{RecoversTo}
use Rattle.plan_totals.specs.Sentences.{DataFits}

-- The bytes that are kept of a store fit whatever its journal gives, as far as the yard tells that.
abbrev pub FitsItsJournal : YardSeen → StorePlan → Type 0
FitsItsJournal yard store = (found : Recovered) → RecoversTo yard store found → DataFits yard.contents store found.entries.items

-- The yard keeps the disk of a store's journal and tells its sectors, which give a journal of that store.
pub record HasJournal (yard : YardSeen) (store : StorePlan) : Type 0 where
  pub disk : DiskSeen
  pub kept : kept_at yard.disks store.journal ≡ Some disk
  pub sectors : Sectors
  pub told : disk.told ≡ Some sectors
  pub found : Recovered
  pub gives : Answers sectors store.id (Ok found)

-- the status of no words, parameter file or source
pub record IsNoWord (result : Status) : Type 0 where
  pub no_usage : result ≢ status.Usage
  pub no_parameter : result ≢ status.Parameter
  pub no_source : result ≢ status.Source

-- the status of no journal that is missing, damaged or another store's
pub record IsNoRefusal (result : Status) : Type 0 where
  pub none_missing : result ≢ status.NoJournal
  pub none_damaged : result ≢ status.Damaged
  pub none_mismatched : result ≢ status.Mismatch

-- An image of a journal's disk gives entries that these bytes of its store fit.
pub record ImageFits (contents : Kept (List ℕ)) (store : StorePlan) (image : Sectors) : Type 0 where
  pub live : Live
  pub records : List Record
  pub entries : List Entry
  pub gives : Gives image store.id (Recovers live records entries)
  pub fits : DataFits contents store entries

-- A disk is kept at the path of a store's journal, and each image that a stop may leave of it, where it tells, gives entries that the bytes
-- kept of the store fit.
pub record KeptFits (yard : YardSeen) (store : StorePlan) : Type 0 where
  pub disk : DiskSeen
  pub kept : kept_at yard.disks store.journal ≡ Some disk
  pub fits : WhenTold disk.told (λ _. ∥ ((image : Sectors) → IsImage (present disk.moments) image → ImageFits yard.contents store image) ∥₁)
