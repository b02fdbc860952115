-- What runs over journals keep, and when a command over them is complete.
use Rattle.std.specs.Prelude.{◌≡◌, ◌≢◌, ◌⊎◌, ℕ, IsTrue, List, Some, slice_get, Err}
use Rattle.vd_outside.specs.Causes.{Rose}
use Rattle.vd_yard.specs.Counts.{arm_faults}
use Rattle.vd_yard.specs.Out.{AtArm, AtSource}
use Rattle.vd_yard.specs.Yard.{YardSeen, is_there}
use Rattle.plan_types.specs.declared.plan.Plan.{Plan}
use Rattle.plan_types.specs.declared.store.StorePlan.{StorePlan}
use Rattle.plan_file.specs.Files.{PlansTo}
use Rattle.run_report.specs.declared.status.Status.{Status}
use Rattle.run_report.specs.declared.status.Status.TheVariants as status
use Rattle.run_totals.specs.Sentences.{ArmsAreSure}
use Rattle.plan_journals.specs.Closing.{WentWell}
use Rattle.plan_journals.specs.Growth.{SomeRose}
use Rattle.plan_kept.specs.Fits.{FitsItsJournal, HasJournal, KeptFits}
use Rattle.vdbench_top.specs.Runs.{HasJournals}
use Rattle.vdbench_top.specs.Still.{AreBytesOf, IsPlanOf}
use Rattle.vdbench_top.specs.Words.{Asked}
use Rattle.vdbench_top.specs.declared.words.Keeping.{Keeping}
use Rattle.vdbench_top.specs.declared.words.Keeping.TheVariants as keeping

-- This holds of each store of every plan that a parameter file, as told, may give.
abbrev pub OfItsStores : YardSeen → List ℕ → (StorePlan → Type 0) → Type 0
OfItsStores yard file Holds = (plan : Plan) → IsPlanOf yard file plan → (place : ℕ) (store : StorePlan) → slice_get plan.stores place ≡ Some store → Holds store

-- Where the journals that are there are used, the bytes kept of each store fit what its journal gives.
abbrev pub DataFitsJournals : YardSeen → Asked → Type 0
DataFitsJournals yard asks = asks.keeping ≡ keeping.OldJournals → OfItsStores yard asks.file (FitsItsJournal yard)

-- The data of a store fits its journal as the runs begin: no block counts as written, or the kept bytes fitted the recovered journal, or the
-- store's arms are sure, so that verification finds what doesn't.
abbrev pub FitOrSure : YardSeen → Keeping → StorePlan → Type 0
FitOrSure yard keep store = keep ≡ keeping.OldJournals → FitsItsJournal yard store ⊎ IsTrue (yard.tells.sure AtArm store.path)

-- With a status of 0, 1 or 2, where the yard tells the disks and the data that it keeps, each image that a stop may leave of a store's journal
-- gives entries which the bytes kept of the store fit, for each such store of the plan.
abbrev pub KeepsFitting : YardSeen → YardSeen → Asked → Status → Type 0
KeepsFitting old new asks result =
    asks.keeping ≢ keeping.Nothing → WentWell result → IsTrue old.tells.keeps_disks → IsTrue old.tells.keeps_contents
    → (plan : Plan) × IsPlanOf old asks.file plan
    × ((place : ℕ) (store : StorePlan) → slice_get plan.stores place ≡ Some store → FitOrSure old asks.keeping store → KeptFits new store)

-- Nothing outside fails, and all that a command finds is good. The parameter file is sure, and its bytes are a plan's. The yard's count doesn't
-- rise, or it is willing and has the files. The output's count doesn't rise. The yard tells the data that it keeps; its arms are sure, or no count of
-- them rises. Where journals are used it tells their disks, and no count of these rises; where they are there already each is a valid one
-- of its store, and the data fits them.
pub record NothingFails (old new : YardSeen) (faults_before faults_after : ℕ) (asks : Asked) : Type 0 where
  pub source : IsTrue (old.tells.sure AtSource asks.file)
  pub accepted : (bytes line : List ℕ) → AreBytesOf old asks.file bytes → PlansTo bytes (Err line) → ⊥
  pub yard : (Rose old.faults new.faults → ⊥) ⊎ (IsTrue old.willing × IsTrue (is_there old.files AtSource asks.file) × HasJournals old asks.keeping asks.file)
  pub output : Rose faults_before faults_after → ⊥
  pub contents : IsTrue old.tells.keeps_contents
  pub arms : ((plan : Plan) → IsPlanOf old asks.file plan → ArmsAreSure old plan.stores)
      ⊎ ((path : List ℕ) → Rose (arm_faults old.counts path) (arm_faults new.counts path) → ⊥)
  pub disks : asks.keeping ≢ keeping.Nothing → IsTrue old.tells.keeps_disks × ((plan : Plan) → IsPlanOf old asks.file plan → SomeRose plan.stores old.disks new.disks → ⊥)
  pub journals : asks.keeping ≡ keeping.OldJournals → OfItsStores old asks.file (HasJournal old)
  pub data_fits : DataFitsJournals old asks

-- A command ends well: it found nothing, or memory ran out, or, over journals, one is at the end of its last epoch.
abbrev pub EndsWell : Asked → Status → Type 0
EndsWell asks result = (result ≡ status.Good) ⊎ (result ≡ status.NoMemory) ⊎ ((asks.keeping ≢ keeping.Nothing) × (result ≡ status.EpochEnd))
