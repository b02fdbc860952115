-- All that a contract sees of a yard.
use Rattle.std.specs.Prelude.{◌≡◌, ℕ, ◌≤◌, Bool, IsTrue, ⊤, List, Option, Result, OnOk, OnErr, IsErrOf, refl}
use Rattle.vd_outside.specs.Causes.{Rose}
use Rattle.vd_disk.specs.Disk.{DiskSeen}
use Rattle.plan_types.specs.declared.store.StorePlan.{StorePlan}
use Rattle.vd_yard.specs.declared.fault.YardFault.{YardFault}
use Rattle.vd_yard.specs.declared.fault.YardFault.TheVariants.{Failed}
use Rattle.vd_yard.specs.Out.{Out, Kind, one_more}
use Rattle.vd_yard.specs.Counts.{Counts}
use Rattle.vd_yard.specs.Kept.{Kept}

-- What a yard tells and no call ends: the bytes of a source, whether the sources and arms that it hands out at a path are sure, and
-- whether it tells the disks and the data that it keeps.
pub record Tells : Type 0 where
  pub bytes : List ℕ → Option (List ℕ)
  pub sure : Kind → List ℕ → Bool
  pub keeps_disks : Bool
  pub keeps_contents : Bool

-- which files are there, by what they are opened as and their path
pub record Files : Type 0 where
  pub at : Kind → List ℕ → Bool

pub is_there : Files → Kind → List ℕ → Bool
is_there files kind path = files.at kind path

-- No file goes.
abbrev pub StaysThere : Files → Files → Type 0
StaysThere old new = (kind : Kind) (path : List ℕ) → IsTrue (is_there old kind path) → IsTrue (is_there new kind path)

-- the files that an opening of a store's passes needs: none, since the file of a plain store is made where it isn't there
abbrev pub HasFiles : Files → StorePlan → Type 0
HasFiles files store = ⊤

pub record YardSeen : Type 0 where
  -- how often a call failed
  pub faults : ℕ
  -- what is out
  pub out : Out
  -- the counts of each path
  pub counts : Counts
  pub tells : Tells
  -- whether it tells that its calls fail only where a file isn't there
  pub willing : Bool
  pub files : Files
  -- what it keeps, where it tells that
  pub disks : Kept DiskSeen
  pub contents : Kept (List ℕ)

-- an opening: at Ok one more is out; nothing else changes but the count of faults
pub record Opens {T : Type 0} (kind : Kind) (path : List ℕ) (old new : YardSeen) (result : Result T YardFault) : Type 0 where
  pub later : old.faults ≤ new.faults
  pub failed : IsErrOf result Failed → Rose old.faults new.faults
  pub kept : (IsErrOf result Failed → ⊥) → new.faults ≡ old.faults
  pub taken : OnOk result (new.out ≡ one_more old.out kind path)
  pub not_taken : OnErr result (new.out ≡ old.out)
  pub counts : new.counts ≡ old.counts
  pub tells : new.tells ≡ old.tells
  pub willing : IsTrue old.willing → IsTrue new.willing
  pub files : StaysThere old.files new.files
  pub disks : new.disks ≡ old.disks
  pub contents : new.contents ≡ old.contents

-- one is given back
pub record GivesBack (kind : Kind) (path : List ℕ) (old new : YardSeen) : Type 0 where
  pub faults : new.faults ≡ old.faults
  pub out : old.out ≡ one_more new.out kind path
  pub tells : new.tells ≡ old.tells
  pub willing : IsTrue old.willing → IsTrue new.willing
  pub files : StaysThere old.files new.files

-- what the files say, by kind and path
pub is_there_at : (files : Files) (kind : Kind) (path : List ℕ) → is_there files kind path ≡ files.at kind path
unfolding is_there
is_there_at files kind path = refl

-- Where each file of the old ones is among the new, none goes.
pub stays_there_by : (old new : Files) → ((kind : Kind) (path : List ℕ) → IsTrue (old.at kind path) → IsTrue (new.at kind path)) → StaysThere old new
unfolding is_there
stays_there_by old new stays = stays
