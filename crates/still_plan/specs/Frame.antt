-- What a still command leaves of the stores of a plan.
use Rattle.std.specs.Prelude.{◌≡◌, ℕ, ◌<◌, List, All, AllPairs, Contains, map, Some}
use Rattle.vd_outside.specs.Causes.{Rose}
use Rattle.vd_disk.specs.Disk.{DiskSeen}
use Rattle.plan_types.specs.declared.store.StorePlan.{StorePlan}
use Rattle.vd_yard.specs.Kept.{Kept, kept_at, bytes_at}
use Rattle.vd_yard.specs.Contents.{file_block}
use Rattle.vd_yard.specs.Counts.{arm_faults, good_reads, good_writes}
use Rattle.vd_yard.specs.Yard.{YardSeen}

-- no two of these stores have one path
abbrev pub AreApart : List StorePlan → Type 0
AreApart stores = AllPairs (λ a b. a.path ≡ b.path → ⊥) stores

-- one of these stores has this path
abbrev pub IsPathOf : List StorePlan → List ℕ → Type 0
IsPathOf stores path = Contains (map (λ store. store.path) stores) path

-- each block of the store has the bytes that it had
abbrev pub HasItsBlocks : Kept (List ℕ) → Kept (List ℕ) → StorePlan → Type 0
HasItsBlocks old new store =
    (block : ℕ) → block < store.id.geometry.blocks →
    file_block store.id.geometry.block_size block (bytes_at new store.path) ≡ file_block store.id.geometry.block_size block (bytes_at old store.path)

-- Each block of these stores has the bytes that it had, and other paths have what they had.
pub record StoresStay (stores : List StorePlan) (old new : Kept (List ℕ)) : Type 0 where
  pub blocks : All (HasItsBlocks old new) stores
  pub others : (path : List ℕ) → (IsPathOf stores path → ⊥) → kept_at new path ≡ kept_at old path

-- what is counted of the arms of a path stays
pub record CountsStay (old new : YardSeen) (path : List ℕ) : Type 0 where
  pub faults : arm_faults new.counts path ≡ arm_faults old.counts path
  pub reads : good_reads new.counts path ≡ good_reads old.counts path
  pub writes : good_writes new.counts path ≡ good_writes old.counts path

-- what is kept at a path, and what is counted of its arms, stays
pub record IsLeft (old new : YardSeen) (path : List ℕ) : Type 0 where
  pub kept : kept_at new.contents path ≡ kept_at old.contents path
  pub counts : CountsStay old new path

-- no data was opened
pub record IsUnopened (old new : YardSeen) : Type 0 where
  pub contents : new.contents ≡ old.contents
  pub counts : (path : List ℕ) → CountsStay old new path

-- The count of faults of a kept disk rose.
pub record DiskFailed (old new : YardSeen) : Type 0 where
  pub path : List ℕ
  pub disk : DiskSeen
  pub now : DiskSeen
  pub was : kept_at old.disks path ≡ Some disk
  pub is : kept_at new.disks path ≡ Some now
  pub rose : Rose disk.faults now.faults
