-- What a call of an arm on the passes of a run of blocks asks and leaves.
use Rattle.std.specs.Prelude.{◌≡◌, ◌⊎◌, ℕ, ◌+◌, ◌*◌, ◌/◌, ◌<◌, List, length, Option, Some, Result, OnOk, OnErr, slice_get, slice_range}
use Rattle.vd_arm.specs.Arm.{PassSeen, ArmSeen, Counted}

-- the 512 bytes of the j-th sector
abbrev pub sector_in : List ℕ → ℕ → List ℕ
sector_in bytes j = slice_range bytes (512 * j) (512 * j + 512)

-- the bytes of the i-th of blocks of one size
abbrev pub part_of : List ℕ → ℕ → ℕ → List ℕ
part_of bytes size i = slice_range bytes (i * size) (i * size + size)

-- The passes are those of blocks one after another, from the first on, of one size.
abbrev pub AreBlocks : ℕ → ℕ → List PassSeen → Type 0
AreBlocks first size passes = (i : ℕ) (pass : PassSeen) → slice_get passes i ≡ Some pass → (pass.block ≡ first + i) × (pass.size ≡ size)

-- They are, and so many bytes are those of all of them together.
abbrev pub IsTransfer : List PassSeen → ℕ → Type 0
IsTransfer passes many = (first : ℕ) × (size : ℕ) × AreBlocks first size passes × (many ≡ length passes * size)

-- Each pass that tells tells its part of these bytes.
abbrev pub TellParts : List PassSeen → List ℕ → Type 0
TellParts passes bytes = (i : ℕ) (pass : PassSeen) (told : List ℕ) → slice_get passes i ≡ Some pass → pass.told ≡ Some told → told ≡ part_of bytes pass.size i

-- They are the passes of the same blocks.
pub record SameBlocks (old new : List PassSeen) : Type 0 where
  pub many : length new ≡ length old
  pub each : (i : ℕ) (before after : PassSeen) → slice_get old i ≡ Some before → slice_get new i ≡ Some after → (after.block ≡ before.block) × (after.size ≡ before.size)

-- Where a pass told bytes, something holds of these and of those that it tells afterwards.
abbrev pub EachTold : (ℕ → PassSeen → List ℕ → List ℕ → Type 0) → List PassSeen → List PassSeen → Type 0
EachTold Holds old new =
    (i : ℕ) (before after : PassSeen) (was : List ℕ)
    → slice_get old i ≡ Some before → slice_get new i ≡ Some after → before.told ≡ Some was
    → (now : List ℕ) × (after.told ≡ Some now) × Holds i before was now

-- After a good write each pass that told tells its part of the bytes.
abbrev pub TookParts : List ℕ → List PassSeen → List PassSeen → Type 0
TookParts bytes = EachTold (λ i pass was now. now ≡ part_of bytes pass.size i)

-- After a failed one each of its sectors is the one from before, or that of its part of the bytes.
abbrev pub TornParts : List ℕ → List PassSeen → List PassSeen → Type 0
TornParts bytes = EachTold (λ i pass was now.
    (j : ℕ) → j < pass.size / 512 → (sector_in now j ≡ sector_in was j) ⊎ (sector_in now j ≡ sector_in (part_of bytes pass.size i) j))

-- A write of so many blocks adds them to the good writes where it answers Ok; the good reads stay.
pub record Writes {T E : Type 0} (many : ℕ) (old new : ArmSeen) (result : Result T E) : Type 0 where
  pub good : OnOk result (Counted many old.good_writes new.good_writes)
  pub bad : OnErr result (new.good_writes ≡ old.good_writes)
  pub reads : new.good_reads ≡ old.good_reads
