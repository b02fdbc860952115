-- What a pass in memory holds, and what it is to write a part of a run of such passes.
use Rattle.std.specs.Prelude.{◌≡◌, ℕ, ◌-◌, ◌*◌, ◌/◌, ◌++◌, min, List, length, take, drop, Some, slice_get}
use Rattle.vd_arm.specs.Arm.{PassSeen}
use Rattle.vd_arm.specs.Transfers.{EachTold, part_of}

-- a block, and its bytes
pub record Held : Type 0 where
  pub block : ℕ
  pub bytes : List ℕ

-- a pass that tells them
abbrev pub telling : Held → PassSeen
telling held = record { block = held.block; size = length held.bytes; told = Some held.bytes }

-- The passes have one size.
abbrev pub AreSized : ℕ → List PassSeen → Type 0
AreSized size passes = (i : ℕ) (pass : PassSeen) → slice_get passes i ≡ Some pass → pass.size ≡ size

-- so many first sectors of these bytes, and the old ones behind them
abbrev pub first_sectors : ℕ → List ℕ → List ℕ → List ℕ
first_sectors many bytes was = take (512 * many) bytes ++ drop (512 * many) was

-- Of a run's sectors, which are those of its first block, then those of the next, and so on, so many first ones were written.
abbrev pub TookSectors : ℕ → List ℕ → List PassSeen → List PassSeen → Type 0
TookSectors many bytes = EachTold (λ i pass was now.
    now ≡ first_sectors (min (many - i * (pass.size / 512)) (pass.size / 512)) (part_of bytes pass.size i) was)
