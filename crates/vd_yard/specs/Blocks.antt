-- The passes of a store, made one after the other.
use Rattle.std.specs.Prelude.{◌≡◌, ℕ, List, Some, length, slice_get}
use Rattle.std.proofs.Common.{◌∙◌}
use Rattle.vd_base.specs.Geometry.{Shape}
use Rattle.vd_arm.specs.Arm.{PassSeen}
use Rattle.vd_yard.specs.Contents.{AreBlocks, file_block}

-- the passes of the first so many blocks
pub record AreFirst (size count : ℕ) (passes : List PassSeen) : Type 0 where
  pub as_many : length passes ≡ count
  pub blocks : (i : ℕ) (pass : PassSeen) → slice_get passes i ≡ Some pass → pass.block ≡ i
  pub sizes : (i : ℕ) (pass : PassSeen) → slice_get passes i ≡ Some pass → pass.size ≡ size

pub all_blocks : (shape : Shape) (size count : ℕ) (passes : List PassSeen) → AreFirst size count passes → size ≡ shape.block_size → count ≡ shape.blocks →
    AreBlocks shape passes
all_blocks shape size count passes first sizes counts = record {
  as_many = first.as_many ∙ counts;
  blocks = first.blocks;
  sizes = λ i pass is. first.sizes i pass is ∙ sizes;
}

-- Each pass tells its block of these bytes.
pub record AllTell (size : ℕ) (bytes : List ℕ) (passes : List PassSeen) : Type 0 where
  pub each : (i : ℕ) (pass : PassSeen) → slice_get passes i ≡ Some pass → pass.told ≡ Some (file_block size i bytes)
