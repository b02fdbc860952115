-- The data of a store: a file's bytes, cut into blocks.
use Rattle.std.specs.Prelude.{◌≡◌, ℕ, ◌*◌, List, [], ◌++◌, length, map, take, drop, replicate, Some, slice_get, unwrap_or}
use Rattle.std.specs.List.{concat}
use Rattle.std.proofs.Common.{arith, length-append}
use Rattle.std.proofs.lemmas.List.{length-take-le, length-replicate}
use Rattle.vd_base.specs.Geometry.{Shape}
use Rattle.vd_arm.specs.Arm.{PassSeen}

-- one block of a file: zeros stand behind the file's end
abbrev pub file_block : ℕ → ℕ → List ℕ → List ℕ
file_block size block bytes = take size (drop (block * size) bytes ++ replicate size 0)

-- one pass for each block of a store, in block order, each of the store's block size
pub record AreBlocks (shape : Shape) (passes : List PassSeen) : Type 0 where
  pub as_many : length passes ≡ shape.blocks
  pub blocks : (i : ℕ) (pass : PassSeen) → slice_get passes i ≡ Some pass → pass.block ≡ i
  pub sizes : (i : ℕ) (pass : PassSeen) → slice_get passes i ≡ Some pass → pass.size ≡ shape.block_size

-- each pass tells its block of these bytes
abbrev pub TellFile : Shape → List ℕ → List PassSeen → Type 0
TellFile shape bytes passes =
    (i : ℕ) (pass : PassSeen) → slice_get passes i ≡ Some pass → pass.told ≡ Some (file_block shape.block_size i bytes)

-- the bytes that passes tell, one behind the other
abbrev pub told_bytes : List PassSeen → List ℕ
told_bytes passes = concat (map (λ (pass : PassSeen). unwrap_or pass.told []) passes)

-- A block of a file has the block size, wherever the file ends.
pub length_file_block : (size block : ℕ) (bytes : List ℕ) → length (file_block size block bytes) ≡ size
length_file_block size block bytes =
    length-take-le size (drop (block * size) bytes ++ replicate size 0)
    (omega (arith, length-append (drop (block * size) bytes) (replicate size 0), length-replicate {A = ℕ} size 0))
