-- How a store is cut into blocks.
use Rattle.std.specs.Prelude.{◌≡◌, ℕ, ◌+◌, ◌*◌, ◌/◌, ◌%◌, ◌<◌, ◌≤◌}

-- what contracts see of a geometry
pub record Shape : Type 0 where
  pub blocks : ℕ
  pub block_size : ℕ

-- the limits of a store: 16,777,216 blocks, each of whole sectors and at most 1 MiB
pub record IsGeometry (blocks block_size : ℕ) : Type 0 where
  pub some_blocks : 0 < blocks
  pub few_blocks : blocks ≤ 16777216
  pub some_bytes : 0 < block_size
  pub few_bytes : block_size ≤ 1048576
  pub whole_sectors : block_size % 512 ≡ 0

-- the sectors of one block
abbrev pub sectors_of : Shape → ℕ
sectors_of shape = shape.block_size / 512

-- the byte at which a sector of a block begins in its store
abbrev pub address_of : Shape → ℕ → ℕ → ℕ
address_of shape block sector = block * shape.block_size + sector * 512
