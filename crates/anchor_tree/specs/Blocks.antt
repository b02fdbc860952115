-- The blocks of a tree: those of its files, file by file.
use Rattle.std.specs.Prelude.{◌≡◌, ℕ, ◌+◌, ◌/◌, ◌<◌, List, map, sum}
use Rattle.std.specs.List.{range_with_len}
use Rattle.anchor_tree.specs.Shape.{Shape, files_of, size_of}

-- the whole blocks of a file, where the sizes of the first hundred are these
abbrev pub blocks_in : List ℕ → ℕ → ℕ → ℕ
blocks_in hundred block_size file = size_of hundred file / block_size

-- the blocks of the files before one
abbrev pub blocks_before : List ℕ → ℕ → ℕ → ℕ
blocks_before hundred block_size file = sum (map (blocks_in hundred block_size) (range_with_len 0 file))

-- the blocks of the whole tree
abbrev pub blocks_of : Shape → ℕ → ℕ
blocks_of tree block_size = blocks_before tree.hundred block_size (files_of tree)

-- a block is the one at a place in a file, from 0
pub record IsBlock (tree : Shape) (block_size file place block : ℕ) : Type 0 where
  pub in_tree : file < files_of tree
  pub in_file : place < blocks_in tree.hundred block_size file
  pub number : block ≡ blocks_before tree.hundred block_size file + place
