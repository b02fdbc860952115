-- What holds of the blocks, the names and the places of every tree.
use Rattle.std.specs.Prelude.{◌≡◌, ℕ, ◌+◌, ◌-◌, ◌*◌, ◌%◌, ◌^◌, ◌<◌, ◌≤◌, ◌++◌}
use Rattle.anchor_tree.specs.declared.distribution.Distribution.TheVariants as distribution
use Rattle.anchor_tree.specs.Shape.{Shape, directories_of, directories_to, files_of, first_of}
use Rattle.anchor_tree.specs.Limits.{IsTree}
use Rattle.anchor_tree.specs.Names.{dir_name, file_name, folder, holder_of, index_of, level_of}
use Rattle.anchor_tree.specs.Blocks.{IsBlock, blocks_of}

-- Each block of a tree is one place of one file.
abbrev pub BlocksHavePlaces : Type 0
BlocksHavePlaces = (tree : Shape) (block_size block : ℕ) → block < blocks_of tree block_size → (file : ℕ) × (place : ℕ) × IsBlock tree block_size file place block

-- Each place of a file is a block of the tree.
abbrev pub PlacesAreBlocks : Type 0
PlacesAreBlocks = (tree : Shape) (block_size file place block : ℕ) → IsBlock tree block_size file place block → block < blocks_of tree block_size

-- No two places are one block, and the blocks of an earlier file come first.
abbrev pub PlacesDiffer : Type 0
PlacesDiffer = (tree : Shape) (block_size file place block : ℕ) (other at : ℕ) → IsBlock tree block_size file place block → IsBlock tree block_size other at block
    → (file ≡ other) × (place ≡ at)

abbrev pub BlocksAreInOrder : Type 0
BlocksAreInOrder = (tree : Shape) (block_size file place block : ℕ) (other at later : ℕ) → IsBlock tree block_size file place block → IsBlock tree block_size other at later
    → file < other → block < later

-- Two directories never have one name.
abbrev pub DirectoriesDiffer : Type 0
DirectoriesDiffer = (tree : Shape) (directory other : ℕ) → IsTree tree → directory < directories_of tree → other < directories_of tree
    → dir_name tree directory ≡ dir_name tree other → directory ≡ other

-- Two files never have one name.
abbrev pub FilesDiffer : Type 0
FilesDiffer = (tree : Shape) (file other : ℕ) → IsTree tree → file < files_of tree → other < files_of tree → file_name tree file ≡ file_name tree other → file ≡ other

-- A file never has the name of a directory.
abbrev pub FilesAreNoDirectories : Type 0
FilesAreNoDirectories = (tree : Shape) (file directory : ℕ) → IsTree tree → file < files_of tree → directory < directories_of tree → file_name tree file ≡ dir_name tree directory → ⊥

-- a directory is the one of an index in a level
pub record IsPlaced (tree : Shape) (directory : ℕ) : Type 0 where
  pub first_level : 1 ≤ level_of tree.depth tree.width directory
  pub last_level : level_of tree.depth tree.width directory ≤ tree.depth
  pub index : index_of tree.depth tree.width directory < tree.width ^ level_of tree.depth tree.width directory
  pub number : directory ≡ directories_to tree.width (level_of tree.depth tree.width directory - 1) + index_of tree.depth tree.width directory

abbrev pub DirectoriesArePlaced : Type 0
DirectoriesArePlaced = (tree : Shape) (directory : ℕ) → IsTree tree → directory < directories_of tree → IsPlaced tree directory

-- A directory of the first level stands right below the anchor.
abbrev pub FirstLevelStands : Type 0
FirstLevelStands = (tree : Shape) (directory : ℕ) → IsTree tree → directory < tree.width → dir_name tree directory ≡ tree.anchor ++ folder 1 directory

-- a directory stands right below another, which comes before it
pub record HasParent (tree : Shape) (directory : ℕ) : Type 0 where
  pub parent : ℕ
  pub before : parent < directory
  pub level : level_of tree.depth tree.width directory ≡ level_of tree.depth tree.width parent + 1
  pub name : dir_name tree directory ≡ dir_name tree parent ++ folder (level_of tree.depth tree.width directory) (index_of tree.depth tree.width directory % tree.width)

-- Every other one stands right below a directory that comes before it.
abbrev pub DirectoriesHaveParents : Type 0
DirectoriesHaveParents = (tree : Shape) (directory : ℕ) → IsTree tree → tree.width ≤ directory → directory < directories_of tree → HasParent tree directory

-- a file is one of those of its directory, which is of the last level where no others have files
pub record IsHeld (tree : Shape) (file : ℕ) : Type 0 where
  pub directory : holder_of tree file < directories_of tree
  pub bottom : tree.distribution ≡ distribution.Bottom → level_of tree.depth tree.width (holder_of tree file) ≡ tree.depth
  pub number : file ≡ (holder_of tree file - first_of tree.distribution tree.depth tree.width) * tree.files + file % tree.files

abbrev pub FilesAreHeld : Type 0
FilesAreHeld = (tree : Shape) (file : ℕ) → IsTree tree → file < files_of tree → IsHeld tree file

-- Each directory from the first with files on has all its files.
abbrev pub HoldersAreFull : Type 0
HoldersAreFull = (tree : Shape) (directory n : ℕ) → IsTree tree → first_of tree.distribution tree.depth tree.width ≤ directory → directory < directories_of tree → n < tree.files
    → (file : ℕ) × (file < files_of tree) × (holder_of tree file ≡ directory) × (file % tree.files ≡ n)
