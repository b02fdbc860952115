-- The names of directories and files.
use Rattle.std.specs.Prelude.{ℕ, ◌+◌, ◌-◌, ◌/◌, ◌%◌, ◌^◌, ◌++◌, List, codes, decimal, find, length, nat_lt, replicate, unwrap_or}
use Rattle.std.specs.List.{flat_map, range_with_len}
use Rattle.anchor_tree.specs.Shape.{Shape, directories_to, first_of}

-- the level of a directory: the first whose directories, counted with those of the levels before it, go past its number
abbrev pub level_of : ℕ → ℕ → ℕ → ℕ
level_of depth width directory = unwrap_or (find (λ l. nat_lt directory (directories_to width l)) (range_with_len 1 depth)) 0

-- its number among the directories of its level, from 0
abbrev pub index_of : ℕ → ℕ → ℕ → ℕ
index_of depth width directory = directory - directories_to width (level_of depth width directory - 1)

-- digit q, from 1, of an index that is written with l digits to the base width
abbrev pub digit_at : ℕ → ℕ → ℕ → ℕ → ℕ
digit_at width l index q = index / width ^ (l - q) % width

-- the folder of a digit at level q
abbrev pub folder : ℕ → ℕ → List ℕ
folder q digit = codes "/vdb" ++ (decimal q ++ (codes "_" ++ (decimal (digit + 1) ++ codes ".dir")))

-- the folders that lead to the directory of an index in level l
abbrev pub path_to : ℕ → ℕ → ℕ → List ℕ
path_to width l index = flat_map (λ q. folder q (digit_at width l index q)) (range_with_len 1 l)

abbrev pub dir_name : Shape → ℕ → List ℕ
dir_name tree directory =
    tree.anchor ++ path_to tree.width (level_of tree.depth tree.width directory) (index_of tree.depth tree.width directory)

-- a number in at least four digits
abbrev pub four_digits : ℕ → List ℕ
four_digits n = replicate (4 - length (decimal n)) 48 ++ decimal n

-- the directory of a file
abbrev pub holder_of : Shape → ℕ → ℕ
holder_of tree file = first_of tree.distribution tree.depth tree.width + file / tree.files

-- the end of the name of a file that is so many in its directory, from 0
abbrev pub leaf : ℕ → List ℕ
leaf n = codes "/vdb_f" ++ (four_digits (n + 1) ++ codes ".file")

abbrev pub file_name : Shape → ℕ → List ℕ
file_name tree file = dir_name tree (holder_of tree file) ++ leaf (file % tree.files)
