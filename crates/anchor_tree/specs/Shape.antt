-- Trees of files below an anchor: their directories, their files and the sizes of these.
use Rattle.std.specs.Prelude.{ℕ, ◌+◌, ◌-◌, ◌*◌, ◌%◌, ◌^◌, List, find, length, map, nat_lt, slice_get, slice_index, sum, take, unwrap_or}
use Rattle.std.specs.List.{range_with_len, sum_by}
use Rattle.anchor_tree.specs.declared.distribution.Distribution.{Distribution}
use Rattle.anchor_tree.specs.declared.distribution.Distribution.TheVariants as distribution

-- What contracts see of a tree: the path of its anchor, its levels, the directories in each directory, the files in each that has
-- files, which ones have, and the sizes of its first hundred files, which those behind them repeat.
pub record Shape : Type 0 where
  pub anchor : List ℕ
  pub depth : ℕ
  pub width : ℕ
  pub files : ℕ
  pub distribution : Distribution
  pub hundred : List ℕ

-- the directories of the levels 1 to l, of which level q has width ^ q
abbrev pub directories_to : ℕ → ℕ → ℕ
directories_to width l = sum (map (λ q. width ^ q) (range_with_len 1 l))

-- how many directories have files, where the last level has so many, and all levels so many
abbrev pub with_files : Distribution → ℕ → ℕ → ℕ
with_files distribution.Bottom bottom all = bottom
with_files distribution.All bottom all = all

abbrev pub holders_of : Distribution → ℕ → ℕ → ℕ
holders_of where_files depth width = with_files where_files (width ^ depth) (directories_to width depth)

-- the first directory that has files
abbrev pub first_of : Distribution → ℕ → ℕ → ℕ
first_of distribution.Bottom depth width = directories_to width (depth - 1)
first_of distribution.All depth width = 0

abbrev pub directories_of : Shape → ℕ
directories_of tree = directories_to tree.width tree.depth

abbrev pub files_of : Shape → ℕ
files_of tree = holders_of tree.distribution tree.depth tree.width * tree.files

-- the percentages of sizes, added up
abbrev pub percents_of : List (ℕ × ℕ) → ℕ
percents_of sizes = sum_by (λ (size : ℕ × ℕ). size.1) sizes

-- the place of the first size with which the percentages, added from the first on, are above a number
abbrev pub place_at : List (ℕ × ℕ) → ℕ → ℕ
place_at sizes n = unwrap_or (find (λ place. nat_lt n (percents_of (take (place + 1) sizes))) (range_with_len 0 (length sizes))) 0

abbrev pub size_at : List (ℕ × ℕ) → ℕ → ℕ
size_at sizes n = (unwrap_or (slice_get sizes (place_at sizes n)) (0, 0)).0

-- the sizes of a hundred files, the first of which has the number 0 or a multiple of 100
abbrev pub hundred_of : List (ℕ × ℕ) → List ℕ
hundred_of sizes = map (size_at sizes) (range_with_len 0 100)

-- the bytes of a file, where the sizes of the first hundred are these
abbrev pub size_of : List ℕ → ℕ → ℕ
size_of hundred file = slice_index hundred (file % 100)
