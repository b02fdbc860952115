-- Which trees are refused, and the limits of the others.
use Rattle.std.specs.Prelude.{◌≡◌, ℕ, ◌-◌, ◌*◌, ◌<◌, ◌≤◌, ◌^◌, ◌==◌, ◌||◌, ◌&&◌, All, Bool, List, Option, Some, None, Result, Ok, Err, if◌then◌else◌, length, min, nat_le, not}
use Rattle.std.specs.List.{list_any}
use Rattle.anchor_tree.specs.declared.distribution.Distribution.{Distribution}
use Rattle.anchor_tree.specs.declared.fault.TreeFault.{TreeFault}
use Rattle.anchor_tree.specs.declared.fault.TreeFault.TheVariants as fault
use Rattle.anchor_tree.specs.Shape.{Shape, directories_of, directories_to, files_of, holders_of, percents_of}

-- held at the greatest u64
abbrev pub held : ℕ → ℕ
held n = min n (2 ^ 64 - 1)

-- no level, no directory in a directory, no file in one, no size, or one of no byte
abbrev pub is_empty : ℕ → ℕ → ℕ → List (ℕ × ℕ) → Bool
is_empty depth width files sizes =
    depth == 0 || width == 0 || files == 0 || length sizes == 0 || list_any (λ (size : ℕ × ℕ). size.0 == 0) sizes

-- no more than 65,536 directories and 1,048,576 files
abbrev pub is_small : ℕ → ℕ → Bool
is_small directories files = nat_le directories 65536 && nat_le files 1048576

-- why a tree of these numbers is refused, where it is; the first cause counts
abbrev pub refusal : ℕ → ℕ → ℕ → List (ℕ × ℕ) → Distribution → Option TreeFault
refusal depth width files sizes distribution =
    let directories = directories_to width depth in
    let all = holders_of distribution depth width * files in
    if is_empty depth width files sizes then Some fault.Empty
    else (if not (percents_of sizes == 100) then Some (fault.Percent (held (percents_of sizes)))
    else (if not (is_small directories all) then Some (fault.TooLarge (held directories) (held all))
    else None))

-- the cause that an answer gives, where that isn't want of memory
abbrev pub refusal_in : {T : Type 0} → Result T TreeFault → Option TreeFault
refusal_in (Ok tree) = None
refusal_in (Err fault.Empty) = Some fault.Empty
refusal_in (Err (fault.Percent sum)) = Some (fault.Percent sum)
refusal_in (Err (fault.TooLarge directories files)) = Some (fault.TooLarge directories files)
refusal_in (Err fault.NoMemory) = None

-- a tree within the limits
pub record IsTree (tree : Shape) : Type 0 where
  pub some_levels : 0 < tree.depth
  pub some_width : 0 < tree.width
  pub some_files : 0 < tree.files
  pub few_directories : directories_of tree ≤ 65536
  pub few_files : files_of tree ≤ 1048576
  pub hundred : length tree.hundred ≡ 100
  pub some_bytes : All (λ size. 0 < size) tree.hundred

-- a tree that knows how many directories it has, and how many of them in the last level
pub record Keeps (tree : Shape) (all bottom : ℕ) : Type 0 where
  pub limits : IsTree tree
  pub directories : all ≡ directories_of tree
  pub last_level : bottom ≡ tree.width ^ tree.depth
