-- Where directories and files stand.
use Rattle.std.proofs.Common.{◌≡◌, ℕ, zero, suc, ◌+◌, ◌-◌, ◌*◌, ◌/◌, ◌%◌, ◌<◌, ◌≤◌, ◌^◌, List, ◌++◌, sym, ap, subst, ◌∙◌, arith}
use Rattle.std.proofs.Math.Nat.{div-add-mod', mod-eq_of_lt}
use Rattle.std.proofs.lemmas.List.{append_assoc}
use Rattle.std.proofs.lemmas.Nat.{div-mul-add, div_below, mod-mul-add, mul-add-lt}
use Rattle.anchor_tree.specs.declared.distribution.Distribution.{Distribution}
use Rattle.anchor_tree.specs.declared.distribution.Distribution.TheVariants as distribution
use Rattle.anchor_tree.specs.Shape.{Shape, directories_of, directories_to, files_of, first_of, holders_of}
use Rattle.anchor_tree.specs.Limits.{IsTree}
use Rattle.anchor_tree.specs.Names.{dir_name, folder, holder_of, index_of, level_of, path_to}
use Rattle.anchor_tree.specs.Laws.{DirectoriesArePlaced, DirectoriesHaveParents, FilesAreHeld, FirstLevelStands, HasParent, HoldersAreFull}
use Rattle.anchor_tree.proofs.Held.{power_more}
use Rattle.anchor_tree.proofs.Levels.{between, directories_le, directories_more, first_power, level_is}
use Rattle.anchor_tree.proofs.Paths.{path_step}

-- the place of a directory that lies in a level behind so many
pub record IsAt (depth width directory before : ℕ) : Type 0 where
  pub level : level_of depth width directory ≡ before + 1
  pub index : index_of depth width directory ≡ directory - directories_to width before
  pub inside : directory - directories_to width before < width ^ (before + 1)

pub at_level : (depth width directory before : ℕ) → before < depth → directories_to width before ≤ directory → directory < directories_to width (before + 1) → IsAt depth width directory before
at_level depth width directory before inside past below =
    let level : level_of depth width directory ≡ before + 1 = level_is depth width directory before inside past below in
    let levels : level_of depth width directory - 1 ≡ before = omega (arith, level) in
    record {
      level = level;
      index = ap (λ (l : ℕ). directory - directories_to width l) levels;
      inside = omega (arith, past, below, directories_more width before);
    }

-- the directory of an index in a level behind so many
pub at_index : (depth width before index : ℕ) → before < depth → index < width ^ (before + 1)
    → (level_of depth width (directories_to width before + index) ≡ before + 1) × (index_of depth width (directories_to width before + index) ≡ index)
at_index depth width before index inside below =
    let at = at_level depth width (directories_to width before + index) before inside (omega arith) (omega (arith, below, directories_more width before)) in
    let same : directories_to width before + index - directories_to width before ≡ index = omega arith in
    (at.level, at.index ∙ same)

pub placed : DirectoriesArePlaced
placed tree directory limits below =
    let found = between tree.depth tree.width directory below in
    let at = at_level tree.depth tree.width directory found.before found.inside found.past found.below in
    let power : tree.width ^ level_of tree.depth tree.width directory ≡ tree.width ^ (found.before + 1) = ap (λ (l : ℕ). tree.width ^ l) at.level in
    let levels : level_of tree.depth tree.width directory - 1 ≡ found.before = omega (arith, at.level) in
    let first : directories_to tree.width (level_of tree.depth tree.width directory - 1) ≡ directories_to tree.width found.before = ap (directories_to tree.width) levels in
    record {
      first_level = omega (arith, at.level);
      last_level = omega (arith, at.level, found.inside);
      index = omega (arith, at.index, at.inside, power);
      number = omega (arith, at.index, first, found.past);
    }

-- the name of the directory of an index
name_at : (tree : Shape) (directory level index : ℕ) → level_of tree.depth tree.width directory ≡ level → index_of tree.depth tree.width directory ≡ index
    → dir_name tree directory ≡ tree.anchor ++ path_to tree.width level index
name_at tree directory level index is_level is_index =
    ap (λ (l : ℕ). tree.anchor ++ path_to tree.width l (index_of tree.depth tree.width directory)) is_level
    ∙ ap (λ (i : ℕ). tree.anchor ++ path_to tree.width level i) is_index

pub first_stands : FirstLevelStands
first_stands tree directory limits below =
    let inside : directory < tree.width ^ (0 + 1) = omega (arith, first_power tree.width) in
    let some : 0 < tree.depth = limits.some_levels in
    let at = at_index tree.depth tree.width 0 directory some inside in
    let same : directories_to tree.width 0 + directory ≡ directory = omega arith in
    let level : level_of tree.depth tree.width directory ≡ 1 = subst (λ (n : ℕ). level_of tree.depth tree.width n ≡ 1) same at.0 in
    let index : index_of tree.depth tree.width directory ≡ directory = subst (λ (n : ℕ). index_of tree.depth tree.width n ≡ directory) same at.1 in
    name_at tree directory 1 directory level index ∙ ap (λ (t : List ℕ). tree.anchor ++ t) (path_step tree.width 0 directory)
    ∙ ap (λ (n : ℕ). tree.anchor ++ folder 1 n) (mod-eq_of_lt below)

parent_at : (tree : Shape) (directory m : ℕ) → IsTree tree → m + 1 < tree.depth → directories_to tree.width (m + 1) ≤ directory → directory < directories_to tree.width (m + 1 + 1) → HasParent tree directory
parent_at tree directory m limits inside past below =
    let depth : ℕ = tree.depth in
    let width : ℕ = tree.width in
    let index : ℕ = directory - directories_to width (m + 1) in
    let at = at_level depth width directory (m + 1) inside past below in
    let within : index / width < width ^ (m + 1) = div_below index width (width ^ (m + 1)) limits.some_width (omega (arith, at.inside, power_more width (m + 1))) in
    let higher : m < depth = omega arith in
    let parent : ℕ = directories_to width m + index / width in
    let above = at_index depth width m (index / width) higher within in
    let named : dir_name tree parent ≡ tree.anchor ++ path_to width (m + 1) (index / width) = name_at tree parent (m + 1) (index / width) above.0 above.1 in
    record {
      parent = parent;
      before = omega (arith, within, past, directories_more width m);
      level = at.level ∙ ap (λ (n : ℕ). n + 1) (sym above.0);
      name = name_at tree directory (m + 1 + 1) index at.level at.index ∙ ap (λ (t : List ℕ). tree.anchor ++ t) (path_step width (m + 1) index)
          ∙ sym (append_assoc tree.anchor (path_to width (m + 1) (index / width)) (folder (m + 1 + 1) (index % width)))
          ∙ ap (λ (t : List ℕ). t ++ folder (m + 1 + 1) (index % width)) (sym named)
          ∙ ap (λ (n : ℕ). dir_name tree parent ++ folder n (index % width)) (sym at.level)
          ∙ ap (λ (n : ℕ). dir_name tree parent ++ folder (level_of depth width directory) (n % width)) (sym at.index);
    }

pub parents : DirectoriesHaveParents
parents tree directory limits wide below =
    let found = between tree.depth tree.width directory below in
    let behind_first : directories_to tree.width (0 + 1) ≡ directories_to tree.width 0 + tree.width ^ (0 + 1) = directories_more tree.width 0 in
    go tree directory found.before limits wide found.inside found.past found.below
  where
    go : (tree : Shape) (directory before : ℕ) → IsTree tree → tree.width ≤ directory → before < tree.depth → directories_to tree.width before ≤ directory → directory < directories_to tree.width (before + 1) → HasParent tree directory
    go tree directory zero limits wide inside past below = absurd (omega (arith, below, wide, directories_more tree.width 0, first_power tree.width))
    go tree directory (suc m) limits wide inside past below =
        let next : suc m ≡ m + 1 = omega arith in
        parent_at tree directory m limits (omega arith) (subst (λ (n : ℕ). directories_to tree.width n ≤ directory) next past)
        (subst (λ (n : ℕ). directory < directories_to tree.width (n + 1)) next below)

-- the directories before the first with files, and those with files, are all
pub first_and_holders : (d : Distribution) (depth width : ℕ) → 0 < depth → first_of d depth width + holders_of d depth width ≡ directories_to width depth
first_and_holders distribution.Bottom depth width some =
    let last : depth - 1 + 1 ≡ depth = omega arith in
    let all : directories_to width (depth - 1 + 1) ≡ directories_to width depth = ap (directories_to width) last in
    let power : width ^ (depth - 1 + 1) ≡ width ^ depth = ap (λ (l : ℕ). width ^ l) last in
    omega (arith, directories_more width (depth - 1), all, power)
first_and_holders distribution.All depth width some = omega arith

in_holders : (tree : Shape) (file : ℕ) → IsTree tree → file < files_of tree → file / tree.files < holders_of tree.distribution tree.depth tree.width
in_holders tree file limits inside = div_below file tree.files (holders_of tree.distribution tree.depth tree.width) limits.some_files inside

pub holder_inside : (tree : Shape) (file : ℕ) → IsTree tree → file < files_of tree → holder_of tree file < directories_of tree
holder_inside tree file limits inside =
    omega (arith, in_holders tree file limits inside, first_and_holders tree.distribution tree.depth tree.width limits.some_levels)

bottom_level : (tree : Shape) (file : ℕ) → IsTree tree → file < files_of tree → tree.distribution ≡ distribution.Bottom → level_of tree.depth tree.width (holder_of tree file) ≡ tree.depth
bottom_level tree file limits inside is =
    let last : tree.depth - 1 + 1 ≡ tree.depth = omega (arith, limits.some_levels) in
    let first : first_of tree.distribution tree.depth tree.width ≡ directories_to tree.width (tree.depth - 1) = ap (λ (d : Distribution). first_of d tree.depth tree.width) is in
    let holders : holders_of tree.distribution tree.depth tree.width ≡ tree.width ^ tree.depth = ap (λ (d : Distribution). holders_of d tree.depth tree.width) is in
    let power : tree.width ^ (tree.depth - 1 + 1) ≡ tree.width ^ tree.depth = ap (λ (l : ℕ). tree.width ^ l) last in
    let within : file / tree.files < tree.width ^ (tree.depth - 1 + 1) = omega (arith, in_holders tree file limits inside, holders, power) in
    let at = at_index tree.depth tree.width (tree.depth - 1) (file / tree.files) (omega (arith, limits.some_levels)) within in
    ap (λ (n : ℕ). level_of tree.depth tree.width (n + file / tree.files)) first ∙ at.0 ∙ last

pub held : FilesAreHeld
held tree file limits inside =
    let first : ℕ = first_of tree.distribution tree.depth tree.width in
    let behind : first + file / tree.files - first ≡ file / tree.files = omega arith in
    record {
      directory = holder_inside tree file limits inside;
      bottom = λ is. bottom_level tree file limits inside is;
      number = sym (div-add-mod' file tree.files) ∙ ap (λ (n : ℕ). n * tree.files + file % tree.files) (sym behind);
    }

pub full : HoldersAreFull
full tree directory n limits past below inside =
    let first : ℕ = first_of tree.distribution tree.depth tree.width in
    let place : directory - first < holders_of tree.distribution tree.depth tree.width =
    omega (arith, past, below, first_and_holders tree.distribution tree.depth tree.width limits.some_levels) in
    let turned : tree.files * holders_of tree.distribution tree.depth tree.width ≡ files_of tree = mul_turned tree.files (holders_of tree.distribution tree.depth tree.width) in
    let file : ℕ = (directory - first) * tree.files + n in
    let there : file < tree.files * holders_of tree.distribution tree.depth tree.width = mul-add-lt (directory - first) tree.files n (holders_of tree.distribution tree.depth tree.width) place inside in
    let own : first + (directory - first) ≡ directory = omega (arith, past) in
    (file, subst (λ (m : ℕ). file < m) turned there, ap (λ (m : ℕ). first + m) (div-mul-add (directory - first) tree.files n inside) ∙ own, mod-mul-add (directory - first) tree.files n inside)
  where
    mul_turned : (a b : ℕ) → a * b ≡ b * a
    mul_turned a b = omega arith

-- a level more, in a loop that looks for a directory's
pub record IsLevel (width level before many : ℕ) : Type 0 where
  pub power : many ≡ width ^ (level + 1)
  pub all : before + many ≡ directories_to width (level + 1)
  pub few : before + many ≤ 65536

pub level_more : (depth width level before many wide : ℕ) → level < depth → directories_to width depth ≤ 65536 → before ≡ directories_to width level → many ≡ width ^ level → wide ≡ width
    → IsLevel width level before (many * wide)
level_more depth width level before many wide inside few is_before is_many is_wide =
    let power : many * wide ≡ width ^ (level + 1) = ap (λ (n : ℕ). n * wide) is_many ∙ ap (λ (n : ℕ). width ^ level * n) is_wide ∙ sym (power_more width level) in
    let all : before + many * wide ≡ directories_to width (level + 1) = ap (λ (n : ℕ). n + many * wide) is_before ∙ ap (λ (n : ℕ). directories_to width level + n) power ∙ sym (directories_more width level) in
    record { power = power; all = all; few = omega (arith, all, few, directories_le width (level + 1) depth (omega arith)) }
