-- What a tree keeps, and what its calls answer.
use Rattle.std.proofs.Common.{◌≡◌, ℕ, ◌+◌, ◌-◌, ◌*◌, ◌<◌, ◌≤◌, ◌^◌, All, Bool, true, false, not, ◌||◌, ◌==◌, None, List, length, refl, sym, ap, subst, ◌∙◌, arith}
use Rattle.std.specs.List.{list_any}
use Rattle.std.proofs.lemmas.Bool.Decides.{nat_tests}
use Rattle.std.proofs.lemmas.Bool.{eq-eqb}
use Rattle.std.proofs.lemmas.List.FromFn.{length-map-range_with_len}
use Rattle.anchor_tree.specs.declared.distribution.Distribution.{Distribution}
use Rattle.anchor_tree.specs.declared.distribution.Distribution.TheVariants as distribution
use Rattle.anchor_tree.specs.Shape.{Shape, directories_of, directories_to, files_of, first_of, holders_of, hundred_of, percents_of, size_at, with_files}
use Rattle.anchor_tree.specs.Blocks.{IsBlock, blocks_before, blocks_in, blocks_of}
use Rattle.anchor_tree.specs.Limits.{IsTree, Keeps, held, is_empty, is_small, refusal}
use Rattle.anchor_tree.proofs.Cycles.{blocks_over, file_inside, place_before, some_blocks}
use Rattle.anchor_tree.proofs.Held.{held_mul}
use Rattle.anchor_tree.proofs.Levels.{directories_le, first_level, level_le}
use Rattle.anchor_tree.proofs.Placed.{first_and_holders}

-- no more than 65,536 directories in each directory
pub narrow : (tree : Shape) → IsTree tree → tree.width ≤ 65536
narrow tree limits =
    omega (arith, first_level tree.width, directories_le tree.width (0 + 1) tree.depth limits.some_levels, limits.few_directories)

-- the directories with files and those before them
pub holders_first : (d : Distribution) (depth width bottom all many : ℕ) → 0 < depth → bottom ≡ width ^ depth → all ≡ directories_to width depth → many ≡ with_files d bottom all
    → first_of d depth width + many ≡ directories_to width depth
holders_first d depth width bottom all many some is_bottom is_all is_many =
    let same : many ≡ holders_of d depth width = is_many ∙ ap (λ (n : ℕ). with_files d n all) is_bottom ∙ ap (λ (n : ℕ). with_files d (width ^ depth) n) is_all in
    omega (arith, same, first_and_holders d depth width some)

-- a place in a file is a block of the tree
pub block_inside : (tree : Shape) (slice : List ℕ) (block_size size file place before at : ℕ) → slice ≡ tree.hundred → size ≡ block_size → file < files_of tree → place < blocks_in tree.hundred block_size file
    → before ≡ blocks_before slice size file → at ≡ place → (before ≡ blocks_before tree.hundred block_size file) × (before + at < blocks_of tree block_size)
block_inside tree slice block_size size file place before at is_slice is_size inside within is_before is_at =
    let same : before ≡ blocks_before tree.hundred block_size file =
    is_before ∙ ap (λ (xs : List ℕ). blocks_before xs size file) is_slice ∙ ap (λ (n : ℕ). blocks_before tree.hundred n file) is_size in
    (same, omega (arith, same, is_at, place_before tree.hundred block_size file place (files_of tree) within inside))

-- the place of a block is one in a file of the tree
pub block_placed : (tree : Shape) (slice : List ℕ) (block_size size block file place : ℕ) → slice ≡ tree.hundred → size ≡ block_size → block < blocks_of tree block_size → place < blocks_in slice size file
    → block ≡ blocks_before slice size file + place → IsBlock tree block_size file place block
block_placed tree slice block_size size block file place is_slice is_size below within is_block =
    let number : block ≡ blocks_before tree.hundred block_size file + place =
    is_block ∙ ap (λ (xs : List ℕ). blocks_before xs size file + place) is_slice ∙ ap (λ (n : ℕ). blocks_before tree.hundred n file + place) is_size in
    let there : place < blocks_in tree.hundred block_size file =
    subst (λ (n : ℕ). place < blocks_in tree.hundred n file) is_size (subst (λ (xs : List ℕ). place < blocks_in xs size file) is_slice within) in
    record { in_tree = file_inside tree.hundred block_size (files_of tree) file place block number below; in_file = there; number = number }

pub some_blocks_in : (tree : Shape) (slice : List ℕ) (block_size size block : ℕ) → slice ≡ tree.hundred → size ≡ block_size → length tree.hundred ≡ 100 → block < blocks_of tree block_size → 0 < blocks_over size slice
some_blocks_in tree slice block_size size block is_slice is_size whole below =
    subst (λ (xs : List ℕ). 0 < blocks_over size xs) (sym is_slice) (subst (λ (n : ℕ). 0 < blocks_over n tree.hundred) (sym is_size) (some_blocks tree.hundred block_size (files_of tree) block whole below))

-- what isn't empty
pub record IsSome (depth width files : ℕ) : Type 0 where
  pub some_levels : 0 < depth
  pub some_width : 0 < width
  pub some_files : 0 < files

or_first : (a b : Bool) → (a || b) ≡ false → a ≡ false
or_first true b e = cc
or_first false b e = refl

or_second : (a b : Bool) → (a || b) ≡ false → b ≡ false
or_second true b e = cc
or_second false b e = e

not_zero : (n : ℕ) → (n == 0) ≡ false → 0 < n
not_zero n e = grind (arith, nat_tests)

pub not_empty : (depth width files : ℕ) (sizes : List (ℕ × ℕ)) → is_empty depth width files sizes ≡ false → IsSome depth width files
not_empty depth width files sizes e =
    let zero_size : Bool = list_any (λ (size : ℕ × ℕ). size.0 == 0) sizes in
    let no_sizes : Bool = length sizes == 0 in
    let but_sizes : (depth == 0 || width == 0 || files == 0 || no_sizes) ≡ false = or_first (depth == 0 || width == 0 || files == 0 || no_sizes) zero_size e in
    let numbers : (depth == 0 || width == 0 || files == 0) ≡ false = or_first (depth == 0 || width == 0 || files == 0) no_sizes but_sizes in
    let levels : (depth == 0 || width == 0) ≡ false = or_first (depth == 0 || width == 0) (files == 0) numbers in
    record {
      some_levels = not_zero depth (or_first (depth == 0) (width == 0) levels);
      some_width = not_zero width (or_second (depth == 0) (width == 0) levels);
      some_files = not_zero files (or_second (depth == 0 || width == 0) (files == 0) numbers);
    }

-- a number that is held is small where it is
pub held_few : (n k : ℕ) → held n ≤ k → k < 2 ^ 64 - 1 → n ≤ k
held_few n k few small = omega arith

-- how many files a tree has, held
pub files_held : (d : Distribution) (depth width files bottom all many product : ℕ) → 0 < files → bottom ≡ held (width ^ depth) → all ≡ held (directories_to width depth) → many ≡ with_files d bottom all
    → product ≡ held (many * files) → product ≡ held (holders_of d depth width * files)
files_held d depth width files bottom all many product some is_bottom is_all is_many is_product =
    let same : many ≡ held (holders_of d depth width) = is_many ∙ ap (λ (n : ℕ). with_files d n all) is_bottom ∙ ap (λ (n : ℕ). with_files d (held (width ^ depth)) n) is_all ∙ go d (width ^ depth) (directories_to width depth) in
    is_product ∙ ap (λ (n : ℕ). held (n * files)) same ∙ held_mul (holders_of d depth width) files some
  where
    go : (d : Distribution) (a b : ℕ) → with_files d (held a) (held b) ≡ held (with_files d a b)
    go distribution.Bottom a b = refl
    go distribution.All a b = refl

-- the tree of numbers that aren't refused
pub tree_of : (tree : Shape) (sizes : List (ℕ × ℕ)) (directories bottom all : ℕ) → is_empty tree.depth tree.width tree.files sizes ≡ false → directories ≡ held (directories_of tree) → bottom ≡ held (tree.width ^ tree.depth)
    → all ≡ held (files_of tree) → directories ≤ 65536 → all ≤ 1048576 → tree.hundred ≡ hundred_of sizes → All (λ (size : ℕ). 0 < size) tree.hundred → Keeps tree directories bottom
tree_of tree sizes directories bottom all some is_directories is_bottom is_all few_directories few_files is_hundred some_bytes =
    let is_some = not_empty tree.depth tree.width tree.files sizes some in
    let few : directories_of tree ≤ 65536 = held_few (directories_of tree) 65536 (omega (arith, is_directories, few_directories)) (omega arith) in
    let files : files_of tree ≤ 1048576 = held_few (files_of tree) 1048576 (omega (arith, is_all, few_files)) (omega arith) in
    let level : tree.width ^ tree.depth ≤ directories_of tree = level_le tree.width tree.depth is_some.some_levels in
    let exact : (n : ℕ) → n ≤ 65536 → held n ≡ n = λ n h. omega arith in
    record {
      limits = record {
        some_levels = is_some.some_levels;
        some_width = is_some.some_width;
        some_files = is_some.some_files;
        few_directories = few;
        few_files = files;
        hundred = ap length is_hundred ∙ length-map-range_with_len (size_at sizes) 0 100;
        some_bytes = some_bytes;
      };
      directories = is_directories ∙ exact (directories_of tree) few;
      last_level = is_bottom ∙ exact (tree.width ^ tree.depth) (omega (arith, few, level));
    }

small_is : (directories all : ℕ) → directories ≤ 65536 → all ≤ 1048576 → is_small directories all ≡ true
small_is directories all few many = grind (arith, nat_tests)

-- no refusal
pub not_refused : (depth width files : ℕ) (sizes : List (ℕ × ℕ)) (d : Distribution) → is_empty depth width files sizes ≡ false → percents_of sizes ≡ 100 → directories_to width depth ≤ 65536
    → holders_of d depth width * files ≤ 1048576 → None ≡ refusal depth width files sizes d
not_refused depth width files sizes d some whole few many =
    let percents : (percents_of sizes == 100) ≡ true = eq-eqb (percents_of sizes) 100 whole in
    let small : is_small (directories_to width depth) (holders_of d depth width * files) ≡ true = small_is (directories_to width depth) (holders_of d depth width * files) few many in
    rw (some, percents, small) refl

-- what follows where a tree's numbers were tested
pub record IsMade (tree : Shape) (sizes : List (ℕ × ℕ)) (directories bottom : ℕ) : Type 0 where
  pub keeps : Keeps tree directories bottom
  pub small : bottom ≤ 65536
  pub hundred : tree.hundred ≡ hundred_of sizes
  pub allowed : None ≡ refusal tree.depth tree.width tree.files sizes tree.distribution

pub made : (tree : Shape) (sizes one two three : List (ℕ × ℕ)) (empty : Bool) (percents directories bottom many files all : ℕ) → one ≡ sizes → empty ≡ is_empty tree.depth tree.width tree.files one → empty ≡ false
    → two ≡ sizes → percents ≡ held (percents_of two) → percents ≡ 100 → directories ≡ held (directories_of tree) → bottom ≡ held (tree.width ^ tree.depth)
    → many ≡ with_files tree.distribution bottom directories → files ≡ tree.files → all ≡ held (many * files) → directories ≤ 65536 → all ≤ 1048576
    → three ≡ sizes → tree.hundred ≡ hundred_of three → All (λ (size : ℕ). 0 < size) tree.hundred → IsMade tree sizes directories bottom
made tree sizes one two three empty percents directories bottom many files all is_one is_empty_one not is_two is_percents whole is_directories is_bottom is_many is_files is_all few_directories few_files is_three is_hundred some_bytes =
    let some : is_empty tree.depth tree.width tree.files sizes ≡ false = ap (is_empty tree.depth tree.width tree.files) (sym is_one) ∙ sym is_empty_one ∙ not in
    let parts = not_empty tree.depth tree.width tree.files sizes some in
    let sum : held (percents_of sizes) ≡ 100 = ap (λ (s : List (ℕ × ℕ)). held (percents_of s)) (sym is_two) ∙ sym is_percents ∙ whole in
    let all_files : all ≡ held (files_of tree) =
    files_held tree.distribution tree.depth tree.width tree.files bottom directories many all parts.some_files is_bottom is_directories is_many (is_all ∙ ap (λ (n : ℕ). held (many * n)) is_files) in
    let hundred : tree.hundred ≡ hundred_of sizes = is_hundred ∙ ap hundred_of is_three in
    let keeps = tree_of tree sizes directories bottom all some is_directories is_bottom all_files few_directories few_files hundred some_bytes in
    record {
      keeps = keeps;
      small = omega (arith, keeps.last_level, level_le tree.width tree.depth parts.some_levels, keeps.limits.few_directories);
      hundred = hundred;
      allowed = not_refused tree.depth tree.width tree.files sizes tree.distribution some (held_100 (percents_of sizes) sum) keeps.limits.few_directories keeps.limits.few_files;
    }
  where
    held_100 : (n : ℕ) → held n ≡ 100 → n ≡ 100
    held_100 n e = omega arith
