-- Names that differ.
use Rattle.std.proofs.Common.{◌≡◌, ℕ, zero, suc, ◌+◌, ◌-◌, ◌*◌, ◌/◌, ◌%◌, ◌<◌, ◌≤◌, ◌^◌, List, ◌∷◌, ◌++◌, refl, sym, ap, ◌∙◌, arith}
use Rattle.std.proofs.Math.Nat.{div-add-mod', mod-le, mod-lt, pow-zero}
use Rattle.std.proofs.lemmas.List.{append_assoc, append_cancel_left}
use Rattle.std.proofs.lemmas.Nat.{div_below}
use Rattle.anchor_tree.specs.Shape.{Shape, directories_of, directories_to, files_of}
use Rattle.anchor_tree.specs.Limits.{IsTree}
use Rattle.anchor_tree.specs.Names.{dir_name, folder, holder_of, index_of, level_of, path_to}
use Rattle.anchor_tree.specs.Laws.{DirectoriesDiffer, FilesAreNoDirectories, FilesDiffer}
use Rattle.anchor_tree.proofs.Held.{power_more}
use Rattle.anchor_tree.proofs.Levels.{levels_le}
use Rattle.anchor_tree.proofs.Paths.{path_step}
use Rattle.anchor_tree.proofs.Placed.{holder_inside, placed}
use Rattle.anchor_tree.proofs.Trees.{narrow}
use Rattle.anchor_tree.proofs.Texts.{folder_digit, folder_no_slash, folder_text, last_slash, leaf_no_folder, leaf_no_slash, leaf_number, leaf_text, nil_slash}

-- an index without its last digit
shorter : (width l index : ℕ) → 0 < width → index < width ^ suc l → index / width < width ^ l
shorter width l index some below =
    let next : suc l ≡ l + 1 = omega arith in
    let more : width ^ suc l ≡ width ^ l * width = ap (λ (k : ℕ). width ^ k) next ∙ power_more width l in
    div_below index width (width ^ l) some (omega (arith, below, more))

path_next : (width l index : ℕ) → path_to width (suc l) index ≡ path_to width l (index / width) ++ 47 ∷ folder_text (suc l) (index % width)
path_next width l index =
    let next : suc l ≡ l + 1 = omega arith in
    ap (λ (k : ℕ). path_to width k index) next ∙ path_step width l index ∙ ap (λ (k : ℕ). path_to width l (index / width) ++ folder k (index % width)) (sym next)

-- directories of two places have two paths
paths_differ : (width l m index other : ℕ) → 0 < width → width ≤ 65536 → l ≤ 65536 → m ≤ 65536 → index < width ^ l → other < width ^ m → path_to width l index ≡ path_to width m other
    → (l ≡ m) × (index ≡ other)
paths_differ width zero zero index other some narrow few_l few_m below_i below_o e = (refl, omega (arith, pow-zero width))
paths_differ width zero (suc m) index other some narrow few_l few_m below_i below_o e =
    absurd (nil_slash (path_to width m (other / width)) (folder_text (suc m) (other % width)) (e ∙ path_next width m other))
paths_differ width (suc l) zero index other some narrow few_l few_m below_i below_o e =
    absurd (nil_slash (path_to width l (index / width)) (folder_text (suc l) (index % width)) (sym e ∙ path_next width l index))
paths_differ width (suc l) (suc m) index other some narrow few_l few_m below_i below_o e =
    let digit_i : index % width < width = mod-lt index some in
    let digit_o : other % width < width = mod-lt other some in
    let small_i : index % width + 1 < 2 ^ 64 = omega arith in
    let small_o : other % width + 1 < 2 ^ 64 = omega arith in
    let parts = last_slash (path_to width l (index / width)) (path_to width m (other / width)) (folder_text (suc l) (index % width)) (folder_text (suc m) (other % width))
    (folder_no_slash (suc l) (index % width) (omega arith) small_i) (folder_no_slash (suc m) (other % width) (omega arith) small_o)
    (sym (path_next width l index) ∙ e ∙ path_next width m other) in
    let above = paths_differ width l m (index / width) (other / width) some narrow (omega arith) (omega arith) (shorter width l index some below_i) (shorter width m other some below_o) parts.0 in
    let level : suc m ≡ suc l = ap suc (sym above.0) in
    let digits : index % width ≡ other % width =
    folder_digit (suc l) (index % width) (other % width) small_i small_o (parts.1 ∙ ap (λ (k : ℕ). folder_text k (other % width)) level) in
    let whole : index / width * width + index % width ≡ other / width * width + other % width =
    ap (λ (n : ℕ). n * width + index % width) above.1 ∙ ap (λ (n : ℕ). other / width * width + n) digits in
    (sym level, sym (div-add-mod' index width) ∙ whole ∙ div-add-mod' other width)

pub directories_differ : DirectoriesDiffer
directories_differ tree directory other limits inside_d inside_o e =
    let d = placed tree directory limits inside_d in
    let o = placed tree other limits inside_o in
    let shallow : tree.depth ≤ directories_of tree = levels_le tree.width tree.depth limits.some_width in
    let level_d : ℕ = level_of tree.depth tree.width directory in
    let level_o : ℕ = level_of tree.depth tree.width other in
    let few_d : level_d ≤ 65536 = omega (arith, d.last_level, limits.few_directories, shallow) in
    let few_o : level_o ≤ 65536 = omega (arith, o.last_level, limits.few_directories, shallow) in
    let paths = append_cancel_left tree.anchor (path_to tree.width level_d (index_of tree.depth tree.width directory)) (path_to tree.width level_o (index_of tree.depth tree.width other)) e in
    let same = paths_differ tree.width level_d level_o (index_of tree.depth tree.width directory) (index_of tree.depth tree.width other) limits.some_width (narrow tree limits) few_d few_o d.index o.index paths in
    let first : directories_to tree.width (level_d - 1) ≡ directories_to tree.width (level_o - 1) = ap (λ (l : ℕ). directories_to tree.width (l - 1)) same.0 in
    omega (arith, d.number, o.number, first, same.1)

-- fewer files in a directory than 2 ^ 32
few_files : (tree : Shape) (file : ℕ) → IsTree tree → file < files_of tree → file % tree.files + 1 < 2 ^ 64
few_files tree file limits inside = omega (arith, limits.few_files, mod-le file tree.files)

pub files_differ : FilesDiffer
files_differ tree file other limits inside_f inside_o e =
    let small_f : file % tree.files + 1 < 2 ^ 64 = few_files tree file limits inside_f in
    let small_o : other % tree.files + 1 < 2 ^ 64 = few_files tree other limits inside_o in
    let parts = last_slash (dir_name tree (holder_of tree file)) (dir_name tree (holder_of tree other)) (leaf_text (file % tree.files)) (leaf_text (other % tree.files))
    (leaf_no_slash (file % tree.files) small_f) (leaf_no_slash (other % tree.files) small_o) e in
    let holders : holder_of tree file ≡ holder_of tree other =
    directories_differ tree (holder_of tree file) (holder_of tree other) limits (holder_inside tree file limits inside_f) (holder_inside tree other limits inside_o) parts.0 in
    let numbers : file % tree.files ≡ other % tree.files = leaf_number (file % tree.files) (other % tree.files) small_f small_o parts.1 in
    let rounds : file / tree.files ≡ other / tree.files = omega (arith, holders) in
    sym (div-add-mod' file tree.files) ∙ ap (λ (n : ℕ). n * tree.files + file % tree.files) rounds ∙ ap (λ (n : ℕ). other / tree.files * tree.files + n) numbers ∙ div-add-mod' other tree.files

pub no_directories : FilesAreNoDirectories
no_directories tree file directory limits inside_f inside_d e =
    let d = placed tree directory limits inside_d in
    let level : ℕ = level_of tree.depth tree.width directory in
    let index : ℕ = index_of tree.depth tree.width directory in
    let next : level ≡ suc (level - 1) = omega (arith, d.first_level) in
    let path : dir_name tree directory ≡ (tree.anchor ++ path_to tree.width (level - 1) (index / tree.width)) ++ 47 ∷ folder_text (suc (level - 1)) (index % tree.width) =
    ap (λ (l : ℕ). tree.anchor ++ path_to tree.width l index) next ∙ ap (λ (t : List ℕ). tree.anchor ++ t) (path_next tree.width (level - 1) index)
    ∙ sym (append_assoc tree.anchor (path_to tree.width (level - 1) (index / tree.width)) (47 ∷ folder_text (suc (level - 1)) (index % tree.width))) in
    let shallow : tree.depth ≤ directories_of tree = levels_le tree.width tree.depth limits.some_width in
    let few : level ≤ 65536 = omega (arith, d.last_level, limits.few_directories, shallow) in
    let digit : index % tree.width < tree.width = mod-lt index limits.some_width in
    let wide : tree.width ≤ 65536 = narrow tree limits in
    let parts = last_slash (dir_name tree (holder_of tree file)) (tree.anchor ++ path_to tree.width (level - 1) (index / tree.width)) (leaf_text (file % tree.files)) (folder_text (suc (level - 1)) (index % tree.width))
    (leaf_no_slash (file % tree.files) (few_files tree file limits inside_f)) (folder_no_slash (suc (level - 1)) (index % tree.width) (omega (arith, few)) (omega (arith, digit, wide))) (e ∙ path) in
    leaf_no_folder (file % tree.files) (suc (level - 1)) (index % tree.width) parts.1
