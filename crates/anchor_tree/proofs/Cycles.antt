-- Blocks of files whose sizes repeat after a hundred.
use Rattle.std.proofs.Common.{◌≡◌, ℕ, zero, suc, ◌+◌, ◌-◌, ◌*◌, ◌/◌, ◌%◌, ◌<◌, ◌≤◌, List, get_or, length, map, take, sym, ap, subst, ◌∙◌, arith, inl, inr}
use Rattle.std.specs.List.{range_with_len, sum, sum_by}
use Rattle.std.proofs.Math.Nat.{div-add-mod'}
use Rattle.std.proofs.lemmas.Bool.{cases_lt}
use Rattle.std.proofs.lemmas.List.{take_all}
use Rattle.std.proofs.lemmas.List.FromFn.{map-range_with_len_more}
use Rattle.std.proofs.lemmas.List.Sums.{sum_by-take-le, sum_by_more, sum_by_push}
use Rattle.anchor_tree.specs.Blocks.{blocks_before, blocks_in}

-- the blocks of files of these sizes
abbrev pub blocks_over : ℕ → List ℕ → ℕ
blocks_over block_size sizes = sum_by (λ (size : ℕ). size / block_size) sizes

-- one file more
pub before_more : (hundred : List ℕ) (block_size file : ℕ) → blocks_before hundred block_size (file + 1) ≡ blocks_before hundred block_size file + blocks_in hundred block_size file
before_more hundred block_size file =
    let f : ℕ → ℕ = blocks_in hundred block_size in
    ap sum (map-range_with_len_more f 0 file file (omega arith)) ∙ sum_by_push (λ (x : ℕ). x) (map f (range_with_len 0 file)) (f file)

abbrev step_at : List ℕ → ℕ → ℕ → ℕ → ℕ
step_at hundred block_size rounds rest = rounds * blocks_over block_size hundred + blocks_over block_size (take rest hundred)

-- one file more in a hundred
step_inside : (hundred : List ℕ) (block_size rounds rest : ℕ) → rest < length hundred
    → step_at hundred block_size rounds (rest + 1) ≡ step_at hundred block_size rounds rest + get_or hundred rest 0 / block_size
step_inside hundred block_size rounds rest inside =
    omega (arith, sum_by_more (λ (size : ℕ). size / block_size) hundred rest 0 inside)

-- a hundred more
step_round : (hundred : List ℕ) (block_size rounds : ℕ) → step_at hundred block_size rounds (length hundred) ≡ step_at hundred block_size (rounds + 1) 0
step_round hundred block_size rounds =
    let whole : take (length hundred) hundred ≡ hundred = take_all (length hundred) hundred (omega arith) in
    ap (λ (l : List ℕ). rounds * blocks_over block_size hundred + blocks_over block_size l) whole
    ∙ row_more rounds (blocks_over block_size hundred)
  where
    row_more : (rounds many : ℕ) → rounds * many + many ≡ (rounds + 1) * many + 0
    row_more rounds many = omega arith

pub before_is : (hundred : List ℕ) (block_size file : ℕ) → length hundred ≡ 100
    → blocks_before hundred block_size file ≡ file / 100 * blocks_over block_size hundred + blocks_over block_size (take (file % 100) hundred)
before_is hundred block_size zero whole = omega arith
before_is hundred block_size (suc file) whole =
    let so_far : blocks_before hundred block_size file ≡ step_at hundred block_size (file / 100) (file % 100) = before_is hundred block_size file whole in
    let next : suc file ≡ file + 1 = omega arith in
    let added : blocks_before hundred block_size (suc file) ≡ step_at hundred block_size (file / 100) (file % 100 + 1) =
    ap (blocks_before hundred block_size) next ∙ before_more hundred block_size file ∙ ap (λ (n : ℕ). n + blocks_in hundred block_size file) so_far
    ∙ sym (step_inside hundred block_size (file / 100) (file % 100) (omega arith)) in
    elim (cases_lt (file % 100 + 1) 100) [
      | inl inside ↦
          let rounds : file / 100 ≡ suc file / 100 = omega arith in
          let rest : file % 100 + 1 ≡ suc file % 100 = omega arith in
          added ∙ ap (λ (n : ℕ). step_at hundred block_size n (file % 100 + 1)) rounds ∙ ap (step_at hundred block_size (suc file / 100)) rest
      | inr past ↦
          let full : file % 100 + 1 ≡ length hundred = omega arith in
          let rounds : file / 100 + 1 ≡ suc file / 100 = omega arith in
          let rest : 0 ≡ suc file % 100 = omega arith in
          added ∙ ap (step_at hundred block_size (file / 100)) full ∙ step_round hundred block_size (file / 100)
          ∙ ap (λ (n : ℕ). step_at hundred block_size n 0) rounds ∙ ap (step_at hundred block_size (suc file / 100)) rest
    ]

-- earlier files have no more blocks before them
before_grow : (hundred : List ℕ) (block_size file more : ℕ) → blocks_before hundred block_size file ≤ blocks_before hundred block_size (file + more)
before_grow hundred block_size file zero =
    let same : file + 0 ≡ file = omega arith in
    subst (λ (n : ℕ). blocks_before hundred block_size file ≤ blocks_before hundred block_size n) (sym same) (omega arith)
before_grow hundred block_size file (suc more) =
    let same : file + suc more ≡ file + more + 1 = omega arith in
    let so_far : blocks_before hundred block_size file ≤ blocks_before hundred block_size (file + more) = before_grow hundred block_size file more in
    subst (λ (n : ℕ). blocks_before hundred block_size file ≤ blocks_before hundred block_size n) (sym same) (omega (arith, before_more hundred block_size (file + more)))

pub before_le : (hundred : List ℕ) (block_size file other : ℕ) → file ≤ other → blocks_before hundred block_size file ≤ blocks_before hundred block_size other
before_le hundred block_size file other few =
    let same : file + (other - file) ≡ other = omega arith in
    subst (λ (n : ℕ). blocks_before hundred block_size file ≤ blocks_before hundred block_size n) same (before_grow hundred block_size file (other - file))

-- a block that lies in a file, and one in a later file
pub place_before : (hundred : List ℕ) (block_size file place other : ℕ) → place < blocks_in hundred block_size file → file < other
    → blocks_before hundred block_size file + place < blocks_before hundred block_size other
place_before hundred block_size file place other inside later =
    omega (arith, before_more hundred block_size file, before_le hundred block_size (file + 1) other (omega arith))

-- a file of a hundred behind so many hundreds
pub round_before : (hundred : List ℕ) (block_size rounds file : ℕ) → length hundred ≡ 100 → file < 100
    → blocks_before hundred block_size (rounds * 100 + file) ≡ rounds * blocks_over block_size hundred + blocks_over block_size (take file hundred)
round_before hundred block_size rounds file whole inside =
    let round : (rounds * 100 + file) / 100 ≡ rounds = omega arith in
    let rest : (rounds * 100 + file) % 100 ≡ file = omega arith in
    before_is hundred block_size (rounds * 100 + file) whole ∙ ap (λ (n : ℕ). step_at hundred block_size n ((rounds * 100 + file) % 100)) round
    ∙ ap (step_at hundred block_size rounds) rest

pub round_in : (hundred : List ℕ) (block_size rounds file : ℕ) → file < 100 → blocks_in hundred block_size (rounds * 100 + file) ≡ get_or hundred file 0 / block_size
round_in hundred block_size rounds file inside =
    let rest : (rounds * 100 + file) % 100 ≡ file = omega arith in
    ap (λ (n : ℕ). get_or hundred n 0 / block_size) rest

-- some block is that of a file
pub found : (hundred : List ℕ) (block_size files block : ℕ) → block < blocks_before hundred block_size files
    → (file : ℕ) × (place : ℕ) × (file < files) × (place < blocks_in hundred block_size file) × (block ≡ blocks_before hundred block_size file + place)
found hundred block_size zero block below = absurd (omega arith)
found hundred block_size (suc files) block below = elim (cases_lt block (blocks_before hundred block_size files)) [
  | inl within ↦ let earlier = found hundred block_size files block within in (earlier.0, earlier.1, omega (arith, earlier.2), earlier.3, earlier.4)
  | inr past ↦
      let next : suc files ≡ files + 1 = omega arith in
      let more : block < blocks_before hundred block_size (files + 1) = subst (λ (n : ℕ). block < blocks_before hundred block_size n) next below in
      (files, block - blocks_before hundred block_size files, omega arith, omega (arith, more, past, before_more hundred block_size files), omega (arith, past))
]

pub before_from : (hundred : List ℕ) (block_size file rounds whole part : ℕ) → length hundred ≡ 100 → rounds ≡ file / 100 → whole ≡ blocks_over block_size hundred
    → part ≡ blocks_over block_size (take (file % 100) hundred) → rounds * whole + part ≡ blocks_before hundred block_size file
before_from hundred block_size file rounds whole part full is_rounds is_whole is_part =
    ap (λ (n : ℕ). n * whole + part) is_rounds ∙ ap (λ (n : ℕ). file / 100 * n + part) is_whole ∙ ap (λ (n : ℕ). file / 100 * blocks_over block_size hundred + n) is_part
    ∙ sym (before_is hundred block_size file full)

place_in_round : (hundred : List ℕ) (block_size block all file place : ℕ) → length hundred ≡ 100 → all ≡ blocks_over block_size hundred → file < 100
    → block % all ≡ blocks_over block_size (take file hundred) + place → block ≡ blocks_before hundred block_size (block / all * 100 + file) + place
place_in_round hundred block_size block all file place full is_all inside is_place =
    let rounds : block / all * all ≡ block / all * blocks_over block_size hundred = ap (λ (n : ℕ). block / all * n) is_all in
    omega (arith, div-add-mod' block all, rounds, is_place, round_before hundred block_size (block / all) file full inside)

pub place_from : (hundred : List ℕ) (block_size block wide again all file place : ℕ) → length hundred ≡ 100 → wide ≡ block → again ≡ block → all ≡ blocks_over block_size hundred → file < 100
    → again % all ≡ blocks_over block_size (take file hundred) + place → block ≡ blocks_before hundred block_size (wide / all * 100 + file) + place
place_from hundred block_size block wide again all file place full is_wide is_again is_all inside is_place =
    place_in_round hundred block_size block all file place full is_all inside (ap (λ (n : ℕ). n % all) (sym is_again) ∙ is_place)
    ∙ ap (λ (n : ℕ). blocks_before hundred block_size (n / all * 100 + file) + place) (sym is_wide)

-- a tree with a block has one in its first hundred files
pub some_blocks : (hundred : List ℕ) (block_size files block : ℕ) → length hundred ≡ 100 → block < blocks_before hundred block_size files → 0 < blocks_over block_size hundred
some_blocks hundred block_size files block whole below = elim (cases_lt 0 (blocks_over block_size hundred)) [
  | inl some ↦ some
  | inr none ↦
      let all : blocks_over block_size hundred ≡ 0 = omega (arith, none) in
      let rounds : files / 100 * blocks_over block_size hundred ≡ files / 100 * 0 = ap (λ (n : ℕ). files / 100 * n) all in
      absurd (omega (arith, rounds, before_is hundred block_size files whole, below, none, sum_by-take-le (λ (size : ℕ). size / block_size) hundred (files % 100)))
]

-- a file with a block of the tree is one of the tree's
pub file_inside : (hundred : List ℕ) (block_size files file place block : ℕ) → block ≡ blocks_before hundred block_size file + place → block < blocks_before hundred block_size files → file < files
file_inside hundred block_size files file place block is below = elim (cases_lt file files) [
  | inl inside ↦ inside
  | inr past ↦ absurd (omega (arith, is, below, before_le hundred block_size files file past))
]
