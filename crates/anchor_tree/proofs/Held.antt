-- Numbers held at the greatest u64.
use Rattle.std.proofs.Common.{◌≡◌, ℕ, zero, suc, ◌+◌, ◌-◌, ◌*◌, ◌^◌, ◌<◌, ◌≤◌, min, refl, sym, ap, ◌∙◌, arith, inl, inr}
use native.Mathlib.Numerals.{unary_clauses}
use Rattle.std.proofs.Math.Nat.{le-mul_of_pos_right, mul-le-mul_right, pow-le-pow_left, pow-le-pow_right, pow-succ'}
use Rattle.std.proofs.lemmas.Bool.{cases_lt}
use Rattle.anchor_tree.specs.Limits.{held}
use Rattle.anchor_tree.specs.Shape.{directories_to}
use Rattle.anchor_tree.proofs.Levels.{directories_le, directories_more, level_le}

pub held_add : (a b : ℕ) → held (held a + held b) ≡ held (a + b)
held_add a b = omega arith

pub held_small : (a b : ℕ) → b < 2 ^ 64 → held (held a + b) ≡ held (a + b)
held_small a b small = omega arith

pub held_all : (a : ℕ) → 2 ^ 64 - 1 ≤ a → held a ≡ 2 ^ 64 - 1
held_all a many = omega arith

pub held_mul : (a b : ℕ) → 0 < b → held (held a * b) ≡ held (a * b)
held_mul a b some = elim (cases_lt a (2 ^ 64)) [
  | inl few ↦ let same : held a ≡ a = omega arith in ap (λ (n : ℕ). held (n * b)) same
  | inr many ↦
      let full : held a ≡ 2 ^ 64 - 1 = omega arith in
      let greatest : ℕ = 2 ^ 64 - 1 in
      let left : 2 ^ 64 - 1 ≤ (2 ^ 64 - 1) * b = le-mul_of_pos_right (2 ^ 64 - 1) some in
      let right : (2 ^ 64 - 1) * b ≤ a * b = mul-le-mul_right b (omega arith) in
      ap (λ (n : ℕ). held (n * b)) full ∙ held_all ((2 ^ 64 - 1) * b) left ∙ sym (held_all (a * b) (omega (arith, left, right)))
]

-- a power more
pub power_more : (width i : ℕ) → width ^ (i + 1) ≡ width ^ i * width
power_more width i = simp unary_clauses refl

-- one level more
pub bottom_more : (width i : ℕ) → 0 < width → held (held (width ^ i) * width) ≡ held (width ^ (i + 1))
bottom_more width i some =
    held_mul (width ^ i) width some ∙ ap held (sym (power_more width i))

pub directories_held : (width i : ℕ) → held (held (directories_to width i) + held (width ^ (i + 1))) ≡ held (directories_to width (i + 1))
directories_held width i = held_add (directories_to width i) (width ^ (i + 1)) ∙ ap held (sym (directories_more width i))

-- behind 64 levels of two directories or more both numbers are held
pub bottom_full : (width depth : ℕ) → 2 ≤ width → 64 ≤ depth → 2 ^ 64 ≤ width ^ depth
bottom_full width depth wide deep =
    let some : 0 < width = omega arith in
    omega (arith, pow-le-pow_left wide 64, pow-le-pow_right some deep)

pub held_bottom : (width depth : ℕ) → 2 ≤ width → 64 ≤ depth → held (width ^ 64) ≡ held (width ^ depth)
held_bottom width depth wide deep =
    let first : 2 ^ 64 ≤ width ^ 64 = bottom_full width 64 wide (omega arith) in
    let all : 2 ^ 64 ≤ width ^ depth = bottom_full width depth wide deep in
    held_all (width ^ 64) (omega (arith, first)) ∙ sym (held_all (width ^ depth) (omega (arith, all)))

pub held_directories : (width depth : ℕ) → 2 ≤ width → 64 ≤ depth → held (directories_to width 64) ≡ held (directories_to width depth)
held_directories width depth wide deep =
    let first : 2 ^ 64 ≤ width ^ 64 = bottom_full width 64 wide (omega arith) in
    let level : width ^ 64 ≤ directories_to width 64 = level_le width 64 (omega arith) in
    let all : directories_to width 64 ≤ directories_to width depth = directories_le width 64 depth deep in
    held_all (directories_to width 64) (omega (arith, first, level)) ∙ sym (held_all (directories_to width depth) (omega (arith, first, level, all)))

-- one directory in each
one_power : (i : ℕ) → 1 ^ i ≡ 1
one_power zero = refl
one_power (suc i) = let so_far : 1 ^ i ≡ 1 = one_power i in pow-succ' 1 i ∙ (omega (arith, so_far))

pub single_bottom : (width depth : ℕ) → width ≡ 1 → 1 ≡ held (width ^ depth)
single_bottom width depth one = sym (ap (λ (w : ℕ). held (w ^ depth)) one ∙ ap held (one_power depth))

single_all : (depth : ℕ) → directories_to 1 depth ≡ depth
single_all zero = refl
single_all (suc depth) =
    let same : suc depth ≡ depth + 1 = omega arith in
    ap (directories_to 1) same ∙ directories_more 1 depth ∙ omega (arith, single_all depth, one_power (depth + 1))

pub single_directories : (width depth : ℕ) → width ≡ 1 → depth < 2 ^ 64 → depth ≡ held (directories_to width depth)
single_directories width depth one small =
    sym (ap (λ (w : ℕ). held (directories_to w depth)) one ∙ ap held (single_all depth) ∙ omega arith)

-- behind the loop over so many levels, but 64 at most
pub behind_levels : (f : ℕ → ℕ) (depth end level n : ℕ) → (64 ≤ depth → held (f 64) ≡ held (f depth)) → end ≡ min depth 64 → level ≤ end → end ≤ level → n ≡ held (f level) → n ≡ held (f depth)
behind_levels f depth end level n full is_end within past is = elim (cases_lt depth 64) [
  | inl few ↦ let same : level ≡ depth = omega arith in is ∙ ap (λ (l : ℕ). held (f l)) same
  | inr many ↦ let same : level ≡ 64 = omega arith in is ∙ ap (λ (l : ℕ). held (f l)) same ∙ full many
]

pub one_level_more : (width i bottom directories more all : ℕ) → 0 < width → directories ≡ held (directories_to width i) → bottom ≡ held (width ^ i) → more ≡ held (bottom * width) → all ≡ held (directories + more)
    → (all ≡ held (directories_to width (i + 1))) × (more ≡ held (width ^ (i + 1)))
one_level_more width i bottom directories more all some is_all is_bottom is_more added =
    let next : more ≡ held (width ^ (i + 1)) = is_more ∙ ap (λ (n : ℕ). held (n * width)) is_bottom ∙ bottom_more width i some in
    let first : all ≡ held (held (directories_to width i) + more) = added ∙ ap (λ (n : ℕ). held (n + more)) is_all in
    (first ∙ ap (λ (n : ℕ). held (held (directories_to width i) + n)) next ∙ directories_held width i, next)
