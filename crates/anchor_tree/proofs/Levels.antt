-- Levels of directories, and the one in which a directory stands.
use Rattle.std.proofs.Common.{◌≡◌, ℕ, zero, suc, ◌+◌, ◌-◌, ◌*◌, ◌^◌, ◌<◌, ◌≤◌, Bool, true, false, cond, Option, Some, map, refl, sym, ap, subst, ◌∙◌, arith, inl, inr}
use Rattle.std.specs.Prelude.{find, nat_lt, unwrap_or}
use Rattle.std.specs.List.{range_with_len, sum}
use Rattle.std.proofs.Math.Nat.{one-le-pow, pow-succ', pow-zero}
use Rattle.std.proofs.lemmas.Bool.{cases_lt, lt-ltb}
use Rattle.std.proofs.lemmas.List.FromFn.{map-range_with_len_more}
use Rattle.std.proofs.lemmas.List.Sums.{sum_by_push}
use Rattle.anchor_tree.specs.Shape.{directories_to}
use Rattle.anchor_tree.specs.Names.{level_of}

pub directories_none : (width : ℕ) → directories_to width 0 ≡ 0
directories_none width = refl

-- one level more
pub directories_more : (width l : ℕ) → directories_to width (l + 1) ≡ directories_to width l + width ^ (l + 1)
directories_more width l =
    let f : ℕ → ℕ = λ q. width ^ q in
    ap sum (map-range_with_len_more f 1 l (l + 1) (omega arith)) ∙ sum_by_push (λ (x : ℕ). x) (map f (range_with_len 1 l)) (width ^ (l + 1))

directories_grow : (width l more : ℕ) → directories_to width l ≤ directories_to width (l + more)
directories_grow width l zero =
    let same : l + 0 ≡ l = omega arith in
    subst (λ (k : ℕ). directories_to width l ≤ directories_to width k) (sym same) (omega arith)
directories_grow width l (suc more) =
    let same : l + suc more ≡ l + more + 1 = omega arith in
    let so_far : directories_to width l ≤ directories_to width (l + more) = directories_grow width l more in
    let step : directories_to width (l + more + 1) ≡ directories_to width (l + more) + width ^ (l + more + 1) = directories_more width (l + more) in
    subst (λ (k : ℕ). directories_to width l ≤ directories_to width k) (sym same) (omega arith)

pub directories_le : (width l k : ℕ) → l ≤ k → directories_to width l ≤ directories_to width k
directories_le width l k few =
    let same : l + (k - l) ≡ k = omega arith in
    subst (λ (m : ℕ). directories_to width l ≤ directories_to width m) same (directories_grow width l (k - l))

-- a level has no more directories than all to it
pub level_le : (width l : ℕ) → 0 < l → width ^ l ≤ directories_to width l
level_le width l some =
    let same : l - 1 + 1 ≡ l = omega arith in
    subst (λ (m : ℕ). width ^ m ≤ directories_to width m) same (omega (arith, directories_more width (l - 1)))

pub first_power : (width : ℕ) → width ^ 1 ≡ width
first_power width =
    let product : width ^ 1 ≡ width * 1 = pow-succ' width 0 ∙ ap (λ (n : ℕ). width * n) (pow-zero width) in
    product ∙ omega arith

-- the first level
pub first_level : (width : ℕ) → directories_to width (0 + 1) ≡ width
first_level width =
    omega (arith, directories_more width 0, first_power width)

-- no more levels than directories
pub levels_le : (width l : ℕ) → 0 < width → l ≤ directories_to width l
levels_le width zero some = omega arith
levels_le width (suc l) some =
    let same : l + 1 ≡ suc l = omega arith in
    let so_far : l ≤ directories_to width l = levels_le width l some in
    subst (λ (m : ℕ). m ≤ directories_to width m) same (omega (arith, directories_more width l, one-le-pow (l + 1) width some))

-- a directory lies behind those of so many levels and before those of one more
pub record IsBetween (depth width directory : ℕ) : Type 0 where
  pub before : ℕ
  pub inside : before < depth
  pub past : directories_to width before ≤ directory
  pub below : directory < directories_to width (before + 1)

pub between : (depth width directory : ℕ) → directory < directories_to width depth → IsBetween depth width directory
between zero width directory h = absurd (omega arith)
between (suc depth) width directory h = elim (cases_lt directory (directories_to width depth)) [
  | inl within ↦ let found = between depth width directory within in record { before = found.before; inside = omega (arith, found.inside); past = found.past; below = found.below }
  | inr past ↦
      let same : suc depth ≡ depth + 1 = omega arith in
      record { before = depth; inside = omega arith; past = past; below = subst (λ (m : ℕ). directory < directories_to width m) same h }
]

-- the first number from a on that passes a test
find_first : (test : ℕ → Bool) (a n k : ℕ) → k < n → ((j : ℕ) → j < k → test (a + j) ≡ false) → test (a + k) ≡ true → find test (range_with_len a n) ≡ Some (a + k)
find_first test a zero k in_range before here = absurd (omega arith)
find_first test a (suc n) zero in_range before here =
    let same : a + 0 ≡ a = omega arith in
    let found : test a ≡ true = subst (λ (m : ℕ). test m ≡ true) same here in
    ap (λ (b : Bool). cond b (Some a) (find test (range_with_len (a + 1) n))) found ∙ ap Some (sym same)
find_first test a (suc n) (suc k) in_range before here =
    let none : a + 0 ≡ a = omega arith in
    let same : a + 1 + k ≡ a + suc k = omega arith in
    let shift : (j : ℕ) → a + suc j ≡ a + 1 + j = λ j. omega arith in
    let first : test a ≡ false = subst (λ (m : ℕ). test m ≡ false) none (before 0 (omega arith)) in
    let inner : k < n = omega arith in
    let earlier : (j : ℕ) → j < k → test (a + 1 + j) ≡ false = λ j h. subst (λ (m : ℕ). test m ≡ false) (shift j) (before (suc j) (omega arith)) in
    ap (λ (b : Bool). cond b (Some a) (find test (range_with_len (a + 1) n))) first
    ∙ find_first test (a + 1) n k inner earlier (subst (λ (m : ℕ). test m ≡ true) (sym same) here)
    ∙ ap Some same

-- the place of the first number of a range that passes a test
pub first_is : (test : ℕ → Bool) (a n k : ℕ) → k < n → ((j : ℕ) → j < k → test (a + j) ≡ false) → test (a + k) ≡ true → unwrap_or (find test (range_with_len a n)) 0 ≡ a + k
first_is test a n k in_range before here = ap (λ (o : Option ℕ). unwrap_or o 0) (find_first test a n k in_range before here)

-- a test of two numbers that gives no
pub not_below : (n m : ℕ) → m ≤ n → nat_lt n m ≡ false
not_below n m h = grind arith

pub level_is : (depth width directory before : ℕ) → before < depth → directories_to width before ≤ directory → directory < directories_to width (before + 1)
    → level_of depth width directory ≡ before + 1
level_is depth width directory before inside past below =
    let test : ℕ → Bool = λ l. nat_lt directory (directories_to width l) in
    let turned : before + 1 ≡ 1 + before = omega arith in
    let early : (j : ℕ) → j < before → test (1 + j) ≡ false = λ j h. not_below directory _ (omega (arith, directories_le width (1 + j) before (omega arith))) in
    let here : test (1 + before) ≡ true = subst (λ (m : ℕ). test m ≡ true) turned (lt-ltb directory _ below) in
    first_is test 1 depth before inside early here ∙ sym turned
