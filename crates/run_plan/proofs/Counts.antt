-- How many runs loops give.
use Rattle.std.proofs.Common.{◌≡◌, inl, inr, ℕ, zero, suc, List, [], ◌∷◌, ◌+◌, ◌*◌, ◌<◌, ◌≤◌, min, drop, get_or, length, refl, sym, ap, ◌∙◌, arith}
use Rattle.std.proofs.Math.Nat.{mul-le-mul_left, mul_assoc, mul-one, mul-zero}
use Rattle.std.proofs.lemmas.Bool.{cases_lt}
use Rattle.std.proofs.lemmas.List.{length-append, drop_more, drop_all}
use Rattle.std.specs.List.{flat_map}
use Rattle.parm_records.specs.declared.runs.RdDef.{RdDef}
use Rattle.run_plan.specs.Loops.{count_of, replaced, settings_of, values_of}
use Rattle.run_plan.specs.declared.loops.Settings.{Settings}

-- lists of one length, one after another
length_flat : {X A : Type 0} (f : X → List A) (n : ℕ) (same : (x : X) → length (f x) ≡ n) (xs : List X) → length (flat_map f xs) ≡ length xs * n
length_flat f n same [] = omega arith
length_flat f n same (x ∷ xs) =
    let here = same x in
    let rest = length_flat f n same xs in
    length-append (f x) (flat_map f xs) ∙ grind (arith, here, rest)

-- the product has the product of the lengths
pub count_is : (d : RdDef) (words : List (List ℕ)) (settings : Settings) → length (settings_of d words settings) ≡ count_of d words
count_is d [] settings = refl
count_is d (word ∷ words) settings =
    length_flat (λ value. settings_of d words (replaced settings word value)) (count_of d words)
    (λ value. count_is d words (replaced settings word value)) (values_of d word)

-- where a is at least m, and b is not 0, so is the product
past : (a b m : ℕ) → m ≤ a → 0 < b → m ≤ a * b
past a b m h k = let wide : a * 1 ≤ a * b = mul-le-mul_left a k in let one : a * 1 ≡ a = mul-one a in omega arith

-- holding a factor at m does not change the product held at m
held : (a b m : ℕ) → min (min a m * b) m ≡ min (a * b) m
held a zero m = let left : min a m * 0 ≡ 0 = mul-zero (min a m) in let right : a * 0 ≡ 0 = mul-zero a in ap (λ n. min n m) (left ∙ sym right)
held a (suc b) m =
    elim (cases_lt a m) [
      | inl h ↦ let same : min a m ≡ a = omega arith in ap (λ n. min (n * suc b) m) same
      | inr h ↦
          let same : min a m ≡ m = omega arith in
          let left : m ≤ m * suc b = past m (suc b) m (omega arith) (omega arith) in
          let right : m ≤ a * suc b = past a (suc b) m (omega arith) (omega arith) in
          ap (λ n. min (n * suc b) m) same ∙ omega arith
    ]

-- a count that is held at m, and one loop more
count_more : (count len rest m : ℕ) → min (min (count * len) m * rest) m ≡ min (count * (len * rest)) m
count_more count len rest m = held (count * len) rest m ∙ ap (λ n. min n m) (mul_assoc count len rest)

-- the count and the loops that are left give the product
pub record Counted (d : RdDef) (count : ℕ) (left all : List (List ℕ)) (most : ℕ) : Type 0 where
  pub fits : count ≤ most
  pub same : min (count * count_of d left) most ≡ min (count_of d all) most

pub counted : (d : RdDef) (xs : List (List ℕ)) (i : ℕ) (x : List ℕ) (count len new most : ℕ) → i < length xs → x ≡ get_or xs i x → len ≡ length (values_of d x) → new ≡ min (count * len) most → Counted d count (drop i xs) xs most → Counted d new (drop (i + 1) xs) xs most
counted d xs i x count len new most inside is long news kept = record {
  fits = omega arith;
  same =
      let rest = count_of d (drop (i + 1) xs) in
      let cells : drop i xs ≡ x ∷ drop (i + 1) xs = drop_more xs i x inside ∙ ap (λ y. y ∷ drop (i + 1) xs) (sym is) in
      ap (λ n. min (n * rest) most) news ∙ count_more count len rest most ∙
      ap (λ n. min (count * (n * rest)) most) long ∙
      ap (λ ys. min (count * count_of d ys) most) (sym cells) ∙ kept.same;
}

pub counted_all : (d : RdDef) (xs : List (List ℕ)) (i count most : ℕ) → length xs ≤ i → Counted d count (drop i xs) xs most → count ≡ min (count_of d xs) most
counted_all d xs i count most h kept =
    let none : drop i xs ≡ [] = drop_all i xs h in
    let same : min (count * 1) most ≡ min (count_of d xs) most = ap (λ ys. min (count * count_of d ys) most) (sym none) ∙ kept.same in
    let one : count * 1 ≡ count = mul-one count in
    let fits = kept.fits in
    let held_one : count ≡ min (count * 1) most = omega arith in
    held_one ∙ same
