-- Sums over lists, and facts of each element.
use Rattle.std.proofs.Common.{◌≡◌, ◌≢◌, ℕ, suc, ◌*◌, ◌+◌, ◌<◌, ◌≤◌, All, List, [], ◌∷◌, length, map, refl, ap, arith}
use Rattle.std.specs.Prelude.{⊤, AllPairs}
use Rattle.std.proofs.lemmas.List.Elements.{All-head, All-tail}
use Rattle.claim_table.specs.Sums.{Each, total}

pub total_map : {A B : Type 0} (f : B → ℕ) (g : A → B) (xs : List A) → total f (map g xs) ≡ total (λ x. f (g x)) xs
total_map f g [] = refl
total_map f g (x ∷ xs) = ap (λ n. f (g x) + n) (total_map f g xs)

pub total_plus : {A : Type 0} (f g : A → ℕ) (xs : List A) → total (λ x. f x + g x) xs ≡ total f xs + total g xs
total_plus f g [] = refl
total_plus f g (x ∷ xs) = omega (arith, total_plus f g xs)

pub total_same : {A : Type 0} (f g : A → ℕ) (xs : List A) → Each (λ x. f x ≡ g x) xs → total f xs ≡ total g xs
total_same f g [] each = refl
total_same f g (x ∷ xs) each = omega (arith, each.0, total_same f g xs each.1)

pub total_most : {A : Type 0} (f g : A → ℕ) (xs : List A) → Each (λ x. f x ≤ g x) xs → total f xs ≤ total g xs
total_most f g [] each = omega arith
total_most f g (x ∷ xs) each = omega (arith, each.0, total_most f g xs each.1)

pub total_none : {A : Type 0} (f : A → ℕ) (xs : List A) → Each (λ x. f x ≡ 0) xs → total f xs ≡ 0
total_none f [] each = refl
total_none f (x ∷ xs) each = omega (arith, each.0, total_none f xs each.1)

pub none_of_total : {A : Type 0} (f : A → ℕ) (xs : List A) → total f xs ≡ 0 → Each (λ x. f x ≡ 0) xs
none_of_total f [] none = tt
none_of_total f (x ∷ xs) none = (omega (arith, none), none_of_total f xs (omega (arith, none)))

pub total_ones : {A : Type 0} (xs : List A) → total (λ x. 1) xs ≡ length xs
total_ones [] = refl
total_ones (x ∷ xs) = omega (arith, total_ones xs)

pub total_long : {A : Type 0} (f : A → ℕ) (xs : List A) → Each (λ x. 0 < f x) xs → length xs ≤ total f xs
total_long f [] each = omega arith
total_long f (x ∷ xs) each = omega (arith, each.0, total_long f xs each.1)

-- a sum of sums, the other way round
pub total_turned : {A B : Type 0} (f : A → B → ℕ) (xs : List A) (ys : List B) → total (λ x. total (f x) ys) xs ≡ total (λ y. total (λ x. f x y) xs) ys
total_turned f [] [] = refl
total_turned f [] (y ∷ ys) = omega (arith, total_turned f [] ys)
total_turned f (x ∷ xs) ys = omega (arith, total_turned f xs ys, total_plus (f x) (λ y. total (λ z. f z y) xs) ys)

pub each_from : {A : Type 0} (P Q : A → Type 0) (xs : List A) → ((x : A) → P x → Q x) → Each P xs → Each Q xs
each_from P Q [] gives each = tt
each_from P Q (x ∷ xs) gives each = (gives x each.0, each_from P Q xs gives each.1)

pub each_of : {A : Type 0} (Q : A → Type 0) (xs : List A) → ((x : A) → Q x) → Each Q xs
each_of Q [] gives = tt
each_of Q (x ∷ xs) gives = (gives x, each_of Q xs gives)

pub each_both : {A : Type 0} (P Q R : A → Type 0) (xs : List A) → ((x : A) → P x → Q x → R x) → Each P xs → Each Q xs → Each R xs
each_both P Q R [] gives one two = tt
each_both P Q R (x ∷ xs) gives one two = (gives x one.0 two.0, each_both P Q R xs gives one.1 two.1)

pub each_of_all : {A : Type 0} (P : A → Type 0) (xs : List A) → All P xs → Each P xs
each_of_all P [] all = tt
each_of_all P (x ∷ xs) all = (All-head P x xs all, each_of_all P xs (All-tail P x xs all))

-- Numbers that are at most so much each, and as much together as they can be, are each as much.
most_long : {A : Type 0} (f : A → ℕ) (most : ℕ) (xs : List A) → Each (λ x. f x ≤ most) xs → total f xs ≤ length xs * most
most_long f most [] each = omega arith
most_long f most (x ∷ xs) each = omega (arith, each.0, most_long f most xs each.1)

pub all_most : {A : Type 0} (f : A → ℕ) (most : ℕ) (xs : List A) → Each (λ x. f x ≤ most) xs → total f xs ≡ length xs * most → Each (λ x. f x ≡ most) xs
all_most f most [] each sum = tt
all_most f most (x ∷ xs) each sum =
    let rest = most_long f most xs each.1 in
    (omega (arith, each.0, rest, sum), all_most f most xs each.1 (omega (arith, each.0, rest, sum)))

-- Different numbers.
abbrev pub Apart : List ℕ → Type 0
Apart [] = ⊤
Apart (x ∷ xs) = Each (λ y. x ≢ y) xs × Apart xs

pub apart_of : (xs : List ℕ) → AllPairs (λ one other. one ≢ other) xs → Apart xs
apart_of [] pairs = tt
apart_of (x ∷ xs) pairs =
    let first : All (λ y. x ≢ y) xs = λ k d within. pairs 0 (suc k) d (omega arith) (omega (arith, within)) in
    (each_of_all (λ y. x ≢ y) xs first, apart_of xs (λ i j d less within. pairs (suc i) (suc j) d (omega (arith, less)) (omega (arith, within))))
