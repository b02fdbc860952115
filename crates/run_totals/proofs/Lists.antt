-- Sums, filters and places of lists.
use Rattle.std.proofs.Common.{◌≡◌, ℕ, zero, suc, ◌+◌, Bool, true, false, cond, All, List, [], ◌∷◌, ◌++◌, map, Some, slice_get, sum_by, refl, sym, ap, subst, ◌∙◌, arith}
use Rattle.std.specs.List.{filter, zip}
use Rattle.std.proofs.lemmas.List.Elements.{All-head, All-tail}
use Rattle.std.proofs.lemmas.List.Sums.{sum_by-cons}
use Rattle.std.proofs.lemmas.Option.{get_or_from_slice_get, none-some, same_Some, slice_get-get_or, slice_get_within}
use Rattle.claim_table.specs.Sums.{Each, total}

-- sums
pub total_map : {A B : Type 0} (f : B → ℕ) (g : A → B) (xs : List A) → total f (map g xs) ≡ total (λ x. f (g x)) xs
total_map f g [] = refl
total_map f g (x ∷ xs) = ap (λ n. f (g x) + n) (total_map f g xs)

pub total_plus : {A : Type 0} (f g : A → ℕ) (xs : List A) → total (λ x. f x + g x) xs ≡ total f xs + total g xs
total_plus f g [] = refl
total_plus f g (x ∷ xs) = omega (arith, total_plus f g xs)

pub total_same : {A : Type 0} (f g : A → ℕ) (xs : List A) → Each (λ x. f x ≡ g x) xs → total f xs ≡ total g xs
total_same f g [] each = refl
total_same f g (x ∷ xs) each = omega (arith, each.0, total_same f g xs each.1)

-- a sum of which all parts are 0, and all parts of a sum of 0
pub total_none : {A : Type 0} (f : A → ℕ) (xs : List A) → Each (λ x. f x ≡ 0) xs → total f xs ≡ 0
total_none f [] each = refl
total_none f (x ∷ xs) each = omega (arith, each.0, total_none f xs each.1)

pub none_of_total : {A : Type 0} (f : A → ℕ) (xs : List A) → total f xs ≡ 0 → Each (λ x. f x ≡ 0) xs
none_of_total f [] none = tt
none_of_total f (x ∷ xs) none = (omega (arith, none), none_of_total f xs (omega (arith, none)))

pub sum_is_total : {A : Type 0} (f : A → ℕ) (xs : List A) → sum_by f xs ≡ total f xs
sum_is_total f [] = refl
sum_is_total f (x ∷ xs) = sum_by-cons f x xs ∙ ap (λ n. f x + n) (sum_is_total f xs)

-- a sum of what passes a test
one_kept : {A : Type 0} (f : A → ℕ) (x : A) (xs : List A) (b : Bool) → total f (cond b (x ∷ xs) xs) ≡ cond b (f x) 0 + total f xs
one_kept f x xs true = refl
one_kept f x xs false = omega arith

pub total_filter : {A : Type 0} (f : A → ℕ) (p : A → Bool) (xs : List A) → total f (filter p xs) ≡ total (λ x. cond (p x) (f x) 0) xs
total_filter f p [] = refl
total_filter f p (x ∷ xs) = one_kept f x (filter p xs) (p x) ∙ ap (λ n. cond (p x) (f x) 0 + n) (total_filter f p xs)

-- filters
map_kept : {A B : Type 0} (g : A → B) (x : A) (xs : List A) (ys : List B) (b : Bool) → ys ≡ map g xs → cond b (g x ∷ ys) ys ≡ map g (cond b (x ∷ xs) xs)
map_kept g x xs ys true is = ap (λ l. g x ∷ l) is
map_kept g x xs ys false is = is

pub filter_of_map : {A B : Type 0} (g : A → B) (p : B → Bool) (xs : List A) → filter p (map g xs) ≡ map g (filter (λ x. p (g x)) xs)
filter_of_map g p [] = refl
filter_of_map g p (x ∷ xs) = map_kept g x (filter (λ y. p (g y)) xs) (filter p (map g xs)) (p (g x)) (filter_of_map g p xs)

pub filter_all : {A : Type 0} (p : A → Bool) (xs : List A) → Each (λ x. p x ≡ true) xs → filter p xs ≡ xs
filter_all p [] each = refl
filter_all p (x ∷ xs) each = ap (λ b. cond b (x ∷ filter p xs) (filter p xs)) each.0 ∙ ap (λ l. x ∷ l) (filter_all p xs each.1)

pub filter_no : {A : Type 0} (p : A → Bool) (xs : List A) → Each (λ x. p x ≡ false) xs → filter p xs ≡ []
filter_no p [] each = refl
filter_no p (x ∷ xs) each = ap (λ b. cond b (x ∷ filter p xs) (filter p xs)) each.0 ∙ filter_no p xs each.1

pub filter_at : {A : Type 0} (p : A → Bool) (xs : List A) (i : ℕ) (x : A) → slice_get xs i ≡ Some x → p x ≡ true → (j : ℕ) × (slice_get (filter p xs) j ≡ Some x)
filter_at p [] i x at passes = absurd (none-some x at)
filter_at {A} p (y ∷ ys) zero x at passes =
    let same : y ≡ x = same_Some y x at in
    let first : p y ≡ true = ap p same ∙ passes in
    (0, subst (λ b. slice_get (cond b (y ∷ filter p ys) (filter p ys)) 0 ≡ Some x) (sym first) at)
filter_at {A} p (y ∷ ys) (suc i) x at passes =
    let rest = filter_at p ys i x at passes in
    behind y (filter p ys) (p y) rest.0 x rest.1
  where
    behind : (z : A) (zs : List A) (b : Bool) (j : ℕ) (w : A) → slice_get zs j ≡ Some w → (k : ℕ) × (slice_get (cond b (z ∷ zs) zs) k ≡ Some w)
    behind z zs true j w is = (suc j, is)
    behind z zs false j w is = (j, is)

-- lists of pairs
pub zip_maps : {A B C : Type 0} (f : A → B) (g : A → C) (xs : List A) → zip (map f xs) (map g xs) ≡ map (λ x. (f x, g x)) xs
zip_maps f g [] = refl
zip_maps f g (x ∷ xs) = ap (λ l. (f x, g x) ∷ l) (zip_maps f g xs)

-- places
pub get_of_map : {A B : Type 0} (f : A → B) (xs : List A) (i : ℕ) (y : B) → slice_get (map f xs) i ≡ Some y → (x : A) × (slice_get xs i ≡ Some x) × (f x ≡ y)
get_of_map f [] i y at = absurd (none-some y at)
get_of_map f (x ∷ xs) zero y at = (x, refl, same_Some (f x) y at)
get_of_map f (x ∷ xs) (suc i) y at = get_of_map f xs i y at

pub get_map : {A B : Type 0} (f : A → B) (xs : List A) (i : ℕ) (x : A) → slice_get xs i ≡ Some x → slice_get (map f xs) i ≡ Some (f x)
get_map f [] i x at = absurd (none-some x at)
get_map f (y ∷ ys) zero x at = ap (λ z. Some (f z)) (same_Some y x at)
get_map f (y ∷ ys) (suc i) x at = get_map f ys i x at

pub all_at : {A : Type 0} (P : A → Type 0) (xs : List A) (i : ℕ) (x : A) → All P xs → slice_get xs i ≡ Some x → P x
all_at P xs i x all at = subst P (get_or_from_slice_get xs i x x at) (all i x (slice_get_within xs i x at))

pub all_from : {A : Type 0} (P : A → Type 0) (xs : List A) → ((i : ℕ) (x : A) → slice_get xs i ≡ Some x → P x) → All P xs
all_from P xs each = λ k d within. each k _ (slice_get-get_or xs k d within)

pub each_at : {A : Type 0} (P : A → Type 0) (xs : List A) (i : ℕ) (x : A) → Each P xs → slice_get xs i ≡ Some x → P x
each_at P [] i x each at = absurd (none-some x at)
each_at P (y ∷ ys) zero x each at = subst P (same_Some y x at) each.0
each_at P (y ∷ ys) (suc i) x each at = each_at P ys i x each.1 at

pub each_of_all : {A : Type 0} (P : A → Type 0) (xs : List A) → All P xs → Each P xs
each_of_all P [] all = tt
each_of_all P (x ∷ xs) all = (All-head P x xs all, each_of_all P xs (All-tail P x xs all))

pub each_of_map : {A B : Type 0} (P : B → Type 0) (f : A → B) (xs : List A) → All P (map f xs) → Each (λ x. P (f x)) xs
each_of_map P f [] all = tt
each_of_map P f (x ∷ xs) all = (All-head P (f x) (map f xs) all, each_of_map P f xs (All-tail P (f x) (map f xs) all))

pub each_from : {A : Type 0} (P Q : A → Type 0) (xs : List A) → ((x : A) → P x → Q x) → Each P xs → Each Q xs
each_from P Q [] gives each = tt
each_from P Q (x ∷ xs) gives each = (gives x each.0, each_from P Q xs gives each.1)

pub each_both : {A : Type 0} (P Q R : A → Type 0) (xs : List A) → ((x : A) → P x → Q x → R x) → Each P xs → Each Q xs → Each R xs
each_both P Q R [] gives one two = tt
each_both P Q R (x ∷ xs) gives one two = (gives x one.0 two.0, each_both P Q R xs gives one.1 two.1)

pub each_kept : {A : Type 0} (P : A → Type 0) (p : A → Bool) (xs : List A) → Each P xs → Each P (filter p xs)
each_kept P p [] each = tt
each_kept {A} P p (x ∷ xs) each = kept x (filter p xs) (p x) each.0 (each_kept P p xs each.1)
  where
    kept : (y : A) (ys : List A) (b : Bool) → P y → Each P ys → Each P (cond b (y ∷ ys) ys)
    kept y ys true one rest = (one, rest)
    kept y ys false one rest = rest

pub each_append : {A : Type 0} (P : A → Type 0) (xs ys : List A) → Each P xs → Each P ys → Each P (xs ++ ys)
each_append P [] ys first second = second
each_append P (x ∷ xs) ys first second = (first.0, each_append P xs ys first.1 second)
