-- Lists that are built step by step, and what holds of each item.
use Rattle.std.proofs.Common.{◌≡◌, ℕ, List, [], ◌∷◌, ◌++◌, ◌+◌, ◌<◌, ◌≤◌, Bool, true, false, cond, All, length, filter, get_or, drop, map, ap, refl, sym, ◌∙◌, arith}
use Rattle.std.specs.List.{flat_map, list_any, range_with_len}
use Rattle.std.proofs.lemmas.List.{append-nil, drop_more, map-id}
use Rattle.std.proofs.lemmas.List.Elements.{All-append, All-head, All-nil, All-tail}
use Rattle.std.proofs.lemmas.List.FromFn.{filter_of_map_range_with_len_more, length-range_with_len}
use Rattle.std.proofs.lemmas.List.Sums.{count_by-le-length, length-filter}

chosen_more : (p : ℕ → Bool) (i : ℕ) → filter p (range_with_len 0 (i + 1)) ≡ filter p (range_with_len 0 i) ++ cond (p i) (i ∷ []) []
chosen_more p i =
    ap (filter p) (sym (map-id (range_with_len 0 (i + 1)))) ∙ filter_of_map_range_with_len_more p (λ x. x) 0 i i (omega arith) ∙
    ap (λ xs. filter p xs ++ cond (p i) (i ∷ []) []) (map-id (range_with_len 0 i))

if_passes : (b : Bool) (i : ℕ) (before news : List ℕ) → news ≡ cond b (before ++ i ∷ []) before → news ≡ before ++ cond b (i ∷ []) []
if_passes true i before news h = h
if_passes false i before news h = h ∙ sym (append-nil before)

-- one more number of a filter over numbers
pub filter_kept : (p : ℕ → Bool) (i : ℕ) (before news : List ℕ) (b : Bool) → before ≡ filter p (range_with_len 0 i) → b ≡ p i → news ≡ cond b (before ++ i ∷ []) before → news ≡ filter p (range_with_len 0 (i + 1))
filter_kept p i before news b so_far test added =
    if_passes b i before news added ∙ ap (λ xs. xs ++ cond b (i ∷ []) []) so_far ∙
    ap (λ c. filter p (range_with_len 0 i) ++ cond c (i ∷ []) []) test ∙ sym (chosen_more p i)

pub picked : (b : Bool) (news added kept : List ℕ) → b ≡ true → news ≡ added → news ≡ cond b added kept
picked true news added kept e h = h
picked false news added kept e h = absurd (cc)

pub passed : (b : Bool) (news added kept : List ℕ) → b ≡ false → news ≡ kept → news ≡ cond b added kept
passed true news added kept e h = absurd (cc)
passed false news added kept e h = h

-- a filter over numbers has at most so many
pub filter_short : (p : ℕ → Bool) (n : ℕ) → length (filter p (range_with_len 0 n)) ≤ n
filter_short p n = omega (arith, length-filter p (range_with_len 0 n), count_by-le-length p (range_with_len 0 n), length-range_with_len 0 n)

pub list_any_map : {A B : Type 0} (p : B → Bool) (f : A → B) (xs : List A) → list_any p (map f xs) ≡ list_any (λ x. p (f x)) xs
list_any_map p f [] = refl
list_any_map p f (x ∷ xs) = let rest = list_any_map p f xs in cc

pub All-flat : {A B : Type 0} (P : A → Type 0) (Q : B → Type 0) (f : A → List B) → ((x : A) → P x → All Q (f x)) → (xs : List A) → All P xs → All Q (flat_map f xs)
All-flat P Q f each [] all = All-nil Q
All-flat P Q f each (x ∷ xs) all =
    All-append Q (f x) (flat_map f xs) (each x (All-head P x xs all)) (All-flat P Q f each xs (All-tail P x xs all))

-- the item at a place, and the rest behind it
pub cells : {A : Type 0} (xs : List A) (i : ℕ) (x : A) → i < length xs → x ≡ get_or xs i x → drop i xs ≡ x ∷ drop (i + 1) xs
cells xs i x within is = drop_more xs i x within ∙ ap (λ y. y ∷ drop (i + 1) xs) (sym is)
