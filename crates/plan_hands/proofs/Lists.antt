-- Lists that grow by one at their end.
use Rattle.std.proofs.Common.{◌≡◌, ◌∙◌, refl, sym, ap, subst, arith, eq-eqb, ne_eqb, ℕ, suc, ◌+◌, ◌<◌, ◌≤◌, ◌==◌, Bool, true, false, cond, List, [], ◌∷◌, ◌++◌, filter, get_or, length, length-append, map, slice_get, Some}
use Rattle.std.specs.List.{range_with_len, zip}
use Rattle.std.proofs.lemmas.Bool.{false≢true}
use Rattle.std.proofs.lemmas.List.{append-nil, append_assoc, length-map, map-append, map-id, same_from_push}
use Rattle.std.proofs.lemmas.List.Elements.{filter-append}
use Rattle.std.proofs.lemmas.Option.{slice_get_read}
use Rattle.std.proofs.lemmas.List.FromFn.{map-range_with_len_more}
use Rattle.std.proofs.lemmas.List.Sums.{count_by-le-length, length-filter}

pub range_more : (n : ℕ) → range_with_len 0 (n + 1) ≡ range_with_len 0 n ++ n ∷ []
range_more n =
    sym (map-id (range_with_len 0 (n + 1))) ∙ map-range_with_len_more (λ x. x) 0 n n (omega arith) ∙ ap (λ (l : List ℕ). l ++ n ∷ []) (map-id (range_with_len 0 n))

chosen_more : (p : ℕ → Bool) (n : ℕ) → filter p (range_with_len 0 (n + 1)) ≡ filter p (range_with_len 0 n) ++ cond (p n) (n ∷ []) []
chosen_more p n = ap (filter p) (range_more n) ∙ filter-append p (range_with_len 0 n) (n ∷ [])

chosen_last : (p : ℕ → Bool) (n : ℕ) → p n ≡ true → filter p (range_with_len 0 (n + 1)) ≡ filter p (range_with_len 0 n) ++ n ∷ []
chosen_last p n is = chosen_more p n ∙ ap (λ (b : Bool). filter p (range_with_len 0 n) ++ cond b (n ∷ []) []) is

chosen_not : (p : ℕ → Bool) (n : ℕ) → p n ≡ false → filter p (range_with_len 0 (n + 1)) ≡ filter p (range_with_len 0 n)
chosen_not p n is =
    chosen_more p n ∙ ap (λ (b : Bool). filter p (range_with_len 0 n) ++ cond b (n ∷ []) []) is ∙ append-nil (filter p (range_with_len 0 n))

-- each number with its place
pub numbered_more : {B : Type 0} (a : ℕ) (bs : List B) (b : B) → zip (range_with_len a (length (bs ++ b ∷ []))) (bs ++ b ∷ []) ≡ zip (range_with_len a (length bs)) bs ++ (a + length bs, b) ∷ []
numbered_more a [] b = let e : a ≡ a + 0 = omega arith in ap (λ (k : ℕ). (k, b) ∷ []) e
numbered_more a (x ∷ bs) b =
    let e : a + 1 + length bs ≡ a + suc (length bs) = omega arith in
    ap (λ (l : List _). (a, x) ∷ l) (numbered_more (a + 1) bs b)
    ∙ ap (λ (k : ℕ). (a, x) ∷ (zip (range_with_len (a + 1) (length bs)) bs ++ (k, b) ∷ [])) e

-- what was read at a place of a list
pub read_at : {X : Type 0} (xs ys : List X) (i : ℕ) (x : X) → ys ≡ xs → i < length xs → x ≡ get_or ys i x → slice_get xs i ≡ Some x
read_at xs ys i x same within is =
    slice_get_read xs (length xs) i x refl within (subst (λ (l : List _). x ≡ get_or l i x) same is)

-- One more at the end passes a test, or doesn't.
module _ {X : Type 0} (p : X → Bool) (xs : List X) (x : X) where
  pub one_passes : (rest all : List X) → p x ≡ true → filter p xs ≡ rest → all ≡ rest ++ x ∷ [] → filter p (xs ++ x ∷ []) ≡ all
  one_passes rest all is so_far split =
      filter-append p xs (x ∷ []) ∙ ap (λ (b : Bool). filter p xs ++ cond b (x ∷ []) []) is ∙ ap (λ (l : List X). l ++ x ∷ []) so_far ∙ sym split

  pub one_fails : (all : List X) → p x ≡ false → filter p xs ≡ all → filter p (xs ++ x ∷ []) ≡ all
  one_fails all is so_far =
      filter-append p xs (x ∷ []) ∙ ap (λ (b : Bool). filter p xs ++ cond b (x ∷ []) []) is ∙ append-nil (filter p xs) ∙ so_far

-- A test of the length says whether there are some.
pub none_items : {X : Type 0} (xs : List X) (n : ℕ) (b : Bool) → b ≡ (n == 0) → n ≡ length xs → b ≡ true → xs ≡ []
none_items [] n b test long is = refl
none_items (x ∷ xs) n b test long is = absurd (false≢true (sym (ne_eqb n 0 (λ none. omega (arith, none, long))) ∙ sym test ∙ is))

module _ {X Y : Type 0} (f : X → Y) where
  pub map_last : (xs rest : List X) (x : X) → xs ≡ rest ++ x ∷ [] → map f xs ≡ map f rest ++ f x ∷ []
  map_last xs rest x split = ap (map f) split ∙ map-append f rest (x ∷ [])

  pub long_last : (xs rest : List X) (x : X) → xs ≡ rest ++ x ∷ [] → length xs ≡ length rest + 1
  long_last xs rest x split = ap length split ∙ length-append rest (x ∷ [])

  -- One more was moved behind the others.
  pub moved : (to mid new : List X) (x : X) (more : List Y) → map f mid ≡ map f to ++ more → new ≡ mid ++ x ∷ [] → map f new ≡ map f to ++ (more ++ f x ∷ [])
  moved to mid new x more so_far is =
      map_last new mid x is ∙ ap (λ (l : List Y). l ++ f x ∷ []) so_far ∙ append_assoc (map f to) more (f x ∷ [])

  -- The last passes a test, or doesn't.
  pub kept_last : (p : Y → Bool) (xs rest : List X) (x : X) → xs ≡ rest ++ x ∷ [] → p (f x) ≡ true → filter p (map f xs) ≡ filter p (map f rest) ++ f x ∷ []
  kept_last p xs rest x split is =
      ap (filter p) (map_last xs rest x split) ∙ filter-append p (map f rest) (f x ∷ [])
      ∙ ap (λ (b : Bool). filter p (map f rest) ++ cond b (f x ∷ []) []) is

  pub left_last : (p : Y → Bool) (xs rest : List X) (x : X) → xs ≡ rest ++ x ∷ [] → p (f x) ≡ false → filter p (map f xs) ≡ filter p (map f rest)
  left_last p xs rest x split is =
      ap (filter p) (map_last xs rest x split) ∙ filter-append p (map f rest) (f x ∷ [])
      ∙ ap (λ (b : Bool). filter p (map f rest) ++ cond b (f x ∷ []) []) is ∙ append-nil (filter p (map f rest))

  pub some_there : (xs : List X) (n : ℕ) (b : Bool) → b ≡ (n == 0) → n ≡ length xs → b ≡ false → map f xs ≡ [] → ⊥
  some_there xs n b test long is none =
      let zero : n ≡ 0 = long ∙ sym (length-map xs f) ∙ ap length none in
      false≢true (sym is ∙ test ∙ eq-eqb n 0 zero)

  -- No more were moved than there are.
  pub few_moved : (p : Y → Bool) (to mid rest : List X) → map f mid ≡ map f to ++ filter p (map f rest) → length mid ≤ length to + length rest
  few_moved p to mid rest is =
      let long : length mid ≡ length to + length (filter p (map f rest)) =
      sym (length-map mid f) ∙ ap length is ∙ length-append (map f to) (filter p (map f rest)) ∙ ap (λ (n : ℕ). n + length (filter p (map f rest))) (length-map to f) in
      omega (arith, long, length-filter p (map f rest), count_by-le-length p (map f rest), length-map rest f)

module _ {X : Type 0} (f : X → ℕ) (p : ℕ → Bool) (n : ℕ) (xs : List X) (are : map f xs ≡ filter p (range_with_len 0 (n + 1))) where
  -- Where the greatest number passes, the last is its, and the others are those of the lower numbers.
  pub last_is : (rest : List X) (x : X) → p n ≡ true → xs ≡ rest ++ x ∷ [] → f x ≡ n
  last_is rest x is split =
      (same_from_push (map f rest) (filter p (range_with_len 0 n)) (f x) n (sym (map_last f xs rest x split) ∙ are ∙ chosen_last p n is)).1

  pub lower_are : (rest : List X) (x : X) → p n ≡ true → xs ≡ rest ++ x ∷ [] → map f rest ≡ filter p (range_with_len 0 n)
  lower_are rest x is split =
      (same_from_push (map f rest) (filter p (range_with_len 0 n)) (f x) n (sym (map_last f xs rest x split) ∙ are ∙ chosen_last p n is)).0

  pub some_is : p n ≡ true → length xs ≡ 0 → ⊥
  some_is is none =
      let long : length xs ≡ length (filter p (range_with_len 0 n)) + 1 = sym (length-map xs f) ∙ ap length (are ∙ chosen_last p n is) ∙ length-append (filter p (range_with_len 0 n)) (n ∷ []) in
      omega (arith, long, none)

  -- Where it doesn't, all are those of the lower numbers.
  pub same_are : p n ≡ false → map f xs ≡ filter p (range_with_len 0 n)
  same_are is = are ∙ chosen_not p n is
