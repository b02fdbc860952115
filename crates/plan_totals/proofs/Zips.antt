-- Lists in step, sums, and places.
use Rattle.std.proofs.Common.{◌≡◌, ◌∙◌, refl, sym, ap, subst, arith, ℕ, zero, suc, ◌+◌, Bool, true, false, cond, not, List, [], ◌∷◌, ◌++◌, filter, length, map, Some, slice_get}
use Rattle.std.specs.List.{AllZip, range_with_len}
use Rattle.std.proofs.lemmas.Option.{none-some, same_Some}
use Rattle.claim_table.specs.Sums.{total}
use Rattle.slave_worker.specs.Hands.{HandSeen}
use Rattle.plan_hands.specs.Stores.{place_of}

pub zip_at : {A B : Type 0} (R : A → B → Type 0) (xs : List A) (ys : List B) (i : ℕ) (x : A) (y : B) → AllZip R xs ys → slice_get xs i ≡ Some x → slice_get ys i ≡ Some y → R x y
zip_at R [] ys i x y all at_x at_y = absurd (none-some x at_x)
zip_at R (a ∷ xs) [] i x y all at_x at_y = absurd all
zip_at {A} {B} R (a ∷ xs) (b ∷ ys) zero x y all at_x at_y = subst (λ (c : A). R c y) (same_Some a x at_x) (subst (λ (c : B). R a c) (same_Some b y at_y) all.0)
zip_at R (a ∷ xs) (b ∷ ys) (suc i) x y all at_x at_y = zip_at R xs ys i x y all.1 at_x at_y

pub zip_then : {A B C : Type 0} (R : A → B → Type 0) (S : B → C → Type 0) (T : A → C → Type 0) → ((x : A) (y : B) (z : C) → R x y → S y z → T x z) → (xs : List A) (ys : List B) (zs : List C) → AllZip R xs ys → AllZip S ys zs → AllZip T xs zs
zip_then R S T gives [] [] [] one two = tt
zip_then R S T gives [] [] (z ∷ zs) one two = absurd two
zip_then R S T gives [] (y ∷ ys) zs one two = absurd one
zip_then R S T gives (x ∷ xs) [] zs one two = absurd one
zip_then R S T gives (x ∷ xs) (y ∷ ys) [] one two = absurd two
zip_then R S T gives (x ∷ xs) (y ∷ ys) (z ∷ zs) one two = (gives x y z one.0 two.0, zip_then R S T gives xs ys zs one.1 two.1)

pub zip_each : {A : Type 0} (R : A → A → Type 0) → ((x : A) → R x x) → (xs : List A) → AllZip R xs xs
zip_each R same [] = tt
zip_each R same (x ∷ xs) = (same x, zip_each R same xs)

pub zip_as : {A B : Type 0} (R S : A → B → Type 0) → ((x : A) (y : B) → R x y → S x y) → (xs : List A) (ys : List B) → AllZip R xs ys → AllZip S xs ys
zip_as R S gives [] [] all = tt
zip_as R S gives [] (y ∷ ys) all = absurd all
zip_as R S gives (x ∷ xs) [] all = absurd all
zip_as R S gives (x ∷ xs) (y ∷ ys) all = (gives x y all.0, zip_as R S gives xs ys all.1)

pub zip_append : {A B : Type 0} (R : A → B → Type 0) (xs : List A) (ys : List B) (more : List A) (others : List B) → AllZip R xs ys → AllZip R more others → AllZip R (xs ++ more) (ys ++ others)
zip_append R [] [] more others all rest = rest
zip_append R [] (y ∷ ys) more others all rest = absurd all
zip_append R (x ∷ xs) [] more others all rest = absurd all
zip_append R (x ∷ xs) (y ∷ ys) more others all rest = (all.0, zip_append R xs ys more others all.1 rest)

-- what holds place by place
pub zip_from : {A B C D : Type 0} (R : C → D → Type 0) (f : A → C) (g : B → D) (xs : List A) (ys : List B) → length ys ≡ length xs → ((i : ℕ) (x : A) (y : B) → slice_get xs i ≡ Some x → slice_get ys i ≡ Some y → R (f x) (g y)) → AllZip R (map f xs) (map g ys)
zip_from R f g [] [] many gives = tt
zip_from R f g [] (y ∷ ys) many gives = absurd (omega (arith, many))
zip_from R f g (x ∷ xs) [] many gives = absurd (omega (arith, many))
zip_from R f g (x ∷ xs) (y ∷ ys) many gives = (gives 0 x y refl refl, zip_from R f g xs ys (omega (arith, many)) (λ i a b at_a at_b. gives (suc i) a b at_a at_b))

pub total_append : {A : Type 0} (f : A → ℕ) (xs ys : List A) → total f (xs ++ ys) ≡ total f xs + total f ys
total_append f [] ys = omega arith
total_append f (x ∷ xs) ys = omega (arith, total_append f xs ys)

-- The number at a place of a range.
pub range_at : (low many place n : ℕ) → slice_get (range_with_len low many) place ≡ Some n → n ≡ low + place
range_at low zero place n at = absurd (none-some n at)
range_at low (suc many) zero n at = omega (arith, same_Some low n at)
range_at low (suc many) (suc place) n at = omega (arith, range_at (low + 1) many place n at)

abbrev first_of : HandSeen → List HandSeen → HandSeen
first_of other [] = other
first_of other (hand ∷ hands) = hand

abbrev rest_of : List HandSeen → List HandSeen
rest_of [] = []
rest_of (hand ∷ hands) = hands

abbrev first_place : ℕ → List ℕ → ℕ
first_place other [] = other
first_place other (n ∷ ns) = n

abbrev rest_places : List ℕ → List ℕ
rest_places [] = []
rest_places (n ∷ ns) = ns

-- Two lists of the same places are in step where those of the places that pass a test are, and the others are the same.
module _ (p : ℕ → Bool) (R : HandSeen → HandSeen → Type 0) (same : (a : HandSeen) → p (place_of a) ≡ false → R a a) where
  abbrev Chosen : List HandSeen → List HandSeen
  Chosen hands = filter (λ (h : HandSeen). p (place_of h)) hands

  abbrev Others : List HandSeen → List HandSeen
  Others hands = filter (λ (h : HandSeen). not (p (place_of h))) hands

  one_step : (b : Bool) (x y : HandSeen) (xs ys : List HandSeen) → p (place_of x) ≡ b → p (place_of y) ≡ b → AllZip R (Chosen (x ∷ xs)) (Chosen (y ∷ ys)) → Others (x ∷ xs) ≡ Others (y ∷ ys) → R x y × AllZip R (Chosen xs) (Chosen ys) × (Others xs ≡ Others ys)
  one_step true x y xs ys of_x of_y chosen others =
      let zipped = subst (λ (c : Bool). AllZip R (x ∷ Chosen xs) (cond c (y ∷ Chosen ys) (Chosen ys))) of_y
      (subst (λ (c : Bool). AllZip R (cond c (x ∷ Chosen xs) (Chosen xs)) (Chosen (y ∷ ys))) of_x chosen) in
      let rests : Others xs ≡ Others ys =
      sym (ap (λ (c : Bool). cond (not c) (x ∷ Others xs) (Others xs)) of_x) ∙ others ∙ ap (λ (c : Bool). cond (not c) (y ∷ Others ys) (Others ys)) of_y in
      (zipped.0, zipped.1, rests)
  one_step false x y xs ys of_x of_y chosen others =
      let zipped = subst (λ (c : Bool). AllZip R (Chosen xs) (cond c (y ∷ Chosen ys) (Chosen ys))) of_y
      (subst (λ (c : Bool). AllZip R (cond c (x ∷ Chosen xs) (Chosen xs)) (Chosen (y ∷ ys))) of_x chosen) in
      let rests : x ∷ Others xs ≡ y ∷ Others ys =
      sym (ap (λ (c : Bool). cond (not c) (x ∷ Others xs) (Others xs)) of_x) ∙ others ∙ ap (λ (c : Bool). cond (not c) (y ∷ Others ys) (Others ys)) of_y in
      (subst (λ (h : HandSeen). R x h) (ap (first_of x) rests) (same x of_x), zipped, ap rest_of rests)

  pub in_step : (xs ys : List HandSeen) → map place_of xs ≡ map place_of ys → AllZip R (Chosen xs) (Chosen ys) → Others xs ≡ Others ys → AllZip R xs ys
  in_step [] [] places chosen others = tt
  in_step [] (y ∷ ys) places chosen others = absurd cc
  in_step (x ∷ xs) [] places chosen others = absurd cc
  in_step (x ∷ xs) (y ∷ ys) places chosen others =
      let place : place_of x ≡ place_of y = ap (first_place (place_of x)) places in
      let step = one_step (p (place_of x)) x y xs ys refl (ap p (sym place)) chosen others in
      (step.0, in_step xs ys (ap rest_places places) step.1 step.2)
