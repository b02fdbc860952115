-- What holds of each of a list, of those that pass a test, and of two lists in step.
use Rattle.std.proofs.Common.{◌≡◌, ◌∙◌, refl, sym, ap, subst, ℕ, Bool, true, false, cond, not, List, [], ◌∷◌, ◌++◌, drop, filter, length, map, take}
use Rattle.std.proofs.Math.Seq.{take-append_seam}
use Rattle.std.specs.Prelude.{All}
use Rattle.std.specs.List.{AllZip}
use Rattle.std.proofs.lemmas.List.Elements.{All-cons, All-nil}
use Rattle.claim_table.specs.Sums.{Each}
use Rattle.slave_worker.specs.Hands.{HandSeen}
use Rattle.plan_hands.specs.Stores.{place_of}

pub all_of_each : {A : Type 0} (P : A → Type 0) (xs : List A) → Each P xs → All P xs
all_of_each P [] each = All-nil P
all_of_each P (x ∷ xs) each = All-cons P x xs each.0 (all_of_each P xs each.1)

pub each_chosen : {A : Type 0} (P : A → Type 0) (p : A → Bool) (xs : List A) → Each (λ x. p x ≡ true → P x) xs → Each P (filter p xs)
each_chosen P p [] each = tt
each_chosen {A} P p (x ∷ xs) each = chosen x (filter p xs) (p x) each.0 (each_chosen P p xs each.1)
  where
    chosen : (y : A) (ys : List A) (b : Bool) → (b ≡ true → P y) → Each P ys → Each P (cond b (y ∷ ys) ys)
    chosen y ys true one rest = (one refl, rest)
    chosen y ys false one rest = rest

pub each_middle : {A : Type 0} (P : A → Type 0) (front : List A) (x : A) (back : List A) → Each P (front ++ x ∷ back) → Each P front × P x × Each P back
each_middle P [] x back each = (tt, each.0, each.1)
each_middle P (y ∷ front) x back each =
    let rest = each_middle P front x back each.1 in
    ((each.0, rest.0), rest.1, rest.2)

pub each_unmapped : {A B : Type 0} (P : B → Type 0) (f : A → B) (xs : List A) → Each P (map f xs) → Each (λ x. P (f x)) xs
each_unmapped P f [] each = tt
each_unmapped P f (x ∷ xs) each = (each.0, each_unmapped P f xs each.1)

abbrev first_of : HandSeen → List HandSeen → HandSeen
first_of other [] = other
first_of other (hand ∷ hands) = hand

abbrev rest_of : List HandSeen → List HandSeen
rest_of [] = []
rest_of (hand ∷ hands) = hands

abbrev first_place : ℕ → List ℕ → ℕ
first_place other [] = other
first_place other (n ∷ ns) = n

abbrev rest_places : List ℕ → List ℕ
rest_places [] = []
rest_places (n ∷ ns) = ns

-- Two lists of the same places are in step where those of the places that pass a test are, and the others are the same.
module _ (p : ℕ → Bool) (R : HandSeen → HandSeen → Type 0) (same : (a : HandSeen) → R a a) where
  abbrev Chosen : List HandSeen → List HandSeen
  Chosen hands = filter (λ (h : HandSeen). p (place_of h)) hands

  abbrev Others : List HandSeen → List HandSeen
  Others hands = filter (λ (h : HandSeen). not (p (place_of h))) hands

  one_step : (b : Bool) (x y : HandSeen) (xs ys : List HandSeen) → p (place_of x) ≡ b → p (place_of y) ≡ b → AllZip R (Chosen (x ∷ xs)) (Chosen (y ∷ ys)) → Others (x ∷ xs) ≡ Others (y ∷ ys) → R x y × AllZip R (Chosen xs) (Chosen ys) × (Others xs ≡ Others ys)
  one_step true x y xs ys of_x of_y chosen others =
      let zipped = subst (λ (c : Bool). AllZip R (x ∷ Chosen xs) (cond c (y ∷ Chosen ys) (Chosen ys))) of_y
      (subst (λ (c : Bool). AllZip R (cond c (x ∷ Chosen xs) (Chosen xs)) (Chosen (y ∷ ys))) of_x chosen) in
      let rests : Others xs ≡ Others ys =
      sym (ap (λ (c : Bool). cond (not c) (x ∷ Others xs) (Others xs)) of_x) ∙ others ∙ ap (λ (c : Bool). cond (not c) (y ∷ Others ys) (Others ys)) of_y in
      (zipped.0, zipped.1, rests)
  one_step false x y xs ys of_x of_y chosen others =
      let zipped = subst (λ (c : Bool). AllZip R (Chosen xs) (cond c (y ∷ Chosen ys) (Chosen ys))) of_y
      (subst (λ (c : Bool). AllZip R (cond c (x ∷ Chosen xs) (Chosen xs)) (Chosen (y ∷ ys))) of_x chosen) in
      let rests : x ∷ Others xs ≡ y ∷ Others ys =
      sym (ap (λ (c : Bool). cond (not c) (x ∷ Others xs) (Others xs)) of_x) ∙ others ∙ ap (λ (c : Bool). cond (not c) (y ∷ Others ys) (Others ys)) of_y in
      (subst (λ (h : HandSeen). R x h) (ap (first_of x) rests) (same x), zipped, ap rest_of rests)

  pub in_step : (xs ys : List HandSeen) → map place_of xs ≡ map place_of ys → AllZip R (Chosen xs) (Chosen ys) → Others xs ≡ Others ys → AllZip R xs ys
  in_step [] [] places chosen others = tt
  in_step [] (y ∷ ys) places chosen others = absurd cc
  in_step (x ∷ xs) [] places chosen others = absurd cc
  in_step (x ∷ xs) (y ∷ ys) places chosen others =
      let place : place_of x ≡ place_of y = ap (first_place (place_of x)) places in
      let step = one_step (p (place_of x)) x y xs ys refl (ap p (sym place)) chosen others in
      (step.0, in_step xs ys (ap rest_places places) step.1 step.2)

-- Lists that are equal place by place are equal.
pub equal_in_step : (xs ys : List HandSeen) → AllZip (λ (x : HandSeen) (y : HandSeen). x ≡ y) xs ys → xs ≡ ys
equal_in_step [] [] all = refl
equal_in_step [] (y ∷ ys) all = absurd all
equal_in_step (x ∷ xs) [] all = absurd all
equal_in_step (x ∷ xs) (y ∷ ys) all = ap (λ (h : HandSeen). h ∷ xs) all.0 ∙ ap (λ (l : List HandSeen). y ∷ l) (equal_in_step xs ys all.1)

pub zip_same : (xs ys : List HandSeen) → xs ≡ ys → AllZip (λ (x : HandSeen) (y : HandSeen). x ≡ y) xs ys
zip_same [] [] is = tt
zip_same [] (y ∷ ys) is = absurd cc
zip_same (x ∷ xs) [] is = absurd cc
zip_same (x ∷ xs) (y ∷ ys) is = (ap (first_of x) is, zip_same xs ys (ap rest_of is))

-- What was written through a slice of all of a list is all of it.
pub put_back : {A : Type 0} (old new : List A) (len : ℕ) → len ≡ length new → take len (new ++ drop (length new) old) ≡ new
put_back old new len same = ap (λ (n : ℕ). take n (new ++ drop (length new) old)) same ∙ take-append_seam new (drop (length new) old)
