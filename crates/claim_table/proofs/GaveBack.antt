-- The books that seats gave back.
use Rattle.std.proofs.Common.{◌≡◌, ℕ, zero, suc, Bool, true, false, ◌≢◌, ◌⊎◌, List, [], ◌∷◌, ◌++◌, set, sym, refl, ap, ◌∙◌, subst, inl, inr, ⊎_elim, arith}
use mathlib.Core.Logic.{dite}
use mathlib.Core.Option.{some, some-injective, some-ne-none}
use native.Mathlib.Decide.{ℕ_discrete}
use lib.ListN.{get_elem?}
use Rattle.atomic_table.proofs.Lists.{set_else}
use Rattle.key_state.specs.declared.seen.BookSeen.{BookSeen}
use Rattle.claim_table.specs.Sums.{Each, Among}
use Rattle.claim_table.specs.Views.{parts_in, parts, gave_by}
use Rattle.claim_table.specs.Rule.{Claims, Counts}
use Rattle.claim_table.specs.declared.view.View.{View}
use Rattle.claim_table.specs.declared.view.Made.{Made}
use Rattle.claim_table.proofs.Sums.{terms_le}

pub among_left : {A : Type 0} (x : A) (xs ys : List A) → Among x xs → Among x (xs ++ ys)
among_left x [] ys h = absurd h
among_left x (z ∷ xs) ys h = ⊎_elim (λ (e : x ≡ z). inl e) (λ (t : Among x xs). inr (among_left x xs ys t)) h

pub among_right : {A : Type 0} (x : A) (xs ys : List A) → Among x ys → Among x (xs ++ ys)
among_right x [] ys h = h
among_right x (z ∷ xs) ys h = inr (among_right x xs ys h)

pub among_either : {A : Type 0} (x : A) (xs ys : List A) → Among x (xs ++ ys) → Among x xs ⊎ Among x ys
among_either x [] ys h = inr h
among_either x (z ∷ xs) ys h = ⊎_elim (λ (e : x ≡ z). inl (inl e)) (λ (t : Among x (xs ++ ys)). ⊎_elim (λ (l : Among x xs). inl (inr l)) (λ (r : Among x ys). inr r) (among_either x xs ys t)) h

pub among_more : {A : Type 0} (x y : A) (xs ys : List A) → (Among x xs → Among x ys) → Among x (y ∷ xs) → Among x (y ∷ ys)
among_more x y xs ys f h = ⊎_elim (λ (e : x ≡ y). inl e) (λ (t : Among x xs). inr (f t)) h

pub each_of : {A : Type 0} (P : A → Type 0) (xs : List A) → ((x : A) → Among x xs → P x) → Each P xs
each_of P [] f = tt
each_of P (x ∷ xs) f = (f x (inl refl), each_of P xs (λ y h. f y (inr h)))

pub each_among : {A : Type 0} (P : A → Type 0) (x : A) (xs : List A) → Each P xs → Among x xs → P x
each_among P x [] each h = absurd h
each_among P x (y ∷ xs) each h = ⊎_elim (λ (e : x ≡ y). subst P (sym e) each.0) (λ (t : Among x xs). each_among P x xs each.1 t) h

pub each_append : {A : Type 0} (P : A → Type 0) (xs ys : List A) → Each P xs → Each P ys → Each P (xs ++ ys)
each_append P [] ys front back = back
each_append P (x ∷ xs) ys front back = (front.0, each_append P xs ys front.1 back)

pub each_front : {A : Type 0} (P : A → Type 0) (xs ys : List A) → Each P (xs ++ ys) → Each P xs
each_front P [] ys h = tt
each_front P (x ∷ xs) ys h = (h.0, each_front P xs ys h.1)

each_back : {A : Type 0} (P : A → Type 0) (xs ys : List A) → Each P (xs ++ ys) → Each P ys
each_back P [] ys h = h
each_back P (x ∷ xs) ys h = each_back P xs ys h.1

-- a fact of each book that was given back
module _ (P : BookSeen → Type 0) where
  pub each_at : (views : List View) (j : ℕ) (u : View) → get_elem? views j ≡ some u → Each P (gave_by views) → Each P u.gave
  each_at [] j u e h = absurd (some-ne-none u (sym e))
  each_at (v ∷ vs) zero u e h = subst (λ (w : View). Each P w.gave) (some-injective v u e) (each_front P v.gave (gave_by vs) h)
  each_at (v ∷ vs) (suc j) u e h = each_at vs j u e (each_back P v.gave (gave_by vs) h)

  -- one view changes, and it is true of each that this has
  pub each_set : (views : List View) (id : ℕ) (w : View) → Each P w.gave → Each P (gave_by views) → Each P (gave_by (set views id w))
  each_set [] id w mine h = tt
  each_set (v ∷ vs) zero w mine h = each_append P w.gave (gave_by vs) mine (each_back P v.gave (gave_by vs) h)
  each_set (v ∷ vs) (suc id) w mine h = each_append P v.gave (gave_by (set vs id w)) (each_front P v.gave (gave_by vs) h) (each_set vs id w mine (each_back P v.gave (gave_by vs) h))

  -- there is one view more
  pub each_snoc : (views : List View) (r : View) → Each P r.gave → Each P (gave_by views) → Each P (gave_by (views ++ r ∷ []))
  each_snoc [] r mine h = each_append P r.gave [] mine tt
  each_snoc (v ∷ vs) r mine h = each_append P v.gave (gave_by (vs ++ r ∷ [])) (each_front P v.gave (gave_by vs) h) (each_snoc vs r mine (each_back P v.gave (gave_by vs) h))

gave_at : (x : BookSeen) (views : List View) → Among x (gave_by views) → (j : ℕ) × (u : View) × (get_elem? views j ≡ some u) × Among x u.gave
gave_at x [] h = absurd h
gave_at x (v ∷ vs) h = ⊎_elim (λ (l : Among x v.gave). (0, v, refl, l)) (λ (r : Among x (gave_by vs)). let t = gave_at x vs r in (suc t.0, t.1, t.2, t.3)) (among_either x v.gave (gave_by vs) h)

at_gave : (x : BookSeen) (views : List View) (j : ℕ) (u : View) → get_elem? views j ≡ some u → Among x u.gave → Among x (gave_by views)
at_gave x [] j u e h = absurd (some-ne-none u (sym e))
at_gave x (v ∷ vs) zero u e h = among_left x v.gave (gave_by vs) (subst (λ (w : View). Among x w.gave) (sym (some-injective v u e)) h)
at_gave x (v ∷ vs) (suc j) u e h = among_right x v.gave (gave_by vs) (at_gave x vs j u e h)

set_there : (views : List View) (id : ℕ) (v w : View) → get_elem? views id ≡ some v → get_elem? (set views id w) id ≡ some w
set_there [] id v w e = absurd (some-ne-none v (sym e))
set_there (x ∷ xs) zero v w e = refl
set_there (x ∷ xs) (suc id) v w e = set_there xs id v w e

same_view : (views : List View) (i j : ℕ) (v u : View) → j ≡ i → get_elem? views i ≡ some v → get_elem? views j ≡ some u → u ≡ v
same_view views i j v u same me at-j = some-injective u v (sym at-j ∙ (ap (λ (k : ℕ). get_elem? views k) same ∙ me))

-- one view changes, and has what it gave back
pub gave_set : (x : BookSeen) (views : List View) (id : ℕ) (v w : View) → get_elem? views id ≡ some v → (Among x v.gave → Among x w.gave) → Among x (gave_by views) → Among x (gave_by (set views id w))
gave_set x views id v w me more h =
    let t = gave_at x views h in
    dite (ℕ_discrete t.0 id)
    (λ (e : t.0 ≡ id). at_gave x (set views id w) id w (set_there views id v w me) (more (subst (λ (u : View). Among x u.gave) (same_view views id t.0 v t.1 e me t.2) t.3)))
    (λ (ne : t.0 ≢ id). at_gave x (set views id w) t.0 t.1 (set_else views id t.0 w ne ∙ t.2) t.3)

-- one view has a book more
pub gave_new : (x : BookSeen) (views : List View) (id : ℕ) (v w : View) → get_elem? views id ≡ some v → Among x w.gave → Among x (gave_by (set views id w))
gave_new x views id v w me h = at_gave x (set views id w) id w (set_there views id v w me) h

-- there is one view more
pub gave_snoc : (x : BookSeen) (views : List View) (r : View) → Among x (gave_by views) → Among x (gave_by (views ++ r ∷ []))
gave_snoc x [] r h = absurd h
gave_snoc x (v ∷ vs) r h = ⊎_elim (λ (l : Among x v.gave). among_left x v.gave (gave_by (vs ++ r ∷ [])) l) (λ (t : Among x (gave_by vs)). among_right x v.gave (gave_by (vs ++ r ∷ [])) (gave_snoc x vs r t)) (among_either x v.gave (gave_by vs) h)

-- one view takes over what another gave back
pub gave_joined : (x : BookSeen) (views : List View) (id other : ℕ) (v u w d : View) → other ≢ id → get_elem? views id ≡ some v → get_elem? views other ≡ some u → (Among x v.gave → Among x w.gave) → (Among x u.gave → Among x w.gave)
    → Among x (gave_by views) → Among x (gave_by (set (set views id w) other d))
gave_joined x views id other v u w d ne me them mine theirs h =
    let vs : List View = set views id w in
    let here : get_elem? (set vs other d) id ≡ some w = set_else vs other id d (λ (e : id ≡ other). ne (sym e)) ∙ set_there views id v w me in
    let t = gave_at x views h in
    dite (ℕ_discrete t.0 id)
    (λ (e : t.0 ≡ id). at_gave x (set vs other d) id w here (mine (subst (λ (z : View). Among x z.gave) (same_view views id t.0 v t.1 e me t.2) t.3)))
    (λ (apart : t.0 ≢ id). dite (ℕ_discrete t.0 other)
    (λ (e : t.0 ≡ other). at_gave x (set vs other d) id w here (theirs (subst (λ (z : View). Among x z.gave) (same_view views other t.0 u t.1 e them t.2) t.3)))
    (λ (far : t.0 ≢ other). at_gave x (set vs other d) t.0 t.1 (set_else vs other t.0 d far ∙ (set_else views id t.0 w apart ∙ t.2)) t.3))

asleep : (b : Bool) → (b ≡ false → ⊥) → b ≡ true
asleep true f = refl
asleep false f = absurd (f refl)

-- where one view has all parts, it has all that was given back
pub gave_alone : (x : BookSeen) (made : Made) (book : BookSeen) (words : List ℕ) (views : List View) (a : Claims made book words views) (o : Counts made book views) (id : ℕ) (v : View) → get_elem? views id ≡ some v → v.parts ≡ parts_in made → Among x (gave_by views) → Among x v.gave
gave_alone x made book words views a o id v me all h =
    let t = gave_at x views h in
    dite (ℕ_discrete t.0 id)
    (λ (e : t.0 ≡ id). subst (λ (u : View). Among x u.gave) (same_view views id t.0 v t.1 e me t.2) t.3)
    (λ (ne : t.0 ≢ id).
    let spent : t.1.spent ≡ true = asleep t.1.spent (λ q. let f = a.each t.0 t.1 t.2 in absurd (omega (arith, (f.live q).1, terms_le parts views id t.0 v t.1 ne me t.2, a.whole))) in
    let none-left : Among x [] = subst (Among x) (o.idle t.0 t.1 t.2 spent).3 t.3 in absurd none-left)
